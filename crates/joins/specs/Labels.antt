-- The labels of n terms as the union-find holds them: what its functions need, and what a step leaves.
use Rattle.std.specs.Prelude.{ℕ, ◌<◌, ◌≤◌, ◌≡◌, refl, List, ℤ, pos, neg_ℤ, length, get_or}
use Rattle.std.proofs.Common.{sym, ◌∙◌, arith, mul-le-mul_right}
use Rattle.integers.specs.Linear.{linear, value, #◌}
use Rattle.rules.specs.Assignments.{Placement}
use Rattle.labels.specs.Relabel.{Rooted}
use Rattle.integers.specs.Within.{Within}
use Rattle.labels.specs.Spread.{far, Spread, members_at_most, keeps_spread}
use Rattle.labels.specs.Joins.{Joined, down, rise}
use Rattle.integers.specs.Within.{within_negation}
use Rattle.tables.specs.Limits.{most, offset_limit}
use Rattle.unionfind.specs.Forest.{Links, flat, Near, flat_rooted}

-- links of n terms, whose distances are within bounds
pub record Labels (n : ℕ) (p : List ℕ) (o : List ℤ) : Type 0 where
  pub few : n ≤ most
  pub links : Links p o
  pub count : length p ≡ n
  pub spread : Spread offset_limit n (flat p o)

-- no position of rooted labels within bounds is far
pub spread_near : {n : ℕ} {P : Placement} → n ≤ most → Rooted n P → Spread offset_limit n P → Near n P
spread_near {n} {P} few R S = record {
  near = λ {t} h.
      let below = R.below h in
      let s = mul-le-mul_right offset_limit (members_at_most n P (P.block t)) in
      let m = mul-le-mul_right offset_limit few in
      let a = S t (P.block t) h below (sym (R.own h)) in
      let b = rw (R.own h) at (S (P.block t) t below h (R.own h)) in
      let z = R.zero_offset h in
      record { above = omega (linear, a, s, m, z, value (# 0)); below = omega (linear, b, s, m, z, value (# 0)) };
}

module _ {n : ℕ} {p : List ℕ} {o : List ℤ} (L : Labels n p o) where
  pub labels_rooted : Rooted n (flat p o)
  labels_rooted = rw (← L.count) (flat_rooted L.links)

  -- what the functions of the union-find need
  pub labels_near : Near (length p) (flat p o)
  labels_near = rw L.count (spread_near L.few labels_rooted L.spread)

-- the labelling is as it was, however the links stand now
pub record Unchanged (p0 : List ℕ) (o0 : List ℤ) (p : List ℕ) (o : List ℤ) : Type 0 where
  pub links : Links p o
  pub same : flat p o ≡ flat p0 o0
  pub long : length p ≡ length p0

pub unchanged_labels : {n : ℕ} {p0 : List ℕ} {o0 : List ℤ} {p : List ℕ} {o : List ℤ} → Unchanged p0 o0 p o → Labels n p0 o0 → Labels n p o
unchanged_labels U L = record { few = L.few; links = U.links; count = U.long ∙ L.count; spread = rw U.same L.spread }

pub unchanged_self : {n : ℕ} {p : List ℕ} {o : List ℤ} → Labels n p o → Unchanged p o p o
unchanged_self L = record { links = L.links; same = refl; long = refl }

pub unchanged_then : {p0 p1 p2 : List ℕ} {o0 o1 o2 : List ℤ} → Unchanged p0 o0 p1 o1 → Unchanged p1 o1 p2 o2 → Unchanged p0 o0 p2 o2
unchanged_then U W = record { links = W.links; same = W.same ∙ U.same; long = W.long ∙ U.long }

-- a join at an offset within the limit keeps labels so
pub joined_labels :
    {n : ℕ} {p0 : List ℕ} {o0 : List ℤ} {p : List ℕ} {o : List ℤ} {a b : ℕ} {z : ℤ} →
    Links p o →
    length p ≡ length p0 →
    a < n →
    b < n →
    Within offset_limit z →
    Joined n (flat p0 o0) (flat p o) a z b →
    Labels n p0 o0 →
    Labels n p o
joined_labels {n} {p0} {o0} {p} {o} {a} {b} {z} K l ha hb w J L = record { few = L.few; links = K; count = l ∙ L.count; spread = spread J }
  where
    spread : Joined n (flat p0 o0) (flat p o) a z b → Spread offset_limit n (flat p o)
    spread (down h R) = keeps_spread offset_limit n (flat p0 o0) (flat p o) _ _ _ R (λ e. omega arith) a b z ha hb refl refl refl w L.spread
    spread (rise h R) = keeps_spread offset_limit n (flat p0 o0) (flat p o) _ _ _ R (λ e. omega arith) b a (neg_ℤ z) hb ha refl refl refl (within_negation w) L.spread

-- the labels in columns: as many of each, each representative a term, no offset far
pub record Columns (reps : List ℕ) (offs : List ℤ) : Type 0 where
  pub few : length reps ≤ most
  pub same_length : length offs ≡ length reps
  pub below : (t : ℕ) → t < length reps → get_or reps t 0 < length reps
  pub near : (t : ℕ) → t < length reps → Within far (get_or offs t (pos 0))
