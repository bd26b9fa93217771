-- The steps of a closure: a join by a given equality, or of two dereferences of one address. Each keeps a labelling sound, with
-- lowest representatives, and within the bound on its distances.
use Rattle.std.specs.Prelude.{ℕ, ◌<◌, ◌≡◌, refl, ◌≢◌, List, ℤ, pos, neg_ℤ, ◌+ℤ◌, ◌-ℤ◌, length}
use Rattle.std.proofs.Common.{sym, ◌∙◌, arith, mul-le-mul_right}
use Rattle.integers.specs.Linear.{value, ‹◌›, #◌, ⊝◌}
use Rattle.lists.specs.Items.{Item, item_below}
use Rattle.rules.specs.Terms.{Term, deref, Given, WellFormed}
use Rattle.rules.specs.Rules.{Equal, E0, E1, E2}
use Rattle.rules.specs.Assignments.{Placement}
use Rattle.labels.specs.Labelling.{Sound, Lowest, deref_equal}
use Rattle.labels.specs.Relabel.{Relabelled, Rooted, keeps_lowest, keeps_rooted, keeps_sound, distance}
use Rattle.integers.specs.Within.{Within}
use Rattle.labels.specs.Spread.{Spread, members_positive, keeps_spread}

pub record State (ts : List Term) (G : Given) (P : Placement) : Type 0 where
  pub sound : Sound ts G P
  pub lowest : Lowest ts P
  pub rooted : Rooted (length ts) P

-- a = z + b may be joined in the labelling P
pub data Step (ts : List Term) (G : Given) (P : Placement) : ℕ → ℤ → ℕ → Type 0 where
  by_equality : {a b : ℕ} {z : ℤ} → G.equal a z b → Step ts G P a z b
  by_congruence :
      {t1 t2 d1 d2 : ℕ} {z1 z2 : ℤ} →
      Item ts d1 (deref z1 t1) →
      Item ts d2 (deref z2 t2) →
      P.block t1 ≡ P.block t2 →
      z1 +ℤ P.position t1 ≡ z2 +ℤ P.position t2 →
      Step ts G P d1 (pos 0) d2
  reversed : {a b : ℕ} {z : ℤ} → Step ts G P a z b → Step ts G P b (neg_ℤ z) a

-- the magnitudes of the given equalities' offsets are at most W
abbrev pub Bounded : ℕ → Given → Type 0
Bounded W G = (t1 t2 : ℕ) (z : ℤ) → G.equal t1 z t2 → Within W z

module _ (ts : List Term) (G : Given) (wf : WellFormed ts G) (P : Placement) where
  pub step_equal : Sound ts G P → {a b : ℕ} {z : ℤ} → Step ts G P a z b → Equal ts G a z b
  step_equal S (by_equality g) = E0 g
  step_equal S (by_congruence i j b e) = deref_equal ts G P S wf i j b e
  step_equal S (reversed s) = E2 (step_equal S s)

  pub step_listed : {a b : ℕ} {z : ℤ} → Step ts G P a z b → (a < length ts) × (b < length ts)
  step_listed (by_equality g) = wf.equal_listed g
  step_listed (by_congruence {d1 = d1} {d2 = d2} i j b e) = (item_below ts d1 i, item_below ts d2 j)
  step_listed (reversed s) = ((step_listed s).1, (step_listed s).0)

  pub step_within : (W : ℕ) → Bounded W G → {a b : ℕ} {z : ℤ} → Step ts G P a z b → Within W z
  step_within W B (by_equality {a = a} {b = b} {z = z} g) = B a b z g
  step_within W B (by_congruence i j b e) = record { above = omega (arith, value (# 0)); below = omega (arith, value (# 0)) }
  step_within W B (reversed {z = z} s) =
      let h = step_within W B s in
      record { above = omega (arith, value (⊝ ‹ z ›)); below = omega (arith, value (⊝ ‹ z ›)) }

  -- the class of a joined to that of b, whose representative has the lower number
  module _
      (Q : Placement)
      {a b : ℕ}
      {z : ℤ}
      (s : Step ts G P a z b)
      (R : Relabelled (length ts) P Q (P.block a) (z +ℤ P.position b -ℤ P.position a) (P.block b))
      (lower : P.block b < P.block a)
      (S : State ts G P)
    where
      other : P.block a ≢ P.block b
      other e = omega arith

      pub joined_state : State ts G Q
      joined_state =
          let la = (step_listed s).0 in
          let lb = (step_listed s).1 in
          let d = z +ℤ P.position b -ℤ P.position a in
          record {
            sound = keeps_sound ts G P Q (P.block a) d (P.block b) R (distance ts G P la lb S.sound (step_equal S.sound s)) S.sound;
            lowest = keeps_lowest (length ts) P Q (P.block a) d (P.block b) R ts refl (omega arith) S.lowest;
            rooted = keeps_rooted (length ts) P Q (P.block a) d (P.block b) R other S.rooted lb refl;
          }

      pub joined_spread : (W : ℕ) → Bounded W G → Spread W (length ts) P → Spread W (length ts) Q
      joined_spread W B =
          keeps_spread W (length ts) P Q (P.block a) (z +ℤ P.position b -ℤ P.position a) (P.block b) R other a b z (step_listed s).0 (step_listed s).1 refl refl refl (step_within W B s)

-- each term alone in its class
pub record Fresh (n : ℕ) (P : Placement) : Type 0 where
  pub block : (t : ℕ) → t < n → P.block t ≡ t
  pub position : (t : ℕ) → t < n → P.position t ≡ pos 0

pub fresh_state : (ts : List Term) (G : Given) (P : Placement) → Fresh (length ts) P → State ts G P
fresh_state ts G P F = record {
  sound = λ t h. rw (F.block t h, F.position t h) (E1 h);
  lowest = λ t h. omega (arith, F.block t h);
  rooted = record {
    below = λ {t} h. rw (F.block t h) h;
    own = λ {t} h. rw (F.block t h) (F.block t h);
    zero_offset = λ {t} h. rw (F.block t h) (F.position t h);
  };
}

pub fresh_spread : (W n : ℕ) (P : Placement) → Fresh n P → Spread W n P
fresh_spread W n P F t u ht hu e =
    let same : t ≡ u = sym (F.block t ht) ∙ e ∙ F.block u hu in
    rw same (omega (arith, mul-le-mul_right W (members_positive n P u hu)))

-- no step joins two classes any more
pub record Closed (ts : List Term) (G : Given) (P : Placement) : Type 0 where
  pub state : State ts G P
  pub equal_joined : {t1 t2 : ℕ} {z : ℤ} → G.equal t1 z t2 → P.block t1 ≡ P.block t2
  pub derefs_joined :
      {t1 t2 d1 d2 : ℕ} {z1 z2 : ℤ} →
      Item ts d1 (deref z1 t1) →
      Item ts d2 (deref z2 t2) →
      P.block t1 ≡ P.block t2 →
      z1 +ℤ P.position t1 ≡ z2 +ℤ P.position t2 →
      P.block d1 ≡ P.block d2
