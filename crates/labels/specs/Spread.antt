-- Two terms of a class of s members are at most (s − 1) × W apart, where W bounds the offsets of the equalities joined.
use Prim.Native.Nat.{ℕ, zero, suc, ◌+◌, ◌*◌, ◌^◌, ◌<◌, ◌≤◌}
use Rattle.std.specs.Prelude.{◌≡◌, ◌≢◌, Bool, true, false, eqb, ℤ, ◌+ℤ◌, ◌-ℤ◌}
use Rattle.std.proofs.Math.Path.{refl}
use Rattle.std.proofs.Common.{sym, ◌∙◌, mul-le-mul_right}
use Rattle.std.proofs.Math.Logic.{⊎_elim}
use native.Mathlib.Omega.{arith}
use borrow.Author.Tests.{eq-eqb, ne_eqb}
use Rattle.integers.specs.Linear.{up, dn, linear, value, ‹◌›, ◌⊕◌, ◌⊖◌}
use Rattle.integers.specs.Within.{Within}
use Rattle.rules.specs.Assignments.{Placement}
use Rattle.labels.specs.Relabel.{Relabelled, same_or_not}

-- no offset of a labelling of at most 512 terms, and no sum of four such, leaves 64 bits
abbrev pub far : ℕ
far = 2 ^ 41

abbrev indicator : Bool → ℕ
indicator true = 1
indicator false = 0

-- how many of the terms below n have the representative r
unfoldable pub members : ℕ → Placement → ℕ → ℕ
members zero P r = 0
members (suc n) P r = indicator (eqb (P.block n) r) + members n P r

indicator_at_most : (b : Bool) → indicator b ≤ 1
indicator_at_most true = omega arith
indicator_at_most false = omega arith

pub members_at_most : (n : ℕ) (P : Placement) (r : ℕ) → members n P r ≤ n
unfolding members
members_at_most zero P r = omega arith
members_at_most (suc n) P r = omega (arith, members_at_most n P r, indicator_at_most (eqb (P.block n) r))

-- a class that has a term has a member
pub members_positive : (n : ℕ) (P : Placement) (t : ℕ) → t < n → 1 ≤ members n P (P.block t)
unfolding members
members_positive zero P t h = absurd (omega arith)
members_positive (suc n) P t h =
    ⊎_elim
    (λ (e : t ≡ n). rw (e, eq-eqb (P.block n) (P.block n) refl) (omega arith))
    (λ (m : t ≢ n). omega (arith, members_positive n P t (omega arith)))
    (same_or_not t n)

module _ {P Q : Placement} {from to : ℕ} {d : ℤ} where
  pub fewer : (n : ℕ) → Relabelled (suc n) P Q from d to → Relabelled n P Q from d to
  fewer n R = record {
    moved_block = λ {t} h e. R.moved_block (omega arith) e;
    moved_position = λ {t} h e. R.moved_position (omega arith) e;
    kept_block = λ {t} h e. R.kept_block (omega arith) e;
    kept_position = λ {t} h e. R.kept_position (omega arith) e;
  }

  -- the joined class has the members of both
  pub members_joined : (n : ℕ) → Relabelled n P Q from d to → from ≢ to → members n Q to ≡ members n P to + members n P from
  unfolding members
  members_joined zero R m = omega arith
  members_joined (suc n) R m =
      let ih = members_joined n (fewer n R) m in
      ⊎_elim
      (λ (e : P.block n ≡ from).
      rw (R.moved_block (omega arith) e, e, eq-eqb to to refl, ne_eqb from to m, eq-eqb from from refl) (omega arith))
      (λ (k : P.block n ≢ from). rw (R.kept_block (omega arith) k, ne_eqb (P.block n) from k) (omega arith))
      (same_or_not (P.block n) from)

  -- the other classes keep theirs
  pub members_kept : (n r : ℕ) → Relabelled n P Q from d to → r ≢ from → r ≢ to → members n Q r ≡ members n P r
  unfolding members
  members_kept zero r R m k = refl
  members_kept (suc n) r R m k =
      let ih = members_kept n r (fewer n R) m k in
      ⊎_elim
      (λ (e : P.block n ≡ from).
      rw (R.moved_block (omega arith) e, e, ne_eqb to r (λ f. k (sym f)), ne_eqb from r (λ f. m (sym f))) (omega arith))
      (λ (j : P.block n ≢ from). rw (R.kept_block (omega arith) j) (omega arith))
      (same_or_not (P.block n) from)

-- W bounds the distances of a labelling of n terms: the offset of t less that of u is at most (s − 1) × W in a class of s members
abbrev pub Spread : ℕ → ℕ → Placement → Type 0
Spread W n P =
    (t u : ℕ) →
    t < n →
    u < n →
    P.block t ≡ P.block u →
    up (P.position t) + dn (P.position u) + W ≤ dn (P.position t) + up (P.position u) + members n P (P.block t) * W

module _
    (W n : ℕ)
    (P Q : Placement)
    (from : ℕ)
    (d : ℤ)
    (to : ℕ)
    (R : Relabelled n P Q from d to)
    (m : from ≢ to)
    (a b : ℕ)
    (z : ℤ)
    (ha : a < n)
    (hb : b < n)
    (ea : P.block a ≡ from)
    (eb : P.block b ≡ to)
    (ed : d ≡ z +ℤ P.position b -ℤ P.position a)
    (bound : Within W z)
    (S : Spread W n P)
  where
    abbrev Near : ℕ → ℕ → Type 0
    Near t u = up (Q.position t) + dn (Q.position u) + W ≤ dn (Q.position t) + up (Q.position u) + members n Q (Q.block t) * W

    both_moved : (t u : ℕ) → t < n → u < n → P.block t ≡ from → P.block u ≡ from → Near t u
    both_moved t u ht hu et eu =
        rw (R.moved_block ht et, members_joined n R m)
        (omega (
          linear,
          rw et at (S t u ht hu (et ∙ sym eu)),
          R.moved_position ht et,
          R.moved_position hu eu,
          value (‹ P.position t › ⊕ ‹ d ›),
          value (‹ P.position u › ⊕ ‹ d ›),
        ))

    moved_kept : (t u : ℕ) → t < n → u < n → P.block t ≡ from → P.block u ≢ from → P.block u ≡ to → Near t u
    moved_kept t u ht hu et ku eu =
        rw (R.moved_block ht et, members_joined n R m)
        (omega (
          linear,
          rw et at (S t a ht ha (et ∙ sym ea)),
          rw eb at (S b u hb hu (eb ∙ sym eu)),
          ed,
          R.moved_position ht et,
          R.kept_position hu ku,
          value (‹ P.position t › ⊕ ‹ d ›),
          value (‹ z › ⊕ ‹ P.position b › ⊖ ‹ P.position a ›),
        ))

    kept_moved : (t u : ℕ) → t < n → u < n → P.block t ≢ from → P.block t ≡ to → P.block u ≡ from → Near t u
    kept_moved t u ht hu kt et eu =
        rw (R.kept_block ht kt, et, members_joined n R m)
        (omega (
          linear,
          rw et at (S t b ht hb (et ∙ sym eb)),
          rw ea at (S a u ha hu (ea ∙ sym eu)),
          ed,
          R.kept_position ht kt,
          R.moved_position hu eu,
          value (‹ P.position u › ⊕ ‹ d ›),
          value (‹ z › ⊕ ‹ P.position b › ⊖ ‹ P.position a ›),
        ))

    both_kept : (t u : ℕ) → t < n → u < n → P.block t ≢ from → P.block u ≢ from → P.block t ≡ P.block u → Near t u
    both_kept t u ht hu kt ku e =
        ⊎_elim
        (λ (et : P.block t ≡ to).
        rw (R.kept_block ht kt, et, members_joined n R m)
        (omega (linear, rw et at (S t u ht hu e), R.kept_position ht kt, R.kept_position hu ku)))
        (λ (mt : P.block t ≢ to).
        rw (R.kept_block ht kt, members_kept n (P.block t) R kt mt)
        (omega (linear, S t u ht hu e, R.kept_position ht kt, R.kept_position hu ku)))
        (same_or_not (P.block t) to)

    -- a join at an offset within W keeps the law
    pub keeps_spread : Spread W n Q
    keeps_spread t u ht hu e =
        ⊎_elim
        (λ (et : P.block t ≡ from).
        ⊎_elim
        (λ (eu : P.block u ≡ from). both_moved t u ht hu et eu)
        (λ (ku : P.block u ≢ from). moved_kept t u ht hu et ku (sym (R.kept_block hu ku) ∙ sym e ∙ R.moved_block ht et))
        (same_or_not (P.block u) from))
        (λ (kt : P.block t ≢ from).
        ⊎_elim
        (λ (eu : P.block u ≡ from). kept_moved t u ht hu kt (sym (R.kept_block ht kt) ∙ e ∙ R.moved_block hu eu) eu)
        (λ (ku : P.block u ≢ from). both_kept t u ht hu kt ku (sym (R.kept_block ht kt) ∙ e ∙ R.kept_block hu ku))
        (same_or_not (P.block u) from))
        (same_or_not (P.block t) from)

module _ (W n : ℕ) (P : Placement) (S : Spread W (suc n) P) where
  -- no class of n + 1 terms is wider than n × W
  pub spread_bound : {t u : ℕ} {z : ℤ} → t < suc n → u < suc n → P.block t ≡ P.block u → P.position t ≡ z +ℤ P.position u → Within (n * W) z
  spread_bound {t} {u} {z} ht hu e k =
      let size = mul-le-mul_right W (members_at_most (suc n) P (P.block t)) in
      let size' = mul-le-mul_right W (members_at_most (suc n) P (P.block u)) in
      let v = value (‹ z › ⊕ ‹ P.position u ›) in
      record {
        above = omega (linear, k, v, size, S t u ht hu e);
        below = omega (linear, k, v, size', S u t hu ht (sym e));
      }
