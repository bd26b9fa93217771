-- A join of two classes, as a relation of the labellings before and after it: it keeps what held, and lowers the sum of the
-- representatives' numbers.
use Prim.Native.Nat.{ℕ, zero, suc, ◌+◌, ◌<◌, ◌≤◌}
use Rattle.std.specs.Prelude.{◌≡◌, refl, ◌≢◌, ℤ, neg_ℤ, ◌+ℤ◌, ◌-ℤ◌}
use Rattle.std.proofs.Common.{sym}
use Rattle.std.proofs.Math.Logic.{⊎_elim}
use native.Mathlib.Omega.{arith}
use Rattle.integers.specs.Linear.{linear, value, ‹◌›, ◌⊕◌, ◌⊖◌, ⊝◌}
use Rattle.rules.specs.Assignments.{Placement, Holds}
use Rattle.labels.specs.Relabel.{Relabelled, same_or_not, keeps_holds, joins_block}
use Rattle.labels.specs.Spread.{fewer}

-- Q is P with the class of a moved to that of b, where a = z + b
abbrev pub Linked : ℕ → Placement → Placement → ℕ → ℤ → ℕ → Type 0
Linked n P Q a z b = Relabelled n P Q (P.block a) (z +ℤ P.position b -ℤ P.position a) (P.block b)

-- Q is P after a = z + b was joined, two classes of P
pub data Joined (n : ℕ) (P Q : Placement) (a : ℕ) (z : ℤ) (b : ℕ) : Type 0 where
  down : P.block b < P.block a → Linked n P Q a z b → Joined n P Q a z b
  rise : P.block a < P.block b → Linked n P Q b (neg_ℤ z) a → Joined n P Q a z b

-- the sum of the representatives' numbers
unfoldable pub weight : ℕ → Placement → ℕ
weight zero P = 0
weight (suc n) P = P.block n + weight n P

module _ (P Q : Placement) (from : ℕ) (d : ℤ) (to : ℕ) (h : to < from) where
  weight_at_most : (n : ℕ) → Relabelled n P Q from d to → weight n Q ≤ weight n P
  unfolding weight
  weight_at_most zero R = omega arith
  weight_at_most (suc n) R =
      let ih = weight_at_most n (fewer n R) in
      ⊎_elim
      (λ (e : P.block n ≡ from). omega (arith, ih, R.moved_block (omega arith) e))
      (λ (m : P.block n ≢ from). omega (arith, ih, R.kept_block (omega arith) m))
      (same_or_not (P.block n) from)

  weight_less : (n : ℕ) → Relabelled n P Q from d to → (a : ℕ) → a < n → P.block a ≡ from → weight n Q < weight n P
  unfolding weight
  weight_less zero R a b e = absurd (omega arith)
  weight_less (suc n) R a b e =
      ⊎_elim
      (λ (s : a ≡ n). let f : P.block n ≡ from = rw s at e in omega (arith, weight_at_most n (fewer n R), R.moved_block (omega arith) f))
      (λ (m : a ≢ n).
      let ih = weight_less n (fewer n R) a (omega arith) e in
      ⊎_elim
      (λ (f : P.block n ≡ from). omega (arith, ih, R.moved_block (omega arith) f))
      (λ (k : P.block n ≢ from). omega (arith, ih, R.kept_block (omega arith) k))
      (same_or_not (P.block n) from))
      (same_or_not a n)

module _ (n : ℕ) (P Q : Placement) (a : ℕ) (z : ℤ) (b : ℕ) (ha : a < n) (hb : b < n) where
  pub joined_lighter : Joined n P Q a z b → weight n Q < weight n P
  joined_lighter (down h R) = weight_less P Q _ _ _ h n R a ha refl
  joined_lighter (rise h R) = weight_less P Q _ _ _ h n R b hb refl

  -- what held holds
  pub joined_keeps : Joined n P Q a z b → {t u : ℕ} {y : ℤ} → t < n → u < n → Holds P t y u → Holds Q t y u
  joined_keeps (down h R) ht hu e = keeps_holds n P Q _ _ _ R ht hu e
  joined_keeps (rise h R) ht hu e = keeps_holds n P Q _ _ _ R ht hu e

  -- and what was joined holds
  pub joined_holds : Joined n P Q a z b → Holds Q a z b
  joined_holds (down h R) =
      let pa = P.position a in
      let pb = P.position b in
      record {
        same_block = joins_block n P Q _ _ _ R ha hb (λ e. omega arith) refl refl;
        at_offset = omega (linear, R.moved_position ha refl, R.kept_position hb (λ e. omega arith), value (‹ pa › ⊕ (‹ z › ⊕ ‹ pb › ⊖ ‹ pa ›)), value (‹ z › ⊕ ‹ Q.position b ›));
      }
  joined_holds (rise h R) =
      let pa = P.position a in
      let pb = P.position b in
      record {
        same_block = sym (joins_block n P Q _ _ _ R hb ha (λ e. omega arith) refl refl);
        at_offset = omega (linear, R.moved_position hb refl, R.kept_position ha (λ e. omega arith), value (‹ pb › ⊕ (⊝ ‹ z › ⊕ ‹ pa › ⊖ ‹ pb ›)), value (‹ z › ⊕ ‹ Q.position b ›));
      }
