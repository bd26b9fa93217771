-- Equality of whole numbers as a test.
use Rattle.std.specs.Prelude.{ℕ, ◌≡◌, refl, ◌≢◌, Bool, true, false, eqb, ℤ, pos, negsuc}
use Rattle.std.proofs.Common.{ap, arith, eqb-true, eq-eqb}

unfoldable pub eq_ℤ : ℤ → ℤ → Bool
eq_ℤ (pos m) (pos n) = eqb m n
eq_ℤ (pos m) (negsuc n) = false
eq_ℤ (negsuc m) (pos n) = false
eq_ℤ (negsuc m) (negsuc n) = eqb m n

pub eq_ℤ_true : (a b : ℤ) → eq_ℤ a b ≡ true → a ≡ b
unfolding eq_ℤ
eq_ℤ_true (pos m) (pos n) e = ap pos (eqb-true m n e)
eq_ℤ_true (pos m) (negsuc n) e = let z : ◌≡◌ {A = ℕ} 0 1 = cc in absurd (omega arith)
eq_ℤ_true (negsuc m) (pos n) e = let z : ◌≡◌ {A = ℕ} 0 1 = cc in absurd (omega arith)
eq_ℤ_true (negsuc m) (negsuc n) e = ap negsuc (eqb-true m n e)

pub eq_ℤ_refl : (a : ℤ) → eq_ℤ a a ≡ true
unfolding eq_ℤ
eq_ℤ_refl (pos m) = eq-eqb m m refl
eq_ℤ_refl (negsuc m) = eq-eqb m m refl

pub eq_eq_ℤ : (a b : ℤ) → a ≡ b → eq_ℤ a b ≡ true
eq_eq_ℤ a b e = rw e (eq_ℤ_refl b)

pub eq_ℤ_false : (a b : ℤ) → eq_ℤ a b ≡ false → a ≢ b
eq_ℤ_false a b e h = let t = eq_eq_ℤ a b h in let z : ◌≡◌ {A = ℕ} 0 1 = cc in omega arith

pub ne_eq_ℤ : (a b : ℤ) → a ≢ b → eq_ℤ a b ≡ false
ne_eq_ℤ a b n = go (eq_ℤ a b) refl
  where
    go : (t : Bool) → eq_ℤ a b ≡ t → t ≡ false
    go true e = absurd (n (eq_ℤ_true a b e))
    go false e = refl
