-- When sums of bounded offsets fit 64 bits.
use Rattle.std.specs.Prelude.{ℕ, ◌^◌, ◌<◌, ◌≡◌, refl, Bool, true, false, eqb, ℤ, pos, negsuc, neg_ℤ, ◌+ℤ◌, ◌-ℤ◌}
use Rattle.std.proofs.Common.{sym, ◌∙◌, ap, arith, lit<, SFits, to_z, of_z, eqb-true}
use Rattle.std.specs.Int.{w32, w64}
use Rattle.std.proofs.lemmas.Int.{to_z-of_z}
use Rattle.std.proofs.lemmas.Bool.{eqb-false}
use Rattle.integers.specs.Linear.{up, dn}
use Rattle.integers.specs.Compare.{eq_ℤ, eq_eq_ℤ, ne_eq_ℤ}
use Rattle.integers.specs.Within.{Within, within_sum, within_difference, within_negation}

pub within_fits : {B : ℕ} {z : ℤ} → B < 2 ^ 63 → Within B z → SFits w64 z
unfolding up dn
within_fits {z = pos n} h w = record { sfits = omega (arith, w.above) }
within_fits {z = negsuc n} h w = record { sfits = omega (arith, w.below) }

pub fits_within : {z : ℤ} → SFits w32 z → Within (2 ^ 31) z
unfolding up dn
fits_within {z = pos n} f = record { above = omega (arith, f.sfits); below = omega arith }
fits_within {z = negsuc n} f = record { above = omega arith; below = omega (arith, f.sfits) }

pub fits_wider : {z : ℤ} → SFits w32 z → SFits w64 z
fits_wider f = record { sfits = omega (arith, f.sfits) }

-- offsets in code are at most this large: sums, differences and negations of two fit 64 bits
abbrev pub reach : ℕ
reach = 2 ^ 60

pub sum_fits : (a b : ℤ) → Within reach a → Within reach b → SFits w64 (a +ℤ b)
sum_fits a b v w = within_fits (lit< tt) (within_sum v w)

pub difference_fits : (a b : ℤ) → Within reach a → Within reach b → SFits w64 (a -ℤ b)
difference_fits a b v w = within_fits (lit< tt) (within_difference v w)

pub negation_fits : (a : ℤ) → Within reach a → SFits w64 (neg_ℤ a)
negation_fits a w = within_fits (lit< tt) (within_negation w)

-- two numbers are equal where their bits are
pub same_bits : (a b : ℤ) → SFits w64 a → SFits w64 b → eqb (of_z w64 a) (of_z w64 b) ≡ eq_ℤ a b
same_bits a b f g = go (eqb (of_z w64 a) (of_z w64 b)) refl
  where
    go : (t : Bool) → eqb (of_z w64 a) (of_z w64 b) ≡ t → t ≡ eq_ℤ a b
    go true e = sym (eq_eq_ℤ a b (sym (to_z-of_z w64 a f) ∙ ap (to_z w64) (eqb-true (of_z w64 a) (of_z w64 b) e) ∙ to_z-of_z w64 b g))
    go false e = sym (ne_eq_ℤ a b (λ s. eqb-false (of_z w64 a) (of_z w64 b) e (ap (of_z w64) s)))
