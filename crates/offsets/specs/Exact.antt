-- What the negations and differences of 32-bit offsets are at the lowest number and around zero.
use Rattle.std.specs.Prelude.{◌-◌, ◌^◌, ◌≡◌, refl, ℤ, pos, negsuc, neg_ℤ, ◌-ℤ◌}
use Rattle.std.specs.Int.{w32}
use Rattle.std.proofs.Common.{SFits, arith}

abbrev pub lowest : ℤ
lowest = negsuc (2 ^ 31 - 1)

abbrev pub highest : ℤ
highest = pos (2 ^ 31 - 1)

pub lowest_fits : SFits w32 lowest
lowest_fits = record { sfits = omega arith }

pub highest_fits : SFits w32 highest
highest_fits = record { sfits = omega arith }

-- the negation of the lowest number, which 32 bits do not hold
pub lowest_negated : neg_ℤ lowest ≡ pos (2 ^ 31)
lowest_negated = refl

pub zero_negated : neg_ℤ (pos 0) ≡ pos 0
zero_negated = refl

pub one_negated : neg_ℤ (pos 1) ≡ negsuc 0
one_negated = refl

pub minus_one_negated : neg_ℤ (negsuc 0) ≡ pos 1
minus_one_negated = refl

-- the farthest differences
pub highest_less_lowest : highest -ℤ lowest ≡ pos (2 ^ 32 - 1)
highest_less_lowest = refl

pub lowest_less_highest : lowest -ℤ highest ≡ negsuc (2 ^ 32 - 2)
lowest_less_highest = refl

pub zero_less_lowest : pos 0 -ℤ lowest ≡ pos (2 ^ 31)
zero_less_lowest = refl

pub lowest_less_itself : lowest -ℤ lowest ≡ pos 0
lowest_less_itself = refl

pub zero_less_one : pos 0 -ℤ pos 1 ≡ negsuc 0
zero_less_one = refl

pub minus_one_less_zero : negsuc 0 -ℤ pos 0 ≡ negsuc 0
minus_one_less_zero = refl
