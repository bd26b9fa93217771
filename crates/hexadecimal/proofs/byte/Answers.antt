-- The value of a digit is below 16.
use Rattle.std.proofs.Common.{sym, arith}
use Rattle.hexadecimal.specs.Hex.{spelled_value, digit_below}
use Rattle.hexadecimal.proofs.byte.Goals as goal

pub overflow_mul-result : goal.overflow_mul-result
overflow_mul-result c = omega (arith, digit_below _ _ (spelled_value _ _ (sym c.in_ok-digit.ensures)))

pub overflow_add-result : goal.overflow_add-result
overflow_add-result c =
    omega (arith, digit_below _ _ (spelled_value _ _ (sym c.in_ok-digit.ensures)), digit_below _ _ (spelled_value _ _ (sym c.in_ok-digit-2.ensures)))
