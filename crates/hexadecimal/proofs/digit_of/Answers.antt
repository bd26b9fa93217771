use Rattle.std.proofs.Common.{arith}
use Rattle.text.proofs.Digits.{decimal_digit, letter_digit}
use Rattle.hexadecimal.proofs.digit_of.Goals as goal

pub returns-then-v-lt10 : goal.returns-then-v-lt10
returns-then-v-lt10 c = omega (arith, decimal_digit c.args.v (omega arith))

pub returns-else-v-lt10 : goal.returns-else-v-lt10
returns-else-v-lt10 c = omega (arith, letter_digit c.args.v (omega arith) (omega arith))
