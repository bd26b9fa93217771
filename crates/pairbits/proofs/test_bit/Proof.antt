-- `pairbits::test_bit` meets its contract: the mask is a remainder by 2.
use Prim.Native.Nat.{◌/◌, ◌%◌, ◌^◌}
use lib.ListN.{get_or}
use lib.Bits.{and_mask}
use borrow.Author.Rules.{rules}
use Rattle.outcome.specs.PairBits.{bit_of}
use Rattle.pairbits.specs.Bits.{is_set}
use Rattle.pairbits.proofs.test_bit.Statement.{statement}
use Rattle.pairbits.proofs.test_bit.Tie as tie

returns : tie.Need-returns
unfolding is_set bit_of
returns c = rw (and_mask (get_or c.before.args.bytes.now (c.before.args.i / 8) 0 / 2 ^ (c.before.args.i % 8)) 1)

pub test_bit_spec : {M : Type 1} → statement M
test_bit_spec = tie.close (tie.spec (λ c. search rules) (λ c. search rules) (λ c. search rules) returns)
