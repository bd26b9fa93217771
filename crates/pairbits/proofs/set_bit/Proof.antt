-- `pairbits::set_bit` meets its contract.
use mathlib.Core.Bool.{true}
use borrow.Author.Rules.{rules}
use Rattle.pairbits.specs.Bits.{shifted_in}
use Rattle.pairbits.proofs.set_bit.Statement.{statement}
use Rattle.pairbits.proofs.set_bit.Tie as tie

pub set_bit_spec : {M : Type 1} → statement M
set_bit_spec =
    tie.close
    (tie.spec (λ c. search rules) (λ c. search rules) (λ c. search rules) (λ c. search rules) (λ c. search rules) (λ c. shifted_in true c.before.args.bytes.now c.before.args.i))
