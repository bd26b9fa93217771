-- `refusals::terms::atom_bit` meets its contract.
use Rattle.std.proofs.Common.{eq-eqb, ne_eqb}
use Rattle.refusals.specs.Listed.{bit_of_atom}
use Rattle.refusals.proofs.terms.atom_bit.Goals as goal

pub returns-then-r-eq-VARIABLE : goal.returns-then-r-eq-VARIABLE
unfolding bit_of_atom
returns-then-r-eq-VARIABLE c = rw (eq-eqb _ 1 c.if-r-eq-VARIABLE.true)

pub returns-else-r-eq-VARIABLE : goal.returns-else-r-eq-VARIABLE
unfolding bit_of_atom
returns-else-r-eq-VARIABLE c = rw (ne_eqb _ 1 c.if-r-eq-VARIABLE.false)
