use Rattle.std.proofs.Common.{arith}
use Rattle.std.proofs.lemmas.Grind.{common_steps}
use Rattle.tables.specs.Records.{is_same_atom}
use Rattle.tables.proofs.atoms.same_atom.Goals as goal

pub returns-then-a-b : goal.returns-then-a-b
unfolding is_same_atom
returns-then-a-b c = grind (arith, common_steps)

pub returns-else-a-b : goal.returns-else-a-b
unfolding is_same_atom
returns-else-a-b c = grind (arith, common_steps)
