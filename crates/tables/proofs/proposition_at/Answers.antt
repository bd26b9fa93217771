use Rattle.std.proofs.Common.{arith}
use Rattle.tables.specs.Rows.{proposition_of_row}
use Rattle.tables.proofs.proposition_at.Goals as goal

pub returns : goal.returns
unfolding proposition_of_row
returns c = rw c.signed.ensures (let e = c.signed.ensures in grind (arith, e))
