use Rattle.std.proofs.Common.{arith}
use Rattle.tables.specs.Rows.{question_of_row}
use Rattle.tables.proofs.question_at.Goals as goal

pub returns : goal.returns
unfolding question_of_row
returns c = rw c.signed.ensures (let e = c.signed.ensures in grind (arith, e))
