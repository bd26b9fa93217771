use Rattle.std.proofs.Common.{arith}
use Rattle.tables.specs.Rows.{row_of_question}
use Rattle.tables.proofs.question_row.Goals as goal

pub returns : goal.returns
unfolding row_of_question
returns c = let e = c.bits.ensures in grind (arith, e)
