use Rattle.std.proofs.Common.{arith}
use Rattle.tables.specs.Rows.{row_of_proposition}
use Rattle.tables.proofs.proposition_row.Goals as goal

pub returns : goal.returns
unfolding row_of_proposition
returns c = let e = c.bits.ensures in grind (arith, e)
