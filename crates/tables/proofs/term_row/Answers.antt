use Rattle.std.proofs.Common.{arith}
use Rattle.tables.specs.Rows.{row_of_term}
use Rattle.tables.proofs.term_row.Goals as goal

pub returns : goal.returns
unfolding row_of_term
returns c = let e = c.bits.ensures in grind (arith, e)
