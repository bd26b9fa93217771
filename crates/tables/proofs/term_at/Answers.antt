use Rattle.std.proofs.Common.{arith}
use Rattle.tables.specs.Rows.{term_of_row}
use Rattle.tables.proofs.term_at.Goals as goal

pub returns : goal.returns
unfolding term_of_row
returns c = rw c.signed.ensures (let e = c.signed.ensures in grind (arith, e))
