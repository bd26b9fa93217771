-- `points::leads::add_lead` meets its contract.
use Rattle.std.proofs.Common.{arith, rules}
use Rattle.points.specs.Leads.{leading_more, leading_skip, looking}
use Rattle.points.proofs.leads.add_lead.Goals as goal

pub returns : goal.returns
returns c = rw c.link.ensures (leading_more c.requires.column.1 c.requires.column.0 c.requires.leading (omega (arith, c.if-reads-y.false)))
