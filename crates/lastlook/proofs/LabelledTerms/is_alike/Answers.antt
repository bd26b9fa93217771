use Rattle.std.proofs.Common.{arith}
use Rattle.lastlook.specs.Addresses.{alike_by, not_told}
use Rattle.lastlook.proofs.LabelledTerms.is_alike.Goals as goal

pub returns-in-None : goal.returns-in-None
returns-in-None c = not_told

pub returns-then-r-self : goal.returns-then-r-self
returns-then-r-self c = alike_by c.in-One.is c.if-r-self.true _ c.same_label.ensures

pub returns-else-r-self : goal.returns-else-r-self
returns-else-r-self c = grind (arith, not_told)

pub returns-in-Many : goal.returns-in-Many
returns-in-Many c = not_told
