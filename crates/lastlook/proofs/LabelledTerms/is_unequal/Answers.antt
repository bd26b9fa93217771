use Rattle.lastlook.specs.Addresses.{not_met_false, met_true, unequal_by}
use Rattle.lastlook.proofs.LabelledTerms.is_unequal.Goals as goal

pub returns-then-same_address : goal.returns-then-same_address
returns-then-same_address c = unequal_by (met_true (rw c.if-same_address.true at c.same_address.ensures)) c.same_label.result c.same_label.ensures

pub returns-else-same_address : goal.returns-else-same_address
returns-else-same_address c = rw c.if-same_address.false (not_met_false (rw c.if-same_address.false at c.same_address.ensures))
