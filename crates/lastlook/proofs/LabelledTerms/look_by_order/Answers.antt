use Rattle.lastlook.specs.Order.{tested_pair, tested_right, closed_by_order, standing_all}
use Rattle.lastlook.proofs.LabelledTerms.look_by_order.Goals as goal

pub returns-in-Err-Pair : goal.returns-in-Err-Pair
returns-in-Err-Pair c = tested_pair (rw c.in-Err-Pair.field-0-is at c.in-Err-Pair.ensures)

pub returns-then-all_stand : goal.returns-then-all_stand
returns-then-all_stand c =
    let ordered = tested_right c.in-Ok.ensures in
    closed_by_order _ _ _ c.args.self.now.labelled.few ordered (standing_all (rw c.if-all_stand.true at c.all_stand.ensures))
