-- `marking::between::mark_place` meets its contract.
use Rattle.points.specs.Places.{slot_link}
use Rattle.marking.specs.Marks.{walking_more}
use Rattle.marking.specs.Pairs.{PairHere, here_slot}
use Rattle.marking.proofs.between.mark_place.Goals as goal

pub loop-j-preserved : goal.loop-j-preserved
loop-j-preserved c =
    let s = c.args in
    let P = s.places.now in
    rw c.linked-j-in-loop-j.ensures
    (walking_more (PairHere P.classes.now P.heights.now s.at.class s.at.height s.i.0) (λ j x y h e. here_slot s.i.0 j x y e)
    c.loop-j-test.true (slot_link P.chained.by_slot c.loop-j.j c.loop-j-test.true) c.loop-j.invariant c.mark_if.ensures)
