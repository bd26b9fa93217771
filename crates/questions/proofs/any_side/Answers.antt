-- `questions::any_side` meets its contract.
use Rattle.std.proofs.Common.{rules}
use Prim.Native.Nat.{◌-◌}
use mathlib.Core.Path.{sym, ◌∙◌}
use native.Mathlib.Omega.{arith}
use Rattle.lists.specs.Booleans.{false_true}
use Rattle.points.specs.Places.{place_slot, slot_of, slot_start, slot_link}
use Rattle.questions.specs.Searches.{side_row, found, OneWay, one_way_slot, Seeking, seeking_start, seeking_more, seeking_done}
use Rattle.questions.specs.Sides.{distance, distances}
use Rattle.questions.proofs.any_side.Goals as goal

pub loop-k-init : goal.loop-k-init
loop-k-init c = let s = c in
    let a = s.args in
    rw (c.linked-k.ensures, c.slot.ensures.0)
    (seeking_start (OneWay a.facts.now.sides.left_classes.now a.facts.now.sides.left_heights.now a.facts.now.sides.right_classes.now a.facts.now.sides.right_heights.now a.facts.now.m a.x.class a.x.height a.y.class a.y.height)
    (one_way_slot a.facts.now.sides.left_classes.now a.facts.now.sides.left_heights.now a.facts.now.sides.right_classes.now a.facts.now.sides.right_heights.now a.x.class a.x.height a.y.class a.y.height (λ k h. side_row (s.args.facts.now.judging.sides k h)) s.requires.rows.1)
    (slot_start s.args.facts.now.judging.by_distance (slot_of a.x.class (distance a.x.height a.y.height)) (rw c.slot.ensures.0 at c.slot.ensures.1)))

pub loop-k-preserved : goal.loop-k-preserved
loop-k-preserved c = let s = c in
    let a = s.args in
    let h = c.loop-k-test.true in
    rw c.linked-k-in-loop-k.ensures
    (seeking_more (OneWay a.facts.now.sides.left_classes.now a.facts.now.sides.left_heights.now a.facts.now.sides.right_classes.now a.facts.now.sides.right_heights.now a.facts.now.m a.x.class a.x.height a.y.class a.y.height)
    (one_way_slot a.facts.now.sides.left_classes.now a.facts.now.sides.left_heights.now a.facts.now.sides.right_classes.now a.facts.now.sides.right_heights.now a.x.class a.x.height a.y.class a.y.height (λ k h. side_row (s.args.facts.now.judging.sides k h)) s.requires.rows.1)
    h (slot_link s.args.facts.now.judging.by_distance c.loop-k.k h) c.loop-k.invariant
    (λ w. false_true (sym c.shows_side.ensures ∙ c.if-shows_side.false) w.test))
