-- The invariant: none of those before k is one.
use Rattle.std.proofs.Common.{rules}
use Prim.Native.Nat.{◌-◌}
use mathlib.Core.Path.{sym, ◌∙◌}
use native.Mathlib.Omega.{arith}
use Rattle.lists.specs.Booleans.{false_true}
use Rattle.points.specs.Places.{place_slot, slot_of, slot_start, slot_link}
use Rattle.questions.specs.Searches.{side_row, found, OneWay, one_way_slot, Seeking, seeking_start, seeking_more, seeking_done}
use Rattle.questions.specs.Sides.{distance, distances}
use Rattle.questions.proofs.any_side.Given as goal

abbrev pub invariant-loop-k : goal.invariant-loop-k
invariant-loop-k l =
    Seeking l.facts.m (place_slot l.facts.sides.left_classes.now (distances l.facts.m l.facts.sides.left_heights.now l.facts.sides.right_heights.now)) (slot_of l.x.class (distance l.x.height l.y.height)) (OneWay l.facts.sides.left_classes.now l.facts.sides.left_heights.now l.facts.sides.right_classes.now l.facts.sides.right_heights.now l.facts.m l.x.class l.x.height l.y.class l.y.height) l.k

abbrev pub decreases-loop-k : goal.decreases-loop-k
decreases-loop-k l = l.facts.m - l.k
