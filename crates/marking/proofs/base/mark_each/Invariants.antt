-- The invariant: the first a classes are done.
use Rattle.std.proofs.Common.{◌-◌, arith}
use Rattle.marking.specs.Marks.{Marking, marking_start, marking_more, marking_done, room_kept}
use Rattle.marking.specs.Rows.{ClassRows, all_classes}
use Rattle.marking.proofs.base.mark_each.Given as goal

abbrev pub invariant-loop-a : goal.invariant-loop-a
invariant-loop-a l = Marking l.places.n l.places.n l.a (ClassRows l.places.n l.apart l.places.classes.now l.places.heights.now) l.initial.pairs l.pairs

abbrev pub decreases-loop-a : goal.decreases-loop-a
decreases-loop-a l = l.places.n - l.a
