-- The invariant: the first k propositions are done.
use Rattle.std.proofs.Common.{◌-◌, arith}
use Rattle.marking.specs.Marks.{Marking, marking_start, marking_more, marking_done, room_kept}
use Rattle.marking.specs.Classes.{ListedPair}
use Rattle.marking.proofs.base.mark_listed.Given as goal

abbrev pub invariant-loop-k : goal.invariant-loop-k
invariant-loop-k l =
    Marking l.places.n l.m l.k (ListedPair l.places.n l.places.classes.now l.places.heights.now l.sides.left_classes.now l.sides.left_heights.now l.sides.right_classes.now l.sides.right_heights.now) l.initial.pairs l.pairs

abbrev pub decreases-loop-k : goal.decreases-loop-k
decreases-loop-k l = l.m - l.k
