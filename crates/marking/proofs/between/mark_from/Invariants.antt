-- The invariant: the terms before i are done.
use Rattle.std.proofs.Common.{◌-◌, arith, rules}
use Rattle.buckets.specs.Buckets.{key_of}
use Rattle.marking.specs.Marks.{room_kept, Walking, walking_start, walking_more, walking_done, adds_as}
use Rattle.marking.specs.Pairs.{PairsFrom, PairsWith}
use Rattle.marking.proofs.between.mark_from.Given as goal

abbrev pub invariant-loop-i : goal.invariant-loop-i
invariant-loop-i l =
    Walking l.places.n (key_of l.places.classes.now) l.x.class (PairsFrom l.places.n l.places.classes.now l.places.heights.now l.x.class l.x.height l.y.class l.y.height) l.i l.initial.pairs l.pairs

abbrev pub decreases-loop-i : goal.decreases-loop-i
decreases-loop-i l = l.places.n - l.i
