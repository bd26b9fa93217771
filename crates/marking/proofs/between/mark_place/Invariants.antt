-- The invariant: the terms before j are done.
use Rattle.std.proofs.Common.{◌-◌, arith}
use Rattle.points.specs.Places.{place_slot, slot_of, slot_start, slot_link}
use Rattle.marking.specs.Marks.{room_kept, Walking, walking_start, walking_more, walking_done}
use Rattle.marking.specs.Pairs.{PairHere, here_slot}
use Rattle.marking.proofs.between.mark_place.Given as goal

abbrev pub invariant-loop-j : goal.invariant-loop-j
invariant-loop-j l =
    Walking l.places.n (place_slot l.places.classes.now l.places.heights.now) (slot_of l.at.class l.at.height) (PairHere l.places.classes.now l.places.heights.now l.at.class l.at.height l.i.0) l.j l.initial.pairs l.pairs

abbrev pub decreases-loop-j : goal.decreases-loop-j
decreases-loop-j l = l.places.n - l.j
