-- The invariant: the terms before i are done.
use Rattle.std.proofs.Common.{◌-◌, arith}
use Rattle.buckets.specs.Buckets.{key_of}
use Rattle.marking.specs.Marks.{room_kept, Walking, walking_start, walking_more, walking_done, adds_as}
use Rattle.marking.specs.Rows.{MaskPair, OwnRow}
use Rattle.marking.proofs.base.mark_own.Given as goal

abbrev pub invariant-loop-i : goal.invariant-loop-i
invariant-loop-i l = Walking l.places.n (key_of l.places.classes.now) l.a (OwnRow l.places.classes.now l.own l.a) l.i l.initial.pairs l.pairs

abbrev pub decreases-loop-i : goal.decreases-loop-i
decreases-loop-i l = l.places.n - l.i
