-- The invariant: the terms before j are done.
use Prim.Native.Nat.{◌-◌}
use native.Mathlib.Omega.{arith}
use Rattle.buckets.specs.Buckets.{key_of}
use Rattle.marking.specs.Marks.{room_kept, Walking, walking_start, walking_more, walking_done, adds_as, One}
use Rattle.expansion.specs.Expand.{GuestPair}
use Rattle.expansion.proofs.set_guests.Given as goal

abbrev pub invariant-loop-j : goal.invariant-loop-j
invariant-loop-j l = Walking l.terms.n (key_of l.terms.homes.now) l.v (GuestPair l.terms.homes.now l.i.0 l.v) l.j l.initial.table l.table

abbrev pub decreases-loop-j : goal.decreases-loop-j
decreases-loop-j l = l.terms.n - l.j
