-- The invariant: the rows of the terms before i are done.
use Prim.Native.Nat.{◌-◌}
use native.Mathlib.Omega.{arith}
use mathlib.Core.Path.{sym}
use Rattle.marking.specs.Marks.{room_kept}
use Rattle.expansion.specs.Expand.{ExpandedIn, GuestRows, guests_start, guests_skip, guests_more, guests_done}
use borrow.Author.Rules.{rules}
use Rattle.expansion.proofs.copy_rows.Given as goal

abbrev pub invariant-loop-i : goal.invariant-loop-i
invariant-loop-i l = ExpandedIn l.n l.homes (GuestRows l.homes l.i) l.initial.table l.table

abbrev pub decreases-loop-i : goal.decreases-loop-i
decreases-loop-i l = l.n - l.i
