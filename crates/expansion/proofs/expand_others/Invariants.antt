-- The invariant: the terms whose homes are in the words before w are done.
use Prim.Native.Nat.{◌+◌, ◌*◌, ◌-◌, ◌≤◌}
use native.Mathlib.Omega.{arith}
use Rattle.marking.specs.Marks.{product_small, room_kept}
use Rattle.expansion.specs.Expand.{ExpandedIn, row_done, row_more, row_start, RowBelow}
use Rattle.expansion.proofs.expand_others.Given as goal

abbrev pub invariant-loop-w : goal.invariant-loop-w
invariant-loop-w l = (64 * l.w ≤ l.terms.n + 64) × ExpandedIn l.terms.n l.terms.homes.now (RowBelow l.terms.homes.now l.i.0 (64 * l.w)) l.initial.table l.table

abbrev pub decreases-loop-w : goal.decreases-loop-w
decreases-loop-w l = l.terms.n + 64 - 64 * l.w
