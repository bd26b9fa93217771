-- The invariant: the columns before 64 * w are copied.
use Prim.Native.Nat.{◌-◌}
use native.Mathlib.Omega.{arith}
use Rattle.marking.specs.Marks.{product_small}
use Rattle.expansion.specs.Rows.{Copying, copying_start, copying_more, copying_done}
use Rattle.expansion.proofs.copy_row.Given as goal

abbrev pub invariant-loop-w : goal.invariant-loop-w
invariant-loop-w l = Copying l.n l.h.0 l.i.0 l.w l.initial.table l.table

abbrev pub decreases-loop-w : goal.decreases-loop-w
decreases-loop-w l = l.n - l.w
