-- The invariant: the first k cells are filled.
use Prim.Native.Nat.{◌-◌, ◌≤◌}
use mathlib.Core.Path.{refl}
use native.Mathlib.Omega.{arith}
use lib.ListN.{length}
use Rattle.lists.specs.Filled.{Filled, filled_none, filled_more}
use Rattle.questions.specs.Sides.{slot_of_side}
use Rattle.questions.proofs.sides.side_slots.Given as goal

abbrev pub invariant-loop-k : goal.invariant-loop-k
invariant-loop-k l = (l.k ≤ l.m) × Filled (slot_of_side l.sides.left_classes.now l.sides.left_heights.now l.sides.right_heights.now) 0 l.k (length l.initial.slotted) l.slotted

abbrev pub decreases-loop-k : goal.decreases-loop-k
decreases-loop-k l = l.m - l.k
