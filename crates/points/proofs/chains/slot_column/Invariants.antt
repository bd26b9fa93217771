-- The invariant: the first t cells are filled.
use Rattle.std.proofs.Common.{◌-◌, ◌≤◌, length, refl, ◌∙◌, arith}
use Rattle.lists.specs.Filled.{Filled, filled_none, filled_more}
use Rattle.points.specs.Places.{place_slot}
use Rattle.points.proofs.chains.slot_column.Given as goal

abbrev pub invariant-loop-t : goal.invariant-loop-t
invariant-loop-t l = (l.t ≤ l.n) × Filled (place_slot l.classes l.heights) 0 l.t (length l.initial.slotted) l.slotted

abbrev pub decreases-loop-t : goal.decreases-loop-t
decreases-loop-t l = l.n - l.t
