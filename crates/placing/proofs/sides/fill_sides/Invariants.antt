-- The invariant: the places of the first k propositions are filled.
use Prim.Native.Nat.{◌-◌}
use mathlib.Core.Path.{sym, ◌∙◌}
use native.Mathlib.Omega.{arith}
use lib.ListN.{length}
use Rattle.tables.specs.Rows.{proposition_in}
use Rattle.placing.specs.Filling.{SidePlaces}
use Rattle.placing.specs.Placed.{sides_none, sides_done}
use Rattle.placing.proofs.sides.fill_sides.Given as goal

abbrev pub invariant-loop-k : goal.invariant-loop-k
invariant-loop-k l = SidePlaces l.n (proposition_in l.propositions) l.reps l.offs l.k l.columns.left_classes l.columns.left_heights l.columns.right_classes l.columns.right_heights

abbrev pub decreases-loop-k : goal.decreases-loop-k
decreases-loop-k l = length l.propositions - l.k
