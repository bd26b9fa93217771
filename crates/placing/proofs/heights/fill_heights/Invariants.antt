-- The invariant: the first t heights are filled.
use Prim.Native.Nat.{◌-◌}
use mathlib.Core.Path.{sym, ◌∙◌}
use native.Mathlib.Omega.{arith}
use lib.ListN.{length}
use mir.Syntax.{w64}
use mir.ValLaws.{to_z-of_z}
use borrow.Author.Rules.{sfits_of}
use Rattle.placing.specs.Filling.{TermPlaces}
use Rattle.placing.specs.Placed.{near_liftable, heights_none, heights_more, heights_done}
use Rattle.placing.proofs.heights.fill_heights.Given as goal

abbrev pub invariant-loop-t : goal.invariant-loop-t
invariant-loop-t l = TermPlaces l.t l.offs l.heights

abbrev pub decreases-loop-t : goal.decreases-loop-t
decreases-loop-t l = length l.offs - l.t
