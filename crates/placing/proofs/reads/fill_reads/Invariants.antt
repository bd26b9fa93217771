-- The invariant: the places of the first t terms are filled.
use Prim.Native.Nat.{◌-◌}
use mathlib.Core.Path.{sym, ◌∙◌}
use native.Mathlib.Omega.{arith}
use lib.ListN.{length}
use Rattle.tables.specs.Rows.{term_in}
use Rattle.placing.specs.Filling.{ReadPlaces}
use Rattle.placing.specs.Placed.{reads_none, reads_done}
use Rattle.placing.proofs.reads.fill_reads.Given as goal

abbrev pub invariant-loop-t : goal.invariant-loop-t
invariant-loop-t l = ReadPlaces (length l.terms) (term_in l.terms) l.reps l.offs l.t l.reads l.read_heights

abbrev pub decreases-loop-t : goal.decreases-loop-t
decreases-loop-t l = length l.terms - l.t
