-- The invariant: the first i terms are done.
use Prim.Native.Nat.{◌-◌}
use mathlib.Core.Path.{sym, ◌∙◌}
use native.Mathlib.Omega.{arith}
use lib.ListN.{length, get_or}
use borrow.Author.Tests.{eqb-true, eqb-false}
use Rattle.tables.specs.Records.{variable_kind}
use Rattle.tables.specs.Rows.{term_in}
use Rattle.marking.specs.Marks.{adds_as, Marking, marking_start, marking_more, marking_skip, marking_done, room_kept}
use Rattle.marking.specs.Rows.{MaskPair}
use Rattle.placing.specs.Apart.{VariableRow}
use Rattle.placing.proofs.apart.mark_rows.Given as goal

abbrev pub invariant-loop-i : goal.invariant-loop-i
invariant-loop-i l = Marking (length l.terms) (length l.terms) l.i (VariableRow (length l.terms) (term_in l.terms) l.reps l.mask) l.initial.table l.table

abbrev pub decreases-loop-i : goal.decreases-loop-i
decreases-loop-i l = length l.terms - l.i
