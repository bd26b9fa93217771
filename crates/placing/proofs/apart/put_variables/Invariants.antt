-- The invariant: the first i terms are done.
use Prim.Native.Nat.{◌-◌}
use mathlib.Core.Path.{sym, ◌∙◌}
use native.Mathlib.Omega.{arith}
use lib.ListN.{length}
use borrow.Author.Tests.{eqb-true, eqb-false}
use Rattle.tables.specs.Records.{variable_kind}
use Rattle.tables.specs.Rows.{term_in}
use Rattle.marking.specs.Marks.{room_kept}
use Rattle.marking.specs.Rows.{zeros_long}
use Rattle.placing.specs.Apart.{Gathered, gathered_done, gathered_more, gathered_none, gathered_skip}
use Rattle.placing.proofs.apart.put_variables.Given as goal

abbrev pub invariant-loop-i : goal.invariant-loop-i
invariant-loop-i l = Gathered (length l.terms) (term_in l.terms) l.reps l.i l.mask l.initial.table l.table

abbrev pub decreases-loop-i : goal.decreases-loop-i
decreases-loop-i l = length l.terms - l.i
