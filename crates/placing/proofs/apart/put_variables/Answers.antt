-- `placing::apart::put_variables` meets its contract.
use Prim.Native.Nat.{◌-◌}
use mathlib.Core.Path.{sym, ◌∙◌}
use native.Mathlib.Omega.{arith}
use lib.ListN.{length}
use borrow.Author.Tests.{eqb-true, eqb-false}
use Rattle.tables.specs.Records.{variable_kind}
use Rattle.tables.specs.Rows.{term_in}
use Rattle.marking.specs.Marks.{room_kept}
use Rattle.marking.specs.Rows.{zeros_long}
use Rattle.placing.specs.Apart.{Gathered, gathered_done, gathered_more, gathered_none, gathered_skip}
use Rattle.placing.proofs.apart.put_variables.Goals as goal

pub loop-i-init : goal.loop-i-init
loop-i-init c = let a = c.args in gathered_none (length a.terms.now) (term_in a.terms.now) a.reps.now a.table.now c.requires.1.0

pub loop-i-preserved-then-not-is_variable : goal.loop-i-preserved-then-not-is_variable
loop-i-preserved-then-not-is_variable c =
    let T = c.args.terms.now in
    gathered_skip (length T) (term_in T) c.args.reps.now c.loop-i-test.true
    (eqb-false (term_in T c.loop-i.i).kind variable_kind (sym c.is_variable.ensures ∙ c.if-not-is_variable.true))
    c.loop-i.invariant

pub loop-i-preserved : goal.loop-i-preserved
loop-i-preserved c =
    let T = c.args.terms.now in
    gathered_more (length T) (term_in T) c.args.reps.now c.loop-i-test.true
    (eqb-true (term_in T c.loop-i.i).kind variable_kind (sym c.is_variable.ensures ∙ c.if-not-is_variable.false))
    c.loop-i.invariant
    (rw c.class_of.ensures at c.put_class.ensures)
