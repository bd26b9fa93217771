use Rattle.std.proofs.Common.{refl, arith}
use Rattle.consistency.specs.Variables.{seen_start, seen_other, seen_variable, seen_meets, seen_all}
use Rattle.consistency.proofs.Kept.variables_meet.Goals as goal

pub loop-t-init : goal.loop-t-init
loop-t-init c = seen_start _ _ _

pub loop-t-preserved-then-r-ne-VARIABLE : goal.loop-t-preserved-then-r-ne-VARIABLE
loop-t-preserved-then-r-ne-VARIABLE c = seen_other _ _ _ c.loop-t-test.true (rw c.term_at-r.ensures at c.if-r-ne-VARIABLE.true) c.loop-t.invariant

pub returns-then-met : goal.returns-then-met
returns-then-met c = seen_meets _ _ _ c.loop-t-test.true (rw c.term_at-r.ensures at c.if-r-ne-VARIABLE.false) refl c.if-met.true c.loop-t.invariant

pub loop-t-preserved : goal.loop-t-preserved
loop-t-preserved c =
    let L = c.args.labels.now.columns in
    seen_variable _ _ _ c.loop-t-test.true (rw c.term_at-r.ensures at c.if-r-ne-VARIABLE.false) refl (omega (arith, L.below c.loop-t.t (omega arith), L.few)) c.if-met.false c.loop-t.invariant

pub returns : goal.returns
returns c = seen_all _ _ _ (omega arith) c.loop-t.invariant
