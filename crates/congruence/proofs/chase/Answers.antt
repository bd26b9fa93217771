use Rattle.std.proofs.Common.{◌∙◌, refl, length}
use Rattle.tables.specs.Rows.{term_in}
use Rattle.joins.specs.Meeting.{chased_start, chased_then, chased_labels}
use Rattle.congruence.proofs.chase.Goals as goal

pub loop-init : goal.loop-init
loop-init c = record {
  same_columns = (refl, refl);
  chased = chased_start (length c.args.terms.now) (term_in c.args.terms.now) c.requires.labels;
}

pub returns-then-terms-x-clause-same_columns : goal.returns-then-terms-x-clause-same_columns
returns-then-terms-x-clause-same_columns c = c.loop.invariant.same_columns

pub returns-then-terms-x-clause-chased : goal.returns-then-terms-x-clause-chased
returns-then-terms-x-clause-chased c = c.loop.invariant.chased

pub step-requires-clause-labels : goal.step-requires-clause-labels
step-requires-clause-labels c = chased_labels _ _ c.loop.invariant.chased

pub returns-then-not-step-clause-chased : goal.returns-then-not-step-clause-chased
returns-then-not-step-clause-chased c = chased_then _ _ c.loop.invariant.chased (rw c.if-not-step.true at c.step.ensures.chased)

pub loop-preserved : goal.loop-preserved
loop-preserved c =
    let i = c.loop.invariant in
    let s = c.step.ensures in
    record {
      same_columns = (s.same_columns.0 ∙ i.same_columns.0, s.same_columns.1 ∙ i.same_columns.1);
      chased = chased_then _ _ i.chased (rw c.if-not-step.false at s.chased);
    }
