-- The record is malformed, or names a term that is not listed before it, or neither.
use Rattle.std.proofs.Common.{sym, ◌∙◌}
use Rattle.refusals.specs.Fields.{not_formed, formed}
use Rattle.refusals.specs.Terms.{own_fault}
use Rattle.refusals.proofs.terms.judge_term.Goals as goal

pub returns-then-not-is_term : goal.returns-then-not-is_term
unfolding own_fault
returns-then-not-is_term c = rw (c.at.ensures, not_formed _ _ (sym c.is_term.ensures ∙ c.if-not-is_term.true))

pub returns-then-r-t : goal.returns-then-r-t
unfolding own_fault
returns-then-r-t c = rw (c.at-then-r-t.ensures, formed _ _ (sym c.is_term.ensures ∙ c.if-not-is_term.false), c.if-r-t.true)

pub returns : goal.returns
unfolding own_fault
returns c = rw (formed _ _ (sym c.is_term.ensures ∙ c.if-not-is_term.false), c.if-r-t.false)
