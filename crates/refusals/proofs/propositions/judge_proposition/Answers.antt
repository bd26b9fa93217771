-- The record is malformed, or names a term that is not listed, or neither.
use Rattle.std.proofs.Common.{sym, ◌∙◌}
use Rattle.tables.specs.Refusals.{proposition_fault, proposition_name_fault}
use Rattle.refusals.specs.Fields.{not_formed, formed}
use Rattle.refusals.proofs.propositions.judge_proposition.Goals as goal

pub returns-then-not-is_proposition : goal.returns-then-not-is_proposition
unfolding proposition_fault
returns-then-not-is_proposition c = rw (c.at.ensures, not_formed _ _ (sym c.is_proposition.ensures ∙ c.if-not-is_proposition.true))

pub returns-then-unlisted : goal.returns-then-unlisted
unfolding proposition_fault proposition_name_fault
returns-then-unlisted c =
    rw (c.at-then-unlisted.ensures, formed _ _ (sym c.is_proposition.ensures ∙ c.if-not-is_proposition.false), ← c.unlisted.ensures, c.if-unlisted.true)

pub returns : goal.returns
unfolding proposition_fault proposition_name_fault
returns c = rw (formed _ _ (sym c.is_proposition.ensures ∙ c.if-not-is_proposition.false), ← c.unlisted.ensures, c.if-unlisted.false)
