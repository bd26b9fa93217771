-- The offset is out of range, or a term is named that is not listed, or neither.
use Rattle.std.proofs.Common.{◌≡◌, Bool, sym, ◌∙◌, arith}
use Rattle.lists.specs.Search.{is_some}
use Rattle.types.specs.declared.QuestionRecord.{QuestionRecord}
use Rattle.tables.specs.Records.{question_of, offset_in_range}
use Rattle.tables.specs.Refusals.{question_fault, question_name_fault}
use Rattle.tables.specs.QuestionTable.{asked}
use Rattle.refusals.specs.Fields.{is_question, not_formed, formed}
use Rattle.refusals.proofs.questions.judge_question.Goals as goal

-- what `in_range` finds
found : (r : QuestionRecord) (b : Bool) → b ≡ offset_in_range r.offset → is_some (question_of (asked r)) ≡ b
found r b e = is_question (asked r) ∙ sym e

pub returns-then-not-in_range : goal.returns-then-not-in_range
unfolding question_fault
returns-then-not-in_range c = rw (c.at.ensures, not_formed _ _ (found c.args.r c.in_range.result (let e = c.in_range.ensures in grind (arith, e)) ∙ c.if-not-in_range.true))

pub returns-then-unlisted : goal.returns-then-unlisted
unfolding question_fault question_name_fault
returns-then-unlisted c = rw (c.at-then-unlisted.ensures, formed _ _ (found c.args.r c.in_range.result (let e = c.in_range.ensures in grind (arith, e)) ∙ c.if-not-in_range.false), ← c.unlisted.ensures, c.if-unlisted.true)

pub returns : goal.returns
unfolding question_fault question_name_fault
returns c = rw (formed _ _ (found c.args.r c.in_range.result (let e = c.in_range.ensures in grind (arith, e)) ∙ c.if-not-in_range.false), ← c.unlisted.ensures, c.if-unlisted.false)
