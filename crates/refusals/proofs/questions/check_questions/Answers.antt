-- Each record is judged by its fault.
use Rattle.std.proofs.Common.{rules}
use Rattle.tables.specs.Refusals.{question_fault}
use Rattle.tables.specs.Rows.{question_in}
use Rattle.tables.specs.QuestionTable.{asked, questions_fault}
use Rattle.refusals.specs.FirstFault.{first_of}
use Rattle.refusals.proofs.questions.check_questions.Goals as goal

pub returns : goal.returns
unfolding questions_fault
returns c = first_of (λ k. question_fault c.args.n (asked (question_in c.args.questions.now k))) _ _ _ c.judge_each.ensures (λ i a h p. search rules)
