-- A table of questions over n terms: q records, whatever holds them. Its faults and the questions that it asks.
use Rattle.std.specs.Prelude.{ℕ, ◌<◌, ◌≡◌, List}
use Rattle.std.proofs.Math.Option.{Option, none}
use Rattle.lists.specs.Tabulate.{tabulate}
use Rattle.types.specs.declared.QuestionRecord.{QuestionRecord}
use Rattle.rules.specs.Terms.{Comparison}
use Rattle.tables.specs.Refusals.{Fault, first_fault, question_fault}

-- what a record asks about
abbrev pub asked : QuestionRecord → Comparison
asked r = record { left = r.left; offset = r.offset; right = r.right }

-- the first fault of q records over n terms
unfoldable pub questions_fault : ℕ → ℕ → (ℕ → QuestionRecord) → Option Fault
questions_fault n q rec = first_fault (λ k. question_fault n (asked (rec k))) 0 q

unfoldable pub questions_from : ℕ → (ℕ → QuestionRecord) → List Comparison
questions_from q rec = tabulate (λ k. asked (rec k)) 0 q

abbrev pub AcceptedQuestions : ℕ → ℕ → (ℕ → QuestionRecord) → Type 0
AcceptedQuestions n q rec = (k : ℕ) → k < q → question_fault n (asked (rec k)) ≡ none
