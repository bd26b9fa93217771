-- The pair table and the answers of a set, by its labels; and what `tell_differences` asks of its caller.
use Rattle.std.specs.Prelude.{ℕ, ◌<◌, ◌≤◌, ◌≡◌, List, map, ℤ, pos, length, get_or}
use Rattle.types.specs.Numbers.{number_of_answer}
use Rattle.rules.specs.Terms.{Comparison, listed}
use Rattle.rules.specs.Assignments.{Assignment}
use Rattle.integers.specs.Within.{Within}
use Rattle.labels.specs.Spread.{far}
use Rattle.labels.specs.Unique.{Canonical}
use Rattle.labels.specs.View.{view}
use Rattle.closure.specs.Facts.{Facts, facts}
use Rattle.closure.specs.Differences.{different}
use Rattle.outcome.specs.PairBits.{pair_bytes, pair_bits}
use Rattle.outcome.specs.Outcome.{answer}
use Rattle.tables.specs.Limits.{most}
use Rattle.tables.specs.Rows.{Row, question_in}
use Rattle.tables.specs.QuestionTable.{questions_from, AcceptedQuestions}
use Rattle.tables.specs.Sets.{Set, AcceptedSet, terms_in, propositions_in}

abbrev pub facts_in : Set → Facts
facts_in S = facts (terms_in S) (propositions_in S)

-- the pair bits of the set, by its labels
abbrev pub pairs_by : Set → List ℕ → List ℤ → List ℕ
pairs_by S reps offs = pair_bits (λ i j. different (terms_in S) (facts_in S) (view reps offs) i (pos 0) j) S.terms

-- the answers to questions, by the set's labels
abbrev pub answers_by : Set → List ℕ → List ℤ → List Comparison → List ℕ
answers_by S reps offs qs = map (λ c. number_of_answer (answer (terms_in S) (facts_in S) (view reps offs) c)) qs

-- the questions that rows hold
abbrev pub questions_in : List Row → List Comparison
questions_in rows = questions_from (length rows) (question_in rows)

-- an accepted set and the labels that the rules determine for it
pub record Labelling (S : Set) (reps : List ℕ) (offs : List ℤ) : Type 0 where
  pub accepted : AcceptedSet S
  pub few_propositions : S.propositions ≤ most
  pub reps_count : length reps ≡ S.terms
  pub offs_count : length offs ≡ S.terms
  pub canonical : Canonical (terms_in S) (listed (terms_in S) (propositions_in S)) (view reps offs)
  pub assignment : Assignment (terms_in S) (listed (terms_in S) (propositions_in S)) (view reps offs)
  pub near : (t : ℕ) → t < S.terms → Within far (get_or offs t (pos 0))

-- accepted questions over n terms, with a bit for each pair of terms and a byte for each question
pub record Asking (n : ℕ) (questions : List Row) (pairs answers : List ℕ) : Type 0 where
  pub accepted : AcceptedQuestions n (length questions) (question_in questions)
  pub few_questions : length questions ≤ most
  pub pairs_count : length pairs ≡ pair_bytes n
  pub answers_count : length answers ≡ length questions
