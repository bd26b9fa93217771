-- An accepted set in memory of just the cells that it needs, and what is left in them.
use Rattle.std.specs.Prelude.{◌≤◌, ◌≡◌, List, length}
use Rattle.types.specs.declared.Blame.{Blame}
use Rattle.types.specs.declared.Verdict.{Verdict}
use Rattle.rules.specs.Terms.{Comparison}
use Rattle.outcome.specs.PairBits.{pair_bytes}
use Rattle.outcome.specs.Outcome.{Outcome, outcome, with_blame}
use Rattle.tables.specs.Limits.{most}
use Rattle.tables.specs.Rows.{Row, question_in}
use Rattle.tables.specs.QuestionTable.{AcceptedQuestions}
use Rattle.tables.specs.Sets.{Set, AcceptedSet, terms_in, propositions_in}
use Rattle.tables.specs.Memory.{Memory}

-- accepted tables, and the memory for them
pub record AcceptedCall (S : Set) (questions : List Row) (M : Memory) : Type 0 where
  pub accepted : AcceptedSet S
  pub few_propositions : S.propositions ≤ most
  pub accepted_questions : AcceptedQuestions S.terms (length questions) (question_in questions)
  pub few_questions : length questions ≤ most
  pub representatives : length M.representatives ≡ S.terms
  pub offsets : length M.offsets ≡ S.terms
  pub marks : length M.marks ≡ S.propositions
  pub pairs : length M.pairs ≡ pair_bytes S.terms
  pub answers : length M.answers ≡ length questions

-- the memory holds the outcome, and the result is its verdict
pub record Leaves (O : Outcome) (N : Memory) (result : Verdict) : Type 0 where
  pub verdict : result ≡ O.verdict
  pub representatives : N.representatives ≡ O.representatives
  pub offsets : N.offsets ≡ O.offsets
  pub marks : N.marks ≡ O.marks
  pub pairs : N.pairs ≡ O.pairs
  pub answers : N.answers ≡ O.answers

abbrev pub Solves : Blame → Set → List Comparison → Memory → Verdict → Type 0
Solves b S qs N result = Leaves (with_blame b (outcome (terms_in S) (propositions_in S) qs)) N result
