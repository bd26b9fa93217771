-- The refusals of the three tables in their order: 1, 2, 3, then 8 for a table that has fewer rows than its count, then the records.
use Rattle.std.specs.Prelude.{ℕ, ◌≤◌, ◌||◌, List, ltb, length, Result, Ok, Err}
use Rattle.std.proofs.Math.Option.{Option, none, some}
use Rattle.types.specs.declared.Refusal.{Refusal}
use Rattle.types.specs.declared.Refusal.TheVariants.{TooManyTerms, TooManyPropositions, TooManyQuestions, TooShort}
use Rattle.tables.specs.Rows.{Row, term_in, proposition_in, question_in}
use Rattle.tables.specs.Refusals.{Fault, or_else, fault_if}
use Rattle.tables.specs.TermTable.{terms_fault, AcceptedTerms}
use Rattle.tables.specs.PropositionTable.{propositions_fault, AcceptedPropositions}
use Rattle.tables.specs.QuestionTable.{questions_fault, AcceptedQuestions}

-- what a test finds
abbrev pub acceptance : Option Fault → Result (Unit {0}) Fault
acceptance none = Ok tt
acceptance (some f) = Err f

-- a table of rows, of which the first `count` are used
pub record Table : Type 0 where
  pub count : ℕ
  pub rows : List Row

pub record Tables : Type 0 where
  pub terms : Table
  pub propositions : Table
  pub questions : Table

-- by counts and rows
abbrev pub tables_of : ℕ → List Row → ℕ → List Row → ℕ → List Row → Tables
tables_of n terms m propositions q questions = record {
  terms = record { count = n; rows = terms };
  propositions = record { count = m; rows = propositions };
  questions = record { count = q; rows = questions };
}

-- more records than the limit
abbrev pub count_fault : ℕ → Refusal → ℕ → Option Fault
count_fault limit r n = fault_if (ltb limit n) r limit

-- 1, 2, 3 and 8 of counts and lengths
unfoldable pub lengths_fault : ℕ → (n terms m propositions q questions : ℕ) → Option Fault
lengths_fault limit n terms m propositions q questions =
    or_else (count_fault limit TooManyTerms n)
    (or_else (count_fault limit TooManyPropositions m)
    (or_else (count_fault limit TooManyQuestions q) (fault_if (ltb terms n || (ltb propositions m || ltb questions q)) TooShort 0)))

abbrev pub sizes_fault : ℕ → Tables → Option Fault
sizes_fault limit T =
    lengths_fault limit T.terms.count (length T.terms.rows) T.propositions.count (length T.propositions.rows)
    T.questions.count (length T.questions.rows)

-- 4, 5, 6, 7 and 9
unfoldable pub records_fault : Tables → Option Fault
records_fault T =
    or_else (terms_fault T.terms.count (term_in T.terms.rows))
    (or_else (propositions_fault T.terms.count T.propositions.count (proposition_in T.propositions.rows))
    (questions_fault T.terms.count T.questions.count (question_in T.questions.rows)))

unfoldable pub tables_fault : ℕ → Tables → Option Fault
tables_fault limit T = or_else (sizes_fault limit T) (records_fault T)

-- counts within the limit and the rows there
pub record Sized (limit : ℕ) (T : Tables) : Type 0 where
  pub few_terms : T.terms.count ≤ limit
  pub few_propositions : T.propositions.count ≤ limit
  pub few_questions : T.questions.count ≤ limit
  pub terms_long : T.terms.count ≤ length T.terms.rows
  pub propositions_long : T.propositions.count ≤ length T.propositions.rows
  pub questions_long : T.questions.count ≤ length T.questions.rows

pub record Accepted (T : Tables) : Type 0 where
  pub terms : AcceptedTerms T.terms.count (term_in T.terms.rows)
  pub propositions : AcceptedPropositions T.terms.count T.propositions.count (proposition_in T.propositions.rows)
  pub questions : AcceptedQuestions T.terms.count T.questions.count (question_in T.questions.rows)
