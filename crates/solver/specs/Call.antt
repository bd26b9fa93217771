-- A call of the solver: the set and the questions that its tables hold, what is returned, and every lent cell afterwards.
use Rattle.std.specs.Prelude.{ℕ, ◌≡◌, List, [], length, take, Result, Ok, Err}
use Rattle.std.proofs.Common.{◌∙◌, ap}
use Rattle.std.proofs.Math.Option.{Option, none, some}
use Rattle.types.specs.declared.Blame.{Blame}
use Rattle.types.specs.declared.Fault.{Fault}
use Rattle.types.specs.declared.Verdict.{Verdict}
use Rattle.rules.specs.Terms.{Term, Proposition, Comparison}
use Rattle.outcome.specs.PairBits.{pair_bytes}
use Rattle.outcome.specs.Outcome.{Outcome, outcome, with_blame}
use Rattle.outcome.proofs.Lengths.{outcome_lengths, length_marks}
use Rattle.tables.specs.Limits.{most}
use Rattle.tables.specs.Rows.{Row, term_in, proposition_in, question_in}
use Rattle.tables.specs.TermTable.{terms_from}
use Rattle.tables.proofs.TermTable.{length_terms_from}
use Rattle.tables.specs.PropositionTable.{propositions_from}
use Rattle.tables.proofs.PropositionTable.{length_propositions_from}
use Rattle.tables.specs.QuestionTable.{questions_from}
use Rattle.tables.proofs.QuestionTable.{length_questions_from}
use Rattle.tables.specs.TableFaults.{Tables, tables_of, tables_fault}
use Rattle.tables.specs.Memory.{Memory, memory_with, call_fault}

-- the set and the questions that accepted tables hold
abbrev pub terms_of : Tables → List Term
terms_of T = terms_from T.terms.count (term_in T.terms.rows)

abbrev pub propositions_of : Tables → List Proposition
propositions_of T = propositions_from T.propositions.count (proposition_in T.propositions.rows)

abbrev pub questions_of : Tables → List Comparison
questions_of T = questions_from T.questions.count (question_in T.questions.rows)

unfoldable pub run : Tables → Outcome
run T = outcome (terms_of T) (propositions_of T) (questions_of T)

-- they are as many as the counts say
pub length_terms : (T : Tables) → length (terms_of T) ≡ T.terms.count
length_terms T = length_terms_from T.terms.count (term_in T.terms.rows)

pub length_propositions : (T : Tables) → length (propositions_of T) ≡ T.propositions.count
length_propositions T = length_propositions_from T.propositions.count (proposition_in T.propositions.rows)

pub length_questions : (T : Tables) → length (questions_of T) ≡ T.questions.count
length_questions T = length_questions_from T.questions.count (question_in T.questions.rows)

-- what is left for them, with blame or without
abbrev pub run_with : Blame → Tables → Outcome
run_with b T = with_blame b (run T)

-- which has as many cells
pub record RunLengths (b : Blame) (T : Tables) : Type 0 where
  pub representatives : length (run T).representatives ≡ T.terms.count
  pub offsets : length (run T).offsets ≡ T.terms.count
  pub marks : length (run_with b T).marks ≡ T.propositions.count
  pub pairs : length (run T).pairs ≡ pair_bytes T.terms.count
  pub answers : length (run T).answers ≡ T.questions.count

pub run_lengths : (b : Blame) (T : Tables) → RunLengths b T
unfolding run
run_lengths b T =
    let l = outcome_lengths (terms_of T) (propositions_of T) (questions_of T) in
    record {
      representatives = l.representatives ∙ length_terms T;
      offsets = l.offsets ∙ length_terms T;
      marks = length_marks b (run T).marks ∙ (l.marks ∙ length_propositions T);
      pairs = l.pairs ∙ ap pair_bytes (length_terms T);
      answers = l.answers ∙ length_questions T;
    }

-- what a call returns
abbrev pub returned : Option Fault → Tables → Result Verdict Fault
returned none T = Ok (run T).verdict
returned (some f) T = Err f

-- and every lent cell afterwards: as it was, if the call is refused
abbrev pub left : Option Fault → Blame → Tables → Memory → Memory
left none b T M = memory_with (run_with b T) M
left (some f) b T M = M

-- the promise of `solve`, called with blame or without: of the memory M before the call and N after it
pub record Answered (b : Blame) (T : Tables) (M N : Memory) (result : Result Verdict Fault) : Type 0 where
  pub returns : result ≡ returned (call_fault T M) T
  pub leaves : N ≡ left (call_fault T M) b T M

-- the cells that the tables' counts need, as an outcome
abbrev pub used : Tables → Verdict → Memory → Outcome
used T v N = record {
  verdict = v;
  representatives = take T.terms.count N.representatives;
  offsets = take T.terms.count N.offsets;
  marks = take T.propositions.count N.marks;
  pairs = take (pair_bytes T.terms.count) N.pairs;
  answers = take T.questions.count N.answers;
}

-- tables without questions
abbrev pub unasked : ℕ → List Row → ℕ → List Row → Tables
unasked n terms m propositions = tables_of n terms m propositions 0 []

-- what `verdict` returns: the first fault of the tables, or the verdict on the set that they hold
unfoldable pub verdict_of : Tables → Result Verdict Fault
verdict_of T = returned (tables_fault most T) T
