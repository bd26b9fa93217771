-- A set: terms and propositions, by their records, whatever holds these; and what an accepted one has.
use Rattle.std.specs.Prelude.{ℕ, ◌≤◌, List, length}
use Rattle.rules.specs.Terms.{Term, Proposition}
use Rattle.tables.specs.Limits.{most}
use Rattle.tables.specs.Records.{TermRecord, PropositionRecord}
use Rattle.tables.specs.Rows.{Row, term_in, proposition_in}
use Rattle.tables.specs.TermTable.{terms_from, AcceptedTerms}
use Rattle.tables.specs.PropositionTable.{propositions_from, AcceptedPropositions}

pub record Set : Type 0 where
  pub terms : ℕ
  pub term : ℕ → TermRecord
  pub propositions : ℕ
  pub proposition : ℕ → PropositionRecord

-- the set that the rows of two tables hold
abbrev pub set_of : List Row → List Row → Set
set_of terms propositions = record {
  terms = length terms;
  term = term_in terms;
  propositions = length propositions;
  proposition = proposition_in propositions;
}

abbrev pub terms_in : Set → List Term
terms_in S = terms_from S.terms S.term

abbrev pub propositions_in : Set → List Proposition
propositions_in S = propositions_from S.propositions S.proposition

-- at most 512 terms; any number of propositions
pub record AcceptedSet (S : Set) : Type 0 where
  pub few_terms : S.terms ≤ most
  pub terms : AcceptedTerms S.terms S.term
  pub propositions : AcceptedPropositions S.terms S.propositions S.proposition
