-- A table of propositions over n terms: m records, whatever holds them. Its faults, the propositions it stands for, and the laws of an
-- accepted one.
use Rattle.std.specs.Prelude.{ℕ, ◌<◌, ◌≡◌, List}
use Rattle.std.proofs.Math.Option.{Option, none}
use Rattle.lists.specs.Tabulate.{tabulate}
use Rattle.rules.specs.Terms.{Proposition, block_disequality}
use Rattle.tables.specs.Records.{PropositionRecord, proposition_of, or_default}
use Rattle.tables.specs.Refusals.{Fault, first_fault, proposition_fault}

-- the first fault of m records over n terms
unfoldable pub propositions_fault : ℕ → ℕ → (ℕ → PropositionRecord) → Option Fault
propositions_fault n m rec = first_fault (λ k. proposition_fault n (rec k)) 0 m

-- the propositions that m accepted records stand for
unfoldable pub propositions_from : ℕ → (ℕ → PropositionRecord) → List Proposition
propositions_from m rec = tabulate (λ k. or_default (block_disequality 0 0) (proposition_of (rec k))) 0 m

abbrev pub AcceptedPropositions : ℕ → ℕ → (ℕ → PropositionRecord) → Type 0
AcceptedPropositions n m rec = (k : ℕ) → k < m → proposition_fault n (rec k) ≡ none
