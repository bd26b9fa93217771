-- A table of terms: n records, whatever holds them. Its faults, the terms it stands for, and the laws of an accepted one.
use Rattle.std.specs.Prelude.{ℕ, ◌<◌, ◌≡◌, List}
use Rattle.std.proofs.Math.Option.{Option, none}
use Rattle.lists.specs.Tabulate.{tabulate}
use Rattle.types.specs.declared.Refusal.{Refusal}
use Rattle.rules.specs.Terms.{Term, auxiliary}
use Rattle.tables.specs.Records.{TermRecord, term_of, or_default}
use Rattle.tables.specs.Refusals.{Fault, first_fault, term_fault}

-- the fault of record k, after those before it
abbrev pub term_fault_at : (ℕ → TermRecord) → ℕ → Option Refusal
term_fault_at rec k = term_fault (tabulate rec 0 k) (rec k)

-- the first fault of n records
unfoldable pub terms_fault : ℕ → (ℕ → TermRecord) → Option Fault
terms_fault n rec = first_fault (term_fault_at rec) 0 n

-- the terms that n accepted records stand for
unfoldable pub terms_from : ℕ → (ℕ → TermRecord) → List Term
terms_from n rec = tabulate (λ k. or_default (auxiliary 0) (term_of (rec k))) 0 n

abbrev pub AcceptedTerms : ℕ → (ℕ → TermRecord) → Type 0
AcceptedTerms n rec = (k : ℕ) → k < n → term_fault_at rec k ≡ none
