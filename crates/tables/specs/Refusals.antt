-- The refusals of records, and the first fault of a table.
use Rattle.std.specs.Prelude.{ℕ, zero, suc, Bool, ◌&&◌, ◌||◌, List, eqb, leb, length}
use Rattle.std.proofs.Math.Option.{Option, none, some}
use Rattle.lists.specs.Search.{choose, any}
use Rattle.types.specs.declared.Refusal.{Refusal}
use Rattle.types.specs.declared.Refusal.TheVariants.{InnerNotListed, AtomListedTwice, PropositionTermNotListed, QuestionTermNotListed, Malformed}
pub use Rattle.types.specs.declared.Fault.{Fault}
use Rattle.rules.specs.Terms.{Comparison}
use Rattle.tables.specs.Records.{TermRecord, PropositionRecord, deref_kind, term_of, proposition_of, question_of, is_same_atom}

abbrev pub fault : Refusal → ℕ → Option Fault
fault r k = some (record { refusal = r; place = k })

abbrev pub fault_if : Bool → Refusal → ℕ → Option Fault
fault_if b r k = choose b (fault r k) none

-- the first of two that is there
abbrev pub or_else {ℓ} : {A : Type ℓ} → Option A → Option A → Option A
or_else none b = b
or_else (some a) b = some a

abbrev pub refuse_if : Bool → Refusal → Option Refusal
refuse_if b r = choose b (some r) none

-- a well-formed term's faults, after the records `earlier`
unfoldable pub term_name_fault : List TermRecord → TermRecord → Option Refusal
term_name_fault earlier r =
    or_else (refuse_if (eqb r.kind deref_kind && leb (length earlier) r.number) InnerNotListed)
    (refuse_if (any (is_same_atom r) earlier) AtomListedTwice)

-- with n terms listed
unfoldable pub proposition_name_fault : ℕ → PropositionRecord → Option Refusal
proposition_name_fault n p = refuse_if (leb n p.left || leb n p.right) PropositionTermNotListed

unfoldable pub question_name_fault : ℕ → Comparison → Option Refusal
question_name_fault n q = refuse_if (leb n q.left || leb n q.right) QuestionTermNotListed

abbrev pub malformed : {A : Type 0} → Option A → Option Refusal
malformed none = some Malformed
malformed (some a) = none

-- the fault of a record of a table: 9 first
unfoldable pub term_fault : List TermRecord → TermRecord → Option Refusal
term_fault earlier r = or_else (malformed (term_of r)) (term_name_fault earlier r)

unfoldable pub proposition_fault : ℕ → PropositionRecord → Option Refusal
proposition_fault n p = or_else (malformed (proposition_of p)) (proposition_name_fault n p)

unfoldable pub question_fault : ℕ → Comparison → Option Refusal
question_fault n q = or_else (malformed (question_of q)) (question_name_fault n q)

abbrev pub at_place : ℕ → Option Refusal → Option Fault → Option Fault
at_place k none rest = rest
at_place k (some r) rest = fault r k

-- the fault of the first of the numbers k, k + 1, .., n of them, that has one
unfoldable pub first_fault : (ℕ → Option Refusal) → ℕ → ℕ → Option Fault
first_fault f k zero = none
first_fault f k (suc n) = at_place k (f k) (first_fault f (suc k) n)
