-- The records of the tables, and what they stand for. A field that its kind does not use is 0.
use Rattle.std.specs.Prelude.{ℕ, Bool, ◌&&◌, ◌||◌, eqb, ltb, ℤ, pos, negsuc}
use Rattle.std.proofs.Math.Option.{Option, none, some}
use Rattle.integers.specs.Compare.{eq_ℤ}
use Rattle.lists.specs.Search.{choose}
pub use Rattle.types.specs.declared.TermRecord.{TermRecord}
pub use Rattle.types.specs.declared.PropositionRecord.{PropositionRecord}
use Rattle.rules.specs.Terms.{Term, variable, auxiliary, deref, Proposition, equality, disequality, block_disequality, Comparison}
use Rattle.tables.specs.Limits.{atom_limit, offset_limit}

-- the kinds, as in the lines of hexadecimal
abbrev pub variable_kind : ℕ
variable_kind = 0x01

abbrev pub auxiliary_kind : ℕ
auxiliary_kind = 0x02

abbrev pub deref_kind : ℕ
deref_kind = 0x03

abbrev pub equality_kind : ℕ
equality_kind = 0x11

abbrev pub disequality_kind : ℕ
disequality_kind = 0x12

abbrev pub block_disequality_kind : ℕ
block_disequality_kind = 0x13

abbrev pub question_kind : ℕ
question_kind = 0x21

unfoldable pub offset_in_range : ℤ → Bool
offset_in_range (pos n) = ltb n offset_limit
offset_in_range (negsuc n) = ltb n offset_limit

abbrev pub when : {A : Type 0} → Bool → A → Option A
when b a = choose b (some a) none

abbrev pub or_default : {A : Type 0} → A → Option A → A
or_default d none = d
or_default d (some a) = a

-- an atom's record: its number in range, its offset 0
unfoldable pub atom_record : TermRecord → Bool
atom_record r = ltb r.number atom_limit && eq_ℤ r.offset (pos 0)

-- the term that a record stands for, if it is well formed
unfoldable pub term_of : TermRecord → Option Term
term_of r =
    choose (eqb r.kind variable_kind) (when (atom_record r) (variable r.number))
    (choose (eqb r.kind auxiliary_kind) (when (atom_record r) (auxiliary r.number))
    (when (eqb r.kind deref_kind && offset_in_range r.offset) (deref r.offset r.number)))

unfoldable pub proposition_of : PropositionRecord → Option Proposition
proposition_of p =
    choose (eqb p.kind equality_kind) (when (offset_in_range p.offset) (equality p.left p.offset p.right))
    (choose (eqb p.kind disequality_kind) (when (offset_in_range p.offset) (disequality p.left p.offset p.right))
    (when (eqb p.kind block_disequality_kind && eq_ℤ p.offset (pos 0)) (block_disequality p.left p.right)))

unfoldable pub question_of : Comparison → Option Comparison
question_of q = when (offset_in_range q.offset) q

-- two records of one atom
unfoldable pub is_same_atom : TermRecord → TermRecord → Bool
is_same_atom r s = (eqb r.kind variable_kind || eqb r.kind auxiliary_kind) && (eqb r.kind s.kind && eqb r.number s.number)
