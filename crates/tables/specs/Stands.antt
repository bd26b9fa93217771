-- A well-formed record and the term or proposition that it stands for have the same kind and fields.
use Rattle.std.specs.Prelude.{ℕ, ◌<◌, ◌≡◌, ◌≢◌, ℤ, pos}
use Rattle.std.proofs.Common.{SFits}
use Rattle.std.specs.Int.{w32}
use Rattle.rules.specs.Terms.{Term, variable, auxiliary, deref, Proposition, equality, disequality, block_disequality}
use Rattle.integers.specs.Within.{Within}
use Rattle.tables.specs.Limits.{atom_limit, offset_limit}
use Rattle.tables.specs.Records.{TermRecord, PropositionRecord, variable_kind, auxiliary_kind, deref_kind, equality_kind, disequality_kind, block_disequality_kind}

abbrev pub kind_of : Term → ℕ
kind_of (variable x) = variable_kind
kind_of (auxiliary x) = auxiliary_kind
kind_of (deref z t) = deref_kind

abbrev pub number_of : Term → ℕ
number_of (variable x) = x
number_of (auxiliary x) = x
number_of (deref z t) = t

abbrev pub offset_of : Term → ℤ
offset_of (variable x) = pos 0
offset_of (auxiliary x) = pos 0
offset_of (deref z t) = z

pub record StandsFor (r : TermRecord) (x : Term) : Type 0 where
  pub kind : r.kind ≡ kind_of x
  pub number : r.number ≡ number_of x
  pub offset : r.offset ≡ offset_of x
  pub atom : r.kind ≢ deref_kind → r.number < atom_limit
  pub fits : SFits w32 r.offset

abbrev pub proposition_kind_of : Proposition → ℕ
proposition_kind_of (equality t1 z t2) = equality_kind
proposition_kind_of (disequality t1 z t2) = disequality_kind
proposition_kind_of (block_disequality t1 t2) = block_disequality_kind

abbrev pub left_of : Proposition → ℕ
left_of (equality t1 z t2) = t1
left_of (disequality t1 z t2) = t1
left_of (block_disequality t1 t2) = t1

abbrev pub proposition_offset_of : Proposition → ℤ
proposition_offset_of (equality t1 z t2) = z
proposition_offset_of (disequality t1 z t2) = z
proposition_offset_of (block_disequality t1 t2) = pos 0

abbrev pub right_of : Proposition → ℕ
right_of (equality t1 z t2) = t2
right_of (disequality t1 z t2) = t2
right_of (block_disequality t1 t2) = t2

pub record Asserts (p : PropositionRecord) (x : Proposition) : Type 0 where
  pub kind : p.kind ≡ proposition_kind_of x
  pub left : p.left ≡ left_of x
  pub offset : p.offset ≡ proposition_offset_of x
  pub right : p.right ≡ right_of x
  pub within : Within offset_limit p.offset
  pub fits : SFits w32 p.offset
