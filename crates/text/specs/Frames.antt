-- Frames: what one line says, whatever stands in the other lines.
use Rattle.std.specs.Prelude.{ℕ, List, [], ◌∷◌, eqb, ℤ, pos, length, take, drop}
use Rattle.std.proofs.Math.Option.{Option, none, some}
use Rattle.lists.specs.Search.{choose}
use Rattle.rules.specs.Terms.{Comparison}
use Rattle.tables.specs.Records.{TermRecord, PropositionRecord, variable_kind, auxiliary_kind, deref_kind, equality_kind, disequality_kind, block_disequality_kind, question_kind}
use Rattle.text.specs.Lines.{Line, bytes_of, big, signed}

pub data Frame : Type 0 where
  term : TermRecord → Frame
  proposition : PropositionRecord → Frame
  question : Comparison → Frame

-- size bytes from the place `at` on
abbrev pub field : ℕ → ℕ → List ℕ → ℕ
field at size bytes = big (take size (drop at bytes))

abbrev pub field_of_offset : ℕ → List ℕ → ℤ
field_of_offset at bytes = signed 32 (field at 4 bytes)

-- a kind that is followed by so many bytes, and its frame
pub record Layout : Type 0 where
  pub kind : ℕ
  pub size : ℕ
  pub frame : List ℕ → Frame

abbrev pub atom : ℕ → Layout
atom k = record { kind = k; size = 2; frame = λ bs. term (record { kind = k; number = field 0 2 bs; offset = pos 0 }) }

abbrev pub dereference : Layout
dereference = record { kind = deref_kind; size = 6; frame = λ bs. term (record { kind = deref_kind; number = field 0 2 bs; offset = field_of_offset 2 bs }) }

abbrev pub relation : ℕ → Layout
relation k = record { kind = k; size = 8; frame = λ bs. proposition (record { kind = k; left = field 0 2 bs; offset = field_of_offset 2 bs; right = field 6 2 bs }) }

abbrev pub blocks : Layout
blocks = record { kind = block_disequality_kind; size = 4; frame = λ bs. proposition (record { kind = block_disequality_kind; left = field 0 2 bs; offset = pos 0; right = field 2 2 bs }) }

abbrev pub asked : Layout
asked = record { kind = question_kind; size = 8; frame = λ bs. question (record { left = field 0 2 bs; offset = field_of_offset 2 bs; right = field 6 2 bs }) }

unfoldable pub layouts : List Layout
layouts = atom variable_kind ∷ atom auxiliary_kind ∷ dereference ∷ relation equality_kind ∷ relation disequality_kind ∷ blocks ∷ asked ∷ []

-- the frame of the first layout whose kind it is, if the size is right too
unfoldable pub frame_by : List Layout → ℕ → List ℕ → Option Frame
frame_by [] k bs = none
frame_by (l ∷ ls) k bs =
    choose (eqb l.kind k) (choose (eqb (length bs) l.size) (some (l.frame bs)) none) (frame_by ls k bs)

abbrev pub frame_of_bytes : Option (List ℕ) → Option Frame
frame_of_bytes none = none
frame_of_bytes (some []) = none
frame_of_bytes (some (k ∷ bs)) = frame_by layouts k bs

-- the frame that a line holds, if it is well formed
unfoldable pub frame_of : Line → Option Frame
frame_of l = choose l.ended (frame_of_bytes (bytes_of l.characters)) none
