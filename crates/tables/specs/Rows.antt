-- The layout of the tables' rows, fields of 64 bits with offsets in two's complement. Only these definitions and the two functions of
-- each table know it: one reads a row into a record, one makes a row of a record.
use Rattle.std.specs.Prelude.{ℕ, List, [], ◌∷◌, get_or}
use Rattle.std.specs.Int.{w64}
use Rattle.std.proofs.Common.{to_z, of_z}
use Rattle.types.specs.declared.TermRecord.{TermRecord}
use Rattle.types.specs.declared.PropositionRecord.{PropositionRecord}
use Rattle.types.specs.declared.QuestionRecord.{QuestionRecord}

-- a row, and a table of rows
abbrev pub Row : Type 0
Row = List ℕ

unfoldable pub term_of_row : Row → TermRecord
term_of_row r = record { kind = get_or r 0 0; number = get_or r 1 0; offset = to_z w64 (get_or r 2 0) }

unfoldable pub row_of_term : TermRecord → Row
row_of_term t = t.kind ∷ t.number ∷ of_z w64 t.offset ∷ []

unfoldable pub proposition_of_row : Row → PropositionRecord
proposition_of_row r = record { kind = get_or r 0 0; left = get_or r 1 0; offset = to_z w64 (get_or r 2 0); right = get_or r 3 0 }

unfoldable pub row_of_proposition : PropositionRecord → Row
row_of_proposition p = p.kind ∷ p.left ∷ of_z w64 p.offset ∷ p.right ∷ []

unfoldable pub question_of_row : Row → QuestionRecord
question_of_row r = record { left = get_or r 0 0; offset = to_z w64 (get_or r 1 0); right = get_or r 2 0 }

unfoldable pub row_of_question : QuestionRecord → Row
row_of_question q = q.left ∷ of_z w64 q.offset ∷ q.right ∷ []

-- record k of a table
abbrev pub term_in : List Row → ℕ → TermRecord
term_in rows k = term_of_row (get_or rows k [])

abbrev pub proposition_in : List Row → ℕ → PropositionRecord
proposition_in rows k = proposition_of_row (get_or rows k [])

abbrev pub question_in : List Row → ℕ → QuestionRecord
question_in rows k = question_of_row (get_or rows k [])
