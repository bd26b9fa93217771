-- A row that is made of a record, read back.
use Rattle.std.specs.Prelude.{◌≡◌}
use Rattle.std.specs.Int.{w64}
use Rattle.std.proofs.Common.{SFits}
use Rattle.std.proofs.lemmas.Int.{to_z-of_z}
use Rattle.types.specs.declared.TermRecord.{TermRecord}
use Rattle.types.specs.declared.PropositionRecord.{PropositionRecord}
use Rattle.types.specs.declared.QuestionRecord.{QuestionRecord}
use Rattle.tables.specs.Rows.{term_of_row, row_of_term, proposition_of_row, row_of_proposition, question_of_row, row_of_question}

pub term_back : (r : TermRecord) → SFits w64 r.offset → term_of_row (row_of_term r) ≡ r
unfolding term_of_row row_of_term
term_back r f = rw (to_z-of_z w64 r.offset f)

pub proposition_back : (p : PropositionRecord) → SFits w64 p.offset → proposition_of_row (row_of_proposition p) ≡ p
unfolding proposition_of_row row_of_proposition
proposition_back p f = rw (to_z-of_z w64 p.offset f)

pub question_back : (q : QuestionRecord) → SFits w64 q.offset → question_of_row (row_of_question q) ≡ q
unfolding question_of_row row_of_question
question_back q f = rw (to_z-of_z w64 q.offset f)
