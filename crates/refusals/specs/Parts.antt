-- The faults of each table, and those of just the rows that the counts say.
use Rattle.std.specs.Prelude.{ℕ, ◌<◌, ◌≡◌, List, [], length, take, get_or}
use Rattle.std.proofs.Common.{ap, arith, get_or-take, length-take-le}
use Rattle.std.proofs.Math.Option.{Option}
use Rattle.lists.specs.Tabulate.{tabulate_ext}
use Rattle.types.specs.declared.QuestionRecord.{QuestionRecord}
use Rattle.tables.specs.Records.{TermRecord, PropositionRecord}
use Rattle.tables.specs.Rows.{Row, term_of_row, proposition_of_row, question_of_row, term_in, proposition_in, question_in}
use Rattle.tables.specs.Refusals.{Fault}
use Rattle.tables.specs.TermTable.{term_fault_at, terms_fault}
use Rattle.tables.specs.PropositionTable.{propositions_fault}
use Rattle.tables.specs.QuestionTable.{questions_fault}
use Rattle.tables.specs.TableFaults.{Table, Tables, Sized, records_fault}
use Rattle.refusals.specs.FirstFault.{first_ext}

-- the faults of each table
abbrev pub in_terms : Tables → Option Fault
in_terms T = terms_fault T.terms.count (term_in T.terms.rows)

abbrev pub in_propositions : Tables → Option Fault
in_propositions T = propositions_fault T.terms.count T.propositions.count (proposition_in T.propositions.rows)

abbrev pub in_questions : Tables → Option Fault
in_questions T = questions_fault T.terms.count T.questions.count (question_in T.questions.rows)

-- two tables whose first n records are the same
abbrev Same : {A : Type 0} → ℕ → (ℕ → A) → (ℕ → A) → Type 0
Same n f g = (k : ℕ) → k < n → f k ≡ g k

-- the first n rows and all rows, by any layout
part : {A : Type 0} (read : Row → A) (n : ℕ) (rows : List Row) → Same n (λ k. read (get_or (take n rows) k [])) (λ k. read (get_or rows k []))
part read n rows k h = ap read (get_or-take n rows k [] h)

terms_ext : (n : ℕ) (f g : ℕ → TermRecord) → Same n f g → terms_fault n f ≡ terms_fault n g
unfolding terms_fault
terms_ext n f g same = first_ext (term_fault_at f) (term_fault_at g) n (λ k h. rw (same k h, tabulate_ext f g 0 k (λ j l. same j (omega arith))))

propositions_ext : (n m : ℕ) (f g : ℕ → PropositionRecord) → Same m f g → propositions_fault n m f ≡ propositions_fault n m g
unfolding propositions_fault
propositions_ext n m f g same = first_ext _ _ m (λ k h. rw (same k h))

questions_ext : (n q : ℕ) (f g : ℕ → QuestionRecord) → Same q f g → questions_fault n q f ≡ questions_fault n q g
unfolding questions_fault
questions_ext n q f g same = first_ext _ _ q (λ k h. rw (same k h))

-- a table of just the rows that are counted
abbrev pub counted : Table → Table
counted T = let rows = take T.count T.rows in record { count = length rows; rows = rows }

pub parts_fault :
    (limit : ℕ) (T : Tables) →
    Sized limit T →
    records_fault (record { terms = counted T.terms; propositions = counted T.propositions; questions = counted T.questions }) ≡ records_fault T
unfolding records_fault
parts_fault limit T s =
    let n = T.terms.count in
    let m = T.propositions.count in
    let q = T.questions.count in
    rw (
      length-take-le n T.terms.rows s.terms_long,
      length-take-le m T.propositions.rows s.propositions_long,
      length-take-le q T.questions.rows s.questions_long,
      terms_ext n _ _ (part term_of_row n T.terms.rows),
      propositions_ext n m _ _ (part proposition_of_row m T.propositions.rows),
      questions_ext n q _ _ (part question_of_row q T.questions.rows),
    )
