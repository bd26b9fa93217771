-- The rows of the three tables, and the records that they hold.
use Rattle.std.specs.Prelude.{◌+◌, ◌<◌, ◌≤◌, ◌≡◌, refl, List, [], ◌∷◌, ◌++◌, map, length, take, drop, set, Some}
use Rattle.std.proofs.Common.{arith, length-append, take_at}
use Rattle.std.proofs.lemmas.List.{map-append, length-map}
use Rattle.std.proofs.Math.Option.{some}
use Rattle.types.specs.declared.QuestionRecord.{QuestionRecord}
use Rattle.rules.specs.Terms.{Comparison}
use Rattle.tables.specs.Limits.{most}
use Rattle.lists.specs.Overwrite.{overwrite}
use Rattle.lists.proofs.Overwrite.{overwrite_next}
use Rattle.tables.specs.Rows.{Row, row_of_term, row_of_proposition, row_of_question}
use Rattle.tables.specs.QuestionTable.{asked}
use Rattle.text.specs.Frames as frames
use Rattle.text.specs.Reading.{Records, nothing, with_frame}
use Rattle.lines.specs.declared.Frame.{Frame}
use Rattle.lines.specs.declared.Frame.TheVariants.{Term, Proposition, Question}
use Rattle.lines.specs.Meaning.{meaning}
use Rattle.types.specs.declared.Counts.{Counts}
use Rattle.frames.specs.declared.ReadRows.{ReadRows}
use Rattle.frames.specs.Taking.{group_count, Counted, Listing}

pub record Rows : Type 0 where
  pub terms : List Row
  pub propositions : List Row
  pub questions : List Row

abbrev pub rows : List Row → List Row → List Row → Rows
rows terms propositions questions = record { terms = terms; propositions = propositions; questions = questions }

abbrev pub rows_of : ReadRows → Rows
rows_of t = rows t.terms t.propositions t.questions

-- each table has room for the most records
pub record RoomForMost (C : Rows) : Type 0 where
  pub terms : most ≤ length C.terms
  pub propositions : most ≤ length C.propositions
  pub questions : most ≤ length C.questions

-- no records are read, and there is room for the most
pub record NoneRead (t : ReadRows) : Type 0 where
  pub counts : t.counts ≡ record { terms = 0; propositions = 0; questions = 0 }
  pub room : RoomForMost (rows_of t)

-- each table of D is as long as that of C
pub record SameSizes (C D : Rows) : Type 0 where
  pub terms : length D.terms ≡ length C.terms
  pub propositions : length D.propositions ≡ length C.propositions
  pub questions : length D.questions ≡ length C.questions

pub room_sized : {C D : Rows} → RoomForMost C → SameSizes C D → RoomForMost D
room_sized r s = omega arith

-- the counts with a frame's record
abbrev pub counted : Counts → Frame → Counts
counted c (Term r) = record { terms = c.terms + 1; propositions = c.propositions; questions = c.questions }
counted c (Proposition p) = record { terms = c.terms; propositions = c.propositions + 1; questions = c.questions }
counted c (Question q) = record { terms = c.terms; propositions = c.propositions; questions = c.questions + 1 }

-- the rows with a frame's record after those counted
abbrev pub put : Counts → Frame → Rows → Rows
put c (Term r) C = rows (set C.terms c.terms (row_of_term r)) C.propositions C.questions
put c (Proposition p) C = rows C.terms (set C.propositions c.propositions (row_of_proposition p)) C.questions
put c (Question q) C = rows C.terms C.propositions (set C.questions c.questions (row_of_question q))

-- what storing a frame's record leaves
pub record Stored (c : Counts) (f : Frame) (C : Rows) (r : Counts) (D : Rows) : Type 0 where
  pub counts : r ≡ counted c f
  pub cells : D ≡ put c f C

-- the record of a question
abbrev pub asking : Comparison → QuestionRecord
asking q = record { left = q.left; offset = q.offset; right = q.right }

-- the rows with the records' in front
unfoldable pub rows_with : Records → Rows → Rows
rows_with R C = record {
  terms = overwrite (map row_of_term R.terms) C.terms;
  propositions = overwrite (map row_of_proposition R.propositions) C.propositions;
  questions = overwrite (map (λ q. row_of_question (asking q)) R.questions) C.questions;
}

-- the row of one record more
module _ {A B : Type 0} (f : A → B) (rs : List A) (old : List B) where
  pub overwrite_more : (r : A)
      → length rs < length old
      → set (overwrite (map f rs) old) (length rs) (f r) ≡ overwrite (map f (rs ++ (r ∷ []))) old
  overwrite_more r h = rw (map-append f rs (r ∷ [])) (overwrite_next (map f rs) old (f r) (length rs) (length-map rs f) h)

  pub overwrite_front : take (length rs) (overwrite (map f rs) old) ≡ map f rs
  overwrite_front = take_at (map f rs) (drop (length (map f rs)) old) (length rs) (length-map rs f)

pub rows_with_nothing : (C : Rows) → C ≡ rows_with nothing C
unfolding rows_with
rows_with_nothing C = refl

pub listing_rows_with : {C : Rows} (R : Records) (C₀ : Rows) → C ≡ rows_with R C₀ → Listing C.terms R.terms
unfolding rows_with
listing_rows_with R C₀ e = rw e (overwrite_front row_of_term R.terms C₀.terms)

-- storing a frame's record writes the records with the frame's
pub put_rows_with : (R : Records) (C : Rows) (c : Counts) (f : Frame) (g : frames.Frame)
    → RoomForMost C
    → Counted c R
    → group_count c (Some f) < most
    → meaning (Some f) ≡ some g
    → put c f (rows_with R C) ≡ rows_with (with_frame R g) C
unfolding rows_with with_frame
put_rows_with R C c (Term r) g room counts below e =
    let h : frames.term r ≡ g = cc in
    rw (← h, counts.terms, overwrite_more row_of_term R.terms C.terms r (omega arith))
put_rows_with R C c (Proposition p) g room counts below e =
    let h : frames.proposition p ≡ g = cc in
    rw (← h, counts.propositions, overwrite_more row_of_proposition R.propositions C.propositions p (omega arith))
put_rows_with R C c (Question q) g room counts below e =
    let h : frames.question (asked q) ≡ g = cc in
    rw (← h, counts.questions, overwrite_more (λ q. row_of_question (asking q)) R.questions C.questions (asked q) (omega arith))

pub counted_more : (R : Records) (c : Counts) (f : Frame) (g : frames.Frame) → Counted c R → meaning (Some f) ≡ some g → Counted (counted c f) (with_frame R g)
unfolding with_frame
counted_more R c (Term r) g counts e =
    let h : frames.term r ≡ g = cc in
    rw (← h) (record { terms = omega (arith, length-append R.terms (r ∷ [])); propositions = counts.propositions; questions = counts.questions })
counted_more R c (Proposition p) g counts e =
    let h : frames.proposition p ≡ g = cc in
    rw (← h) (record { terms = counts.terms; propositions = omega (arith, length-append R.propositions (p ∷ [])); questions = counts.questions })
counted_more R c (Question q) g counts e =
    let h : frames.question (asked q) ≡ g = cc in
    rw (← h) (record { terms = counts.terms; propositions = counts.propositions; questions = omega (arith, length-append R.questions (asked q ∷ [])) })
