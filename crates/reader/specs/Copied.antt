-- The records of a text in rows of the reader's own, and copied to the caller's.
use Rattle.std.specs.Prelude.{ℕ, ◌≤◌, ◌≡◌, refl, List, map, length, Result, Ok}
use Rattle.std.proofs.Common.{sym, ◌∙◌, arith}
use Rattle.std.proofs.Math.ListN.{length-map}
use Rattle.lists.proofs.Overwrite.{overwrite_covers}
use Rattle.types.specs.declared.Counts.{Counts}
use Rattle.tables.specs.Limits.{most}
use Rattle.tables.specs.Rows.{row_of_term, row_of_proposition, row_of_question}
use Rattle.text.specs.Reading.{Records, Reading, accepted, refused, reading}
use Rattle.text.proofs.Sound.{accepted_sound}
use Rattle.frames.specs.Rows.{Rows, RoomForMost, asking, rows_with, overwrite_front}
use Rattle.frames.specs.Copying.{RoomFor, copied}
use Rattle.reader.specs.declared.FaultyLine.{FaultyLine}
use Rattle.reader.specs.Loading.{counts_of, loaded, LoadedAs}

-- rows that hold records in front: these are copied
module _ (R : Records) (own : Rows) (old : Rows) (holds : own ≡ rows_with R old) where
  pub room_own : RoomFor (counts_of R) own
  unfolding rows_with
  room_own = rw holds (record {
    terms = omega (arith, overwrite_covers (map row_of_term R.terms) old.terms, length-map R.terms row_of_term);
    propositions = omega (arith, overwrite_covers (map row_of_proposition R.propositions) old.propositions, length-map R.propositions row_of_proposition);
    questions = omega (arith, overwrite_covers (map (λ q. row_of_question (asking q)) R.questions) old.questions, length-map R.questions (λ q. row_of_question (asking q)));
  })

  pub copied_records : (C : Rows) → copied (counts_of R) own C ≡ rows_with R C
  unfolding rows_with copied
  copied_records C =
      rw (holds, overwrite_front row_of_term R.terms old.terms, overwrite_front row_of_proposition R.propositions old.propositions, overwrite_front (λ q. row_of_question (asking q)) R.questions old.questions)

-- rows into which an accepted text was loaded
module _ (text : List ℕ) (old : Rows) (r : Result Counts FaultyLine) (own : Rows) (l : LoadedAs text old r own) (c : Counts) (e : r ≡ Ok c) where
  held : (R : Records) × (reading text ≡ accepted R) × (c ≡ counts_of R)
  held = go (reading text) refl (sym e ∙ l.judged.answer)
    where
      go : (o : Reading) → reading text ≡ o → Ok c ≡ loaded text o → (R : Records) × (reading text ≡ accepted R) × (c ≡ counts_of R)
      go (accepted R) q f = (R, q, cc)
      go (refused g) q f = let z : ◌≡◌ {A = ℕ} 0 1 = cc in absurd (omega arith)

  pub room_loaded : RoomFor c own
  room_loaded = let h = held in rw h.2 (room_own h.0 own old (l.cells h.0 h.1))

  -- and the caller's, which have room for the most
  pub room_lent : (C : Rows) → length own.terms ≤ most → length own.propositions ≤ most → length own.questions ≤ most → RoomForMost C → RoomFor c C
  room_lent C t p q room = let w = room_loaded in record { terms = omega arith; propositions = omega arith; questions = omega arith }

  -- no accepted text has more
  pub room_most : (C : Rows) → RoomForMost C → RoomFor c C
  room_most C room =
      let h = held in
      let s = accepted_sound text h.0 h.1 in
      rw h.2 (record { terms = omega (arith, s.few_terms); propositions = omega (arith, s.few_propositions); questions = omega (arith, s.few_questions) })

  pub copied_loaded : (C D : Rows) → D ≡ copied c own C → (R : Records) → reading text ≡ accepted R → D ≡ rows_with R C
  copied_loaded C D f R q =
      let h = held in
      let same : c ≡ counts_of R = cc in
      f ∙ rw same (copied_records R own old (l.cells R q) C)
