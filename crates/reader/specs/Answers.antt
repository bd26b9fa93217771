-- The answers of the public functions, and every lent row afterwards.
use Rattle.std.specs.Prelude.{ℕ, ◌+◌, ◌≤◌, ◌≡◌, refl, Bool, true, false, ◌||◌, List, ltb, length, take, drop, Result, Ok, Err}
use Rattle.std.proofs.Common.{ap, ltb-false}
use native.Mathlib.Omega.{arith}
use Rattle.std.specs.Borrow.{Bor}
use Rattle.lists.specs.Booleans.{or_false}
use Rattle.lists.specs.Search.{choose}
use Rattle.types.specs.declared.Fault.{Fault}
use Rattle.types.specs.declared.Refusal.TheVariants.{TooShort}
use Rattle.tables.specs.Limits.{most}
use Rattle.text.specs.Reading.{Records, Reading, accepted, refused, reading, Part, part_of}
use Rattle.types.specs.declared.Counts.{Counts}
use Rattle.reader.specs.declared.FaultyPart.{FaultyPart}
use Rattle.reader.specs.declared.FaultyLine.{FaultyLine}
use Rattle.frames.specs.Rows.{Rows, RoomForMost, rows_with}
use Rattle.reader.specs.Loading.{counts_of, loaded}

-- a table has no room for the most records
abbrev pub short : ℕ → ℕ → ℕ → Bool
short terms propositions questions = (ltb terms most || ltb propositions most) || ltb questions most

abbrev pub short_rows : Rows → Bool
short_rows C = short (length C.terms) (length C.propositions) (length C.questions)

abbrev pub table_too_short : Fault
table_too_short = record { refusal = TooShort; place = 0 }

-- 8 first, then the text's own answer
unfoldable pub read_into : Rows → List ℕ → Reading
read_into C text = choose (short_rows C) (refused table_too_short) (reading text)

abbrev pub answer : Reading → Result Counts Fault
answer (accepted R) = Ok (counts_of R)
answer (refused f) = Err f

-- every lent row afterwards: as it was, if the text is refused
abbrev pub left : Reading → Rows → Rows
left (accepted R) C = rows_with R C
left (refused f) C = C

pub record ReadAs (text : List ℕ) (C : Rows) (r : Result Counts Fault) (D : Rows) : Type 0 where
  pub result : r ≡ answer (read_into C text)
  pub cells : D ≡ left (read_into C text) C

-- the part that is handed back, for tables with so much room
unfoldable pub part_at_fault : List ℕ → ℕ → ℕ → ℕ → Part
part_at_fault text terms propositions questions = choose (short terms propositions questions) (record { start = 0; size = 0 }) (part_of text (reading text))

-- an answer is that part, which lies in the text
pub record PartAt (text : List ℕ) (r : FaultyPart) (p : Part) : Type 0 where
  pub start : r.start ≡ p.start
  pub size : r.size ≡ p.size
  pub within : r.start + r.size ≤ length text

-- r is that part of the text, where it lies
pub record HandedBack (text r : Bor (List ℕ)) (p : Part) : Type 0 where
  pub place : r.ref_ptr ≡ (text.ref_ptr.0, p.start + text.ref_ptr.1)
  pub characters : r.now ≡ take p.size (drop p.start text.now)

pub handed_back : (text r : Bor (List ℕ)) (p : Part) (q : FaultyPart)
    → PartAt text.now q p
    → r.ref_ptr ≡ (text.ref_ptr.0, q.start + text.ref_ptr.1)
    → r.now ≡ take q.size (drop q.start text.now)
    → HandedBack text r p
handed_back text r p q e place characters = rw (← e.start, ← e.size) (record { place = place; characters = characters })

pub room_for_most : (C : Rows) → short_rows C ≡ false → RoomForMost C
room_for_most C e =
    let a = or_false _ _ e in
    let b = or_false _ _ a.0 in
    record { terms = ltb-false _ _ b.0; propositions = ltb-false _ _ b.1; questions = ltb-false _ _ a.1 }

-- a text is accepted by its own answer
pub read_into_lem : (text : List ℕ) (C : Rows) (R : Records) → read_into C text ≡ accepted R → reading text ≡ accepted R
unfolding read_into
read_into_lem text C R = go (short_rows C)
  where
    go : (b : Bool) → choose b (refused table_too_short) (reading text) ≡ accepted R → reading text ≡ accepted R
    go true e = let z : ◌≡◌ {A = ℕ} 0 1 = cc in absurd (omega arith)
    go false e = e

-- the answers of `read` from those of its tests
module _ (text : List ℕ) (C : Rows) where
  pub read_short : short_rows C ≡ true → ReadAs text C (Err table_too_short) C
  unfolding read_into
  read_short e = record { result = rw e; cells = rw e }

  module _ (room : short_rows C ≡ false) where
    reads_on : read_into C text ≡ reading text
    unfolding read_into
    reads_on = rw room

    pub read_refused : (l : FaultyLine) → Err l ≡ loaded text (reading text) → ReadAs text C (Err l.fault) C
    read_refused l = go (reading text) reads_on
      where
        go : (o : Reading) → read_into C text ≡ o → Err l ≡ loaded text o → ReadAs text C (Err l.fault) C
        go (accepted R) r e = let z : ◌≡◌ {A = ℕ} 0 1 = cc in absurd (omega arith)
        go (refused g) r e = let a : l ≡ record { fault = g; part = record { start = (part_of text (refused g)).start; size = (part_of text (refused g)).size } } = cc in record { result = rw (r, a); cells = rw r }

    pub read_accepted : (c : Counts) (D : Rows)
        → Ok c ≡ loaded text (reading text)
        → ((R : Records) → reading text ≡ accepted R → D ≡ rows_with R C)
        → ReadAs text C (Ok c) D
    read_accepted c D e cells = go (reading text) refl e
      where
        go : (o : Reading) → reading text ≡ o → Ok c ≡ loaded text o → ReadAs text C (Ok c) D
        go (accepted R) r e =
            let a : c ≡ counts_of R = cc in
            record { result = rw (reads_on, r, a); cells = rw (reads_on, r) (cells R r) }
        go (refused g) r e = let z : ◌≡◌ {A = ℕ} 0 1 = cc in absurd (omega arith)

-- the part that is handed back
module _ (text : List ℕ) (terms propositions questions : ℕ) where
  pub part_short : short terms propositions questions ≡ true → PartAt text (record { start = 0; size = 0 }) (part_at_fault text terms propositions questions)
  unfolding part_at_fault
  part_short e = rw e (record { start = refl; size = refl; within = omega arith })

  module _ (room : short terms propositions questions ≡ false) where
    part_on : (r : FaultyPart) → PartAt text r (part_of text (reading text)) → PartAt text r (part_at_fault text terms propositions questions)
    unfolding part_at_fault
    part_on r p = rw room p

    pub part_accepted : (c : Counts) → Ok c ≡ loaded text (reading text) → PartAt text (record { start = 0; size = 0 }) (part_at_fault text terms propositions questions)
    part_accepted c e = part_on _ (go (reading text) e)
      where
        go : (o : Reading) → Ok c ≡ loaded text o → PartAt text (record { start = 0; size = 0 }) (part_of text o)
        go (accepted R) e = record { start = refl; size = refl; within = omega arith }
        go (refused g) e = let z : ◌≡◌ {A = ℕ} 0 1 = cc in absurd (omega arith)

    pub part_refused : (l : FaultyLine)
        → Err l ≡ loaded text (reading text)
        → l.part.start + l.part.size ≤ length text
        → PartAt text l.part (part_at_fault text terms propositions questions)
    part_refused l e within = part_on l.part (go (reading text) e)
      where
        go : (o : Reading) → Err l ≡ loaded text o → PartAt text l.part (part_of text o)
        go (accepted R) e = let z : ◌≡◌ {A = ℕ} 0 1 = cc in absurd (omega arith)
        go (refused g) e =
            let a : l ≡ record { fault = g; part = record { start = (part_of text (refused g)).start; size = (part_of text (refused g)).size } } = cc in
            record { start = ap (λ (m : FaultyLine). m.part.start) a; size = ap (λ (m : FaultyLine). m.part.size) a; within = within }
