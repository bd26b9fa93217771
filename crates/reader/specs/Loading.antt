-- Lines taken one after another into the rows.
use Rattle.std.specs.Prelude.{ℕ, ◌+◌, ◌<◌, ◌≤◌, ◌≡◌, refl, true, List, length, Result, Ok, Err, Some}
use Rattle.std.specs.Prelude as rust
use Rattle.std.proofs.Common.{ap, ◌∙◌, arith}
use Rattle.std.proofs.Math.Option.{Option, none, some}
use Rattle.types.specs.declared.Refusal.{Refusal}
use Rattle.tables.specs.Limits.{most}
use Rattle.text.specs.Lines.{Line, bytes_of}
use Rattle.text.specs.Frames as frames
use Rattle.text.specs.Frames.{frame_of, frame_of_bytes}
use Rattle.text.specs.Reading.{Records, Reading, accepted, refused, Step, refuse, go_on, step_frame, step, with_frame, reading, part_of}
use Rattle.lines.specs.declared.Frame.{Frame}
use Rattle.lines.specs.Meaning.{meaning}
use Rattle.types.specs.declared.Counts.{Counts}
use Rattle.frames.specs.declared.ReadRows.{ReadRows}
use Rattle.reader.specs.declared.FaultyLine.{FaultyLine}
use Rattle.frames.specs.Taking.{Counted, group_count, frame_refusal}
use Rattle.frames.specs.Rows.{Rows, RoomForMost, Stored, put, rows_with, put_rows_with, counted_more}

-- an answer with the counts that are left
abbrev pub counted : {E : Type 0} → Result Unit E → ReadRows → Result Counts E
counted (Ok u) t = Ok t.counts
counted (Err e) t = Err e

-- an accepted line: the records with it, counted, and in front of the rows C
pub record Went (C : Rows) (s : Step) (c : Counts) (D : Rows) : Type 0 where
  pub records : Records
  pub stepped : s ≡ go_on records
  pub counts : Counted c records
  pub cells : D ≡ rows_with records C

-- what a line's step leaves in the rows D
abbrev pub After : Rows → Step → Result Counts Refusal → Rows → Type 0
After C s (Err x) D = s ≡ refuse x
After C s (Ok c) D = Went C s c D

-- what a line leaves after any records, counted, in front of any rows C
abbrev pub Lined : Line → Counts → Rows → Result Counts Refusal → Rows → Type 0
Lined l c E r D = (R : Records) (C : Rows) → RoomForMost C → Counted c R → E ≡ rows_with R C → After C (step R l) r D

abbrev pub counts_of : Records → Counts
counts_of R = record { terms = length R.terms; propositions = length R.propositions; questions = length R.questions }

-- the answer for a whole text
abbrev pub loaded : List ℕ → Reading → Result Counts FaultyLine
loaded text (accepted R) = Ok (counts_of R)
loaded text (refused f) = Err (record { fault = f; part = record { start = (part_of text (refused f)).start; size = (part_of text (refused f)).size } })

-- a refused line ends within the text
abbrev Within : List ℕ → Result Counts FaultyLine → Type 0
Within text (Ok c) = Unit
Within text (Err l) = l.part.start + l.part.size ≤ length text

pub record JudgedAs (text : List ℕ) (r : Result Counts FaultyLine) : Type 0 where
  pub answer : r ≡ loaded text (reading text)
  pub within : Within text r

-- what loading a text leaves in the rows D, where they were C
pub record LoadedAs (text : List ℕ) (C : Rows) (r : Result Counts FaultyLine) (D : Rows) : Type 0 where
  pub judged : JudgedAs text r
  pub cells : (R : Records) → reading text ≡ accepted R → D ≡ rows_with R C

-- a judged line's step
module _ (R : Records) (cs : List ℕ) (f : rust.Option Frame) (judged : meaning f ≡ frame_of_bytes (bytes_of cs)) where
  step_judged : step R (record { characters = cs; ended = true }) ≡ step_frame R (meaning f)
  unfolding step frame_of
  step_judged = rw judged

  pub step_refused : (x : Refusal) → some x ≡ frame_refusal R (meaning f) → step R (record { characters = cs; ended = true }) ≡ refuse x
  step_refused x e = step_judged ∙ go (meaning f) (frame_refusal R (meaning f)) refl e
    where
      go : (o : Option frames.Frame) (y : Option Refusal) → frame_refusal R o ≡ y → some x ≡ y → step_frame R o ≡ refuse x
      go o none p q = let z : ◌≡◌ {A = ℕ} 0 1 = cc in absurd (omega arith)
      go none (some y) p q = cc
      go (some g) (some y) p q = let h : y ≡ x = cc in rw (p, h)

  pub step_accepted : ◌≡◌ {A = Option Refusal} none (frame_refusal R (meaning f)) → (g : frames.Frame) × (meaning f ≡ some g) × (step R (record { characters = cs; ended = true }) ≡ go_on (with_frame R g))
  step_accepted e = go (meaning f) (frame_refusal R (meaning f)) refl refl e
    where
      go : (o : Option frames.Frame) (y : Option Refusal)
          → meaning f ≡ o
          → frame_refusal R o ≡ y
          → ◌≡◌ {A = Option Refusal} none y
          → (g : frames.Frame) × (meaning f ≡ some g) × (step R (record { characters = cs; ended = true }) ≡ go_on (with_frame R g))
      go o (some y) m p q = let z : ◌≡◌ {A = ℕ} 0 1 = cc in absurd (omega arith)
      go none none m p q = let z : ◌≡◌ {A = ℕ} 0 1 = cc in absurd (omega arith)
      go (some g) none m p q =
          let s : step_frame R (some g) ≡ go_on (with_frame R g) = rw p in
          (g, m, step_judged ∙ ap (step_frame R) m ∙ s)

-- an accepted frame whose record is stored
pub went : (R : Records) (C : Rows) (cs : List ℕ) (f : Frame) (c : Counts) (E : Rows) (r : Counts) (D : Rows)
    → RoomForMost C
    → Counted c R
    → E ≡ rows_with R C
    → meaning (Some f) ≡ frame_of_bytes (bytes_of cs)
    → ◌≡◌ {A = Option Refusal} none (frame_refusal R (meaning (Some f)))
    → group_count c (Some f) < most
    → Stored c f E r D
    → Went C (step R (record { characters = cs; ended = true })) r D
went R C cs f c E r D room counts e judged accepts below stored =
    let a = step_accepted R cs (Some f) judged accepts in
    record {
      records = with_frame R a.0;
      stepped = a.2;
      counts = rw stored.counts (counted_more R c f a.0 counts a.1);
      cells = stored.cells ∙ ap (put c f) e ∙ put_rows_with R C c f a.0 room counts below a.1;
    }
