-- What `read` answers to a text and leaves, told from its promise.
use Rattle.std.specs.Prelude.{ℕ, ◌*◌, ◌≤◌, ◌≡◌, refl, ◌↔◌, Bool, true, false, List, Result, Ok, Err}
use Rattle.std.proofs.Common.{sym, ◌∙◌, arith}
use Rattle.std.proofs.Math.Path.{ap}
use Rattle.lists.specs.Search.{choose}
use Rattle.types.specs.declared.Fault.{Fault}
use Rattle.types.specs.declared.Counts.{Counts}
use Rattle.tables.specs.Limits.{most}
use Rattle.text.specs.Reading.{Records, Reading, accepted, refused, reading, part_of}
use Rattle.text.proofs.Size.{refused_place}
use Rattle.frames.specs.Rows.{Rows, rows_with}
use Rattle.reader.specs.Loading.{counts_of}
use Rattle.reader.specs.Answers.{short, short_rows, table_too_short, read_into, answer, ReadAs, part_at_fault}

answer_refused : (o : Reading) (f : Fault) → answer o ≡ Err f → o ≡ refused f
answer_refused (accepted R) f e = let z : ◌≡◌ {A = ℕ} 0 1 = cc in absurd (omega arith)
answer_refused (refused g) f e = let is : g ≡ f = cc in ap refused is

module _ (text : List ℕ) (C D : Rows) (r : Result Counts Fault) (A : ReadAs text C r D) where
  -- tables without room for the most records: 8
  pub short_refused : short_rows C ≡ true → r ≡ Err table_too_short
  unfolding read_into
  short_refused e = A.result ∙ rw e

  -- else a text is refused exactly where its reading is
  pub refused_exactly : short_rows C ≡ false → (f : Fault) → r ≡ Err f ↔ (reading text ≡ refused f)
  unfolding read_into
  refused_exactly e f =
      let is : r ≡ answer (reading text) = A.result ∙ rw e in
      (λ h. answer_refused (reading text) f (sym is ∙ h), λ h. is ∙ ap answer h)

  -- a refused text leaves the rows as they were
  pub refused_unchanged : (f : Fault) → r ≡ Err f → D ≡ C
  refused_unchanged f e = let h = answer_refused (read_into C text) f (sym A.result ∙ e) in rw h at A.cells

  -- an accepted one leaves its records in front
  pub accepted_rows : short_rows C ≡ false → (R : Records) → reading text ≡ accepted R → (r ≡ Ok (counts_of R)) × (D ≡ rows_with R C)
  unfolding read_into
  accepted_rows e R h = (A.result ∙ rw (e, h), A.cells ∙ rw (e, h))

-- the part that is handed back
pub part_judged : (text : List ℕ) (t p q : ℕ) → part_at_fault text t p q ≡ choose (short t p q) (record { start = 0; size = 0 }) (part_of text (reading text))
unfolding part_at_fault
part_judged text t p q = refl

-- no place is above the number of records
pub read_place : (text : List ℕ) (C D : Rows) (f : Fault) → ReadAs text C (Err f) D → f.place ≤ 3 * most
unfolding read_into
read_place text C D f A = go (short_rows C) (answer_refused (read_into C text) f (sym A.result))
  where
    go : (b : Bool) → choose b (refused table_too_short) (reading text) ≡ refused f → f.place ≤ 3 * most
    go true e = let is : table_too_short ≡ f = cc in rw (← is) (omega arith)
    go false e = refused_place text f e
