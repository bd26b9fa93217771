-- The solver does not refuse the tables that an accepted text leaves.
use Rattle.std.specs.Prelude.{ℕ, ◌≤◌, ◌≡◌, refl, List, map, pos, length, get_or, Ok}
use Rattle.std.proofs.Common.{◌∙◌, ap, arith}
use Rattle.std.proofs.Math.Option.{none}
use Rattle.std.proofs.lemmas.List.{length-map}
use Rattle.lists.specs.Items.{get_d_item}
use Rattle.rules.specs.Terms.{Comparison}
use Rattle.tables.specs.Limits.{most}
use Rattle.tables.specs.Records.{TermRecord, PropositionRecord}
use Rattle.tables.specs.TableFaults.{Tables, tables_of, Sized, tables_fault, Accepted as AcceptedTables}
use Rattle.tables.proofs.TableFaults.{unrefused}
use Rattle.lists.specs.Overwrite.{overwrite}
use Rattle.lists.proofs.Overwrite.{overwrite_covers}
use Rattle.text.specs.Reading.{Records, Reading, accepted, refused, reading}
use Rattle.text.proofs.Sound.{Sound, accepted_sound}
use Rattle.types.specs.declared.Counts.{Counts}
use Rattle.frames.specs.Rows.{Rows, rows_with}
use Rattle.reader.specs.Loading.{counts_of}
use Rattle.reader.specs.Answers.{read_into, answer, left, ReadAs, read_into_lem}
use Rattle.reader.specs.Held.{term_held_lem, proposition_held_lem, question_held, front_held}

-- the tables that `read` leaves: so many records each
abbrev pub read_tables : Counts → Rows → Tables
read_tables c D = tables_of c.terms D.terms c.propositions D.propositions c.questions D.questions

overwrite_long : {A B : Type 0} (f : A → B) (rs : List A) (old : List B) → length rs ≤ length (overwrite (map f rs) old)
overwrite_long f rs old = omega (arith, overwrite_covers (map f rs) old, length-map rs f)

module _ (R : Records) (C : Rows) (s : Sound R) where
  sized : Sized most (read_tables (counts_of R) (rows_with R C))
  unfolding rows_with
  sized = record {
    few_terms = s.few_terms;
    few_propositions = s.few_propositions;
    few_questions = s.few_questions;
    terms_long = overwrite_long _ R.terms C.terms;
    propositions_long = overwrite_long _ R.propositions C.propositions;
    questions_long = overwrite_long _ R.questions C.questions;
  }

  faultless : AcceptedTables (read_tables (counts_of R) (rows_with R C))
  faultless = record {
    terms = λ k h.
        let d : TermRecord = record { kind = 0; number = 0; offset = pos 0 } in
        let x = get_or R.terms k d in
        let i = get_d_item R.terms k d h in
        rw (front_held R C s k (omega arith), term_held_lem R C s k x i) (s.terms k x i);
    propositions = λ k h.
        let d : PropositionRecord = record { kind = 0; left = 0; offset = pos 0; right = 0 } in
        let x = get_or R.propositions k d in
        let i = get_d_item R.propositions k d h in
        rw (proposition_held_lem R C s k x i) (s.propositions k x i);
    questions = λ k h.
        let d : Comparison = record { left = 0; offset = pos 0; right = 0 } in
        let x = get_or R.questions k d in
        let i = get_d_item R.questions k d h in
        rw (question_held R C s k x i) (s.questions k x i);
  }

-- the records of a text that `read` accepts, and the tables that it leaves
pub record LeavesRecords (text : List ℕ) (C : Rows) (c : Counts) (D : Rows) : Type 0 where
  pub records : Records
  pub reads : reading text ≡ accepted records
  pub tables : read_tables c D ≡ read_tables (counts_of records) (rows_with records C)

module _ (text : List ℕ) (C : Rows) (c : Counts) (D : Rows) (read : ReadAs text C (Ok c) D) where
  pub read_leaves : LeavesRecords text C c D
  read_leaves = go (read_into C text) refl read.result read.cells
    where
      go : (o : Reading) → read_into C text ≡ o → Ok c ≡ answer o → D ≡ left o C → LeavesRecords text C c D
      go (accepted R) r e cells =
          let is : c ≡ counts_of R = cc in
          record { records = R; reads = read_into_lem text C R r; tables = rw (is, cells) }
      go (refused f) r e cells = let z : ◌≡◌ {A = ℕ} 0 1 = cc in absurd (omega arith)

  pub read_sized : Sized most (read_tables c D)
  read_sized = rw read_leaves.tables (sized read_leaves.records C (accepted_sound text read_leaves.records read_leaves.reads))

  pub read_passes : tables_fault most (read_tables c D) ≡ none
  read_passes =
      let R = read_leaves.records in
      let s = accepted_sound text R read_leaves.reads in
      ap (tables_fault most) read_leaves.tables ∙ unrefused most (read_tables (counts_of R) (rows_with R C)) (sized R C s) (faultless R C s)
