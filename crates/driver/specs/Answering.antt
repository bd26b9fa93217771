-- The frames for a text, from what the reader answers and leaves.
use Rattle.std.specs.Prelude.{ℕ, false, List, Result, Ok, Err}
use Rattle.std.proofs.Math.Path.{◌≡◌}
use Rattle.std.proofs.Common.{sym, ◌∙◌, ap, arith}
use Rattle.std.proofs.Math.Option.{none}
use Rattle.types.specs.declared.Fault.{Fault}
use Rattle.tables.specs.Limits.{most}
use Rattle.tables.specs.TableFaults.{tables_fault}
use Rattle.text.specs.Reading.{Records, Reading, accepted, refused, reading}
use Rattle.text.specs.Output.{outcome_frames, refusal_frame, reading_frames, solved}
use Rattle.text.proofs.Sound.{Sound, accepted_sound}
use Rattle.types.specs.declared.Counts.{Counts}
use Rattle.frames.specs.Rows.{Rows, rows_with}
use Rattle.reader.specs.Loading.{counts_of}
use Rattle.reader.specs.Answers.{short_rows, read_into, answer, ReadAs}
use Rattle.reader.specs.Held.{terms_held, propositions_held, questions_held}
use Rattle.reader.specs.Passing.{read_tables, read_leaves, read_passes}
use Rattle.solver.specs.Call.{run}

-- the outcome of the tables that hold a text's records is that of the records
run_solved : (R : Records) (C : Rows) → Sound R → run (read_tables (counts_of R) (rows_with R C)) ≡ solved R
unfolding run solved
run_solved R C s = rw (terms_held R C s, propositions_held R C s, questions_held R C s)

module _ (text : List ℕ) (C : Rows) (r : Result Counts Fault) (D : Rows) (a : ReadAs text C r D) where
  pub refused_frames : short_rows C ≡ false → (f : Fault) → r ≡ Err f → reading_frames (reading text) ≡ refusal_frame f
  unfolding read_into
  refused_frames room f e = go (reading text) (sym e ∙ (rw room at a.result))
    where
      go : (o : Reading) → Err f ≡ answer o → reading_frames o ≡ refusal_frame f
      go (accepted R) h = let z : ◌≡◌ {A = ℕ} 0 1 = cc in absurd (omega arith)
      go (refused g) h = let p : f ≡ g = cc in rw p

  module _ (c : Counts) (e : r ≡ Ok c) where
    reads : ReadAs text C (Ok c) D
    reads = rw e at a

    pub accepted_tables : tables_fault most (read_tables c D) ≡ none
    accepted_tables = read_passes text C c D reads

    pub accepted_frames : reading_frames (reading text) ≡ outcome_frames (run (read_tables c D))
    accepted_frames =
        let l = read_leaves text C c D reads in
        ap reading_frames l.reads
        ∙ sym (ap (λ T. outcome_frames (run T)) l.tables ∙ ap outcome_frames (run_solved l.records C (accepted_sound text l.records l.reads)))
