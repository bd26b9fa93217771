-- What the program writes for a text, from what `read` and `solve` answer.
use Rattle.std.specs.Prelude.{ℕ, ◌≡◌, false, List, ◌++◌, take, Result, Ok, Err}
use Rattle.std.proofs.Common.{sym, ◌∙◌, ap}
use Rattle.std.proofs.Math.Option.{none}
use Rattle.types.specs.declared.Blame.{Blame}
use Rattle.types.specs.declared.Fault.{Fault}
use Rattle.types.specs.declared.Counts.{Counts}
use Rattle.types.specs.declared.Verdict.{Verdict}
use Rattle.tables.specs.TableFaults.{Tables}
use Rattle.tables.specs.Memory.{Memory, memory_fault}
use Rattle.tables.proofs.Memory.{call_accepted}
use Rattle.text.specs.Output.{verdict_frame, label_frames, blame_frames, answer_frames, outcome_frames, refusal_frame, output}
use Rattle.text.proofs.Size.{output_all}
use Rattle.frames.specs.Rows.{Rows}
use Rattle.reader.specs.Answers.{short_rows, ReadAs}
use Rattle.reader.specs.Passing.{read_tables}
use Rattle.solver.specs.Call.{used, Answered}
use Rattle.solver.proofs.Demands.{used_run}
use Rattle.driver.specs.Answering.{refused_frames, accepted_tables, accepted_frames}

module _ (text : List ℕ) (C D : Rows) (r : Result Counts Fault) (A : ReadAs text C r D) where
  -- a refused text gives the frame of its refusal
  pub output_refused : short_rows C ≡ false → (f : Fault) → r ≡ Err f → output text ≡ refusal_frame f
  output_refused room f e = output_all text ∙ refused_frames text C r D A room f e

  -- an accepted one those of what `solve` leaves for its tables, asked for blame
  module _ (c : Counts) (e : r ≡ Ok c) (M N : Memory) (s : Result Verdict Fault) (B : Answered Blame.Asked (read_tables c D) M N s) (room : memory_fault (read_tables c D) M ≡ none) where
    abbrev T : Tables
    T = read_tables c D

    output_is : (v : Verdict) → s ≡ Ok v → output text ≡ outcome_frames (used T v N)
    output_is v is =
        output_all text
        ∙ accepted_frames text C r D A c e
        ∙ ap outcome_frames (sym (used_run Blame.Asked T M N s B (call_accepted T M (accepted_tables text C r D A c e) room) v is))

    pub output_satisfiable : s ≡ Ok Verdict.Satisfiable → output text ≡ verdict_frame Verdict.Satisfiable ++ (label_frames 0 (take c.terms N.representatives) (take c.terms N.offsets) ++ answer_frames (take c.questions N.answers))
    unfolding outcome_frames
    output_satisfiable is = output_is Verdict.Satisfiable is

    pub output_contradiction : s ≡ Ok Verdict.Contradiction → output text ≡ verdict_frame Verdict.Contradiction ++ (blame_frames (take c.propositions N.marks) ++ answer_frames (take c.questions N.answers))
    unfolding outcome_frames
    output_contradiction is = output_is Verdict.Contradiction is
