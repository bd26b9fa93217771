-- The frames that the memory holds after the solver's call on accepted tables. Only those of a contradiction need blame.
use Rattle.std.specs.Prelude.{ℕ, ◌≤◌, ◌≡◌, ℤ, pos, length, take, replicate, Result, Ok, Err}
use Rattle.std.proofs.Math.Path.{sym, ap}
use Rattle.std.proofs.Common.{◌∙◌, arith, mul-le-mul_left, mul-le-mul_right, length-take-le}
use Rattle.std.proofs.Math.Option.{Option, none, some}
use Rattle.std.proofs.lemmas.List.{length-replicate}
use Rattle.types.specs.declared.Blame.{Blame}
use Rattle.types.specs.declared.Fault.{Fault}
use Rattle.types.specs.declared.Verdict.{Verdict}
use Rattle.outcome.specs.PairBits.{pair_bytes}
use Rattle.outcome.specs.Outcome.{Outcome}
use Rattle.tables.specs.Limits.{most}
use Rattle.tables.specs.RefusalLaws.{or_else_none}
use Rattle.tables.specs.TableFaults.{Tables, Sized, sizes_fault, records_fault, tables_fault}
use Rattle.tables.proofs.TableFaults.{sized}
use Rattle.tables.specs.Memory.{Memory, memory_of, call_fault, EnoughFor, Beyond}
use Rattle.tables.proofs.Memory.{no_memory_fault, call_accepted}
use Rattle.text.specs.Output.{label_frames, blame_frames, middle, outcome_frames}
use Rattle.text.specs.OutputSize.{largest_output}
use Rattle.text.proofs.OutputSize.{outcome_size}
use Rattle.writer.specs.Frames.{set_frames}
use Rattle.solver.specs.Call.{terms_of, propositions_of, questions_of, length_terms, length_propositions, length_questions, run, run_with, used, Answered}
use Rattle.solver.proofs.Demands.{used_run, beyond_kept, refused_exactly}

abbrev pub zero_memory : Memory
zero_memory = memory_of (replicate most 0) (replicate most (pos 0)) (replicate most 0) (replicate 32768 0) (replicate most 0)

pair_bytes_most : (n : ℕ) → n ≤ most → pair_bytes n ≤ 32768
pair_bytes_most n h = let a = mul-le-mul_right n h in let b = mul-le-mul_left most h in omega arith

-- as many cells of the memory as there are records
pub record HandedOn (T : Tables) (N : Memory) : Type 0 where
  pub representatives : T.terms.count ≤ length N.representatives
  pub offsets : T.terms.count ≤ length N.offsets
  pub marks : T.propositions.count ≤ length N.marks
  pub answers : T.questions.count ≤ length N.answers

not_both : {f : Fault} → ◌≡◌ {A = Option Fault} none (some f) → ⊥
not_both e = let z : ◌≡◌ {A = ℕ} 0 1 = cc in omega arith

module _ (T : Tables) (accepted : tables_fault most T ≡ none) where
  few : Sized most T
  unfolding tables_fault
  few = sized most T (or_else_none (sizes_fault most T) (records_fault T) accepted).0

  enough : EnoughFor T zero_memory
  enough =
      let cells = length-replicate {A = ℕ} most 0 in
      record {
        representatives = omega (arith, cells, few.few_terms);
        offsets = omega (arith, length-replicate {A = ℤ} most (pos 0), few.few_terms);
        marks = omega (arith, cells, few.few_propositions);
        pairs = omega (arith, length-replicate {A = ℕ} 32768 0, pair_bytes_most T.terms.count few.few_terms);
        answers = omega (arith, cells, few.few_questions);
      }

  no_fault : call_fault T zero_memory ≡ none
  no_fault = call_accepted T zero_memory accepted (no_memory_fault T zero_memory enough)

  pub run_size : length (outcome_frames (run T)) ≤ largest_output
  unfolding run
  run_size =
      outcome_size (terms_of T) (propositions_of T) (questions_of T) (omega (arith, length_terms T, few.few_terms))
      (omega (arith, length_propositions T, few.few_propositions))
      (omega (arith, length_questions T, few.few_questions))

  module _ {b : Blame} (N : Memory) (r : Result Verdict Fault) (a : Answered b T zero_memory N r) where
    beyond : Beyond T zero_memory N
    beyond = beyond_kept b T zero_memory N r a no_fault

    pub handed_on : HandedOn T N
    handed_on = record {
      representatives = omega (arith, beyond.representatives.0, enough.representatives);
      offsets = omega (arith, beyond.offsets.0, enough.offsets);
      marks = omega (arith, beyond.marks.0, enough.marks);
      answers = omega (arith, beyond.answers.0, enough.answers);
    }

    pub same_labels : length (take T.terms.count N.representatives) ≡ length (take T.terms.count N.offsets)
    same_labels = let h = handed_on in length-take-le T.terms.count N.representatives h.representatives ∙ sym (length-take-le T.terms.count N.offsets h.offsets)

    frames : (v : Verdict) → r ≡ Ok v → outcome_frames (run_with b T) ≡ set_frames v (middle v (used T v N)) (take T.questions.count N.answers)
    unfolding outcome_frames
    frames v e = sym (ap outcome_frames (used_run b T zero_memory N r a no_fault v e))

    pub satisfiable_frames : r ≡ Ok Verdict.Satisfiable
        → outcome_frames (run T)
        ≡ set_frames Verdict.Satisfiable (label_frames 0 (take T.terms.count N.representatives) (take T.terms.count N.offsets)) (take T.questions.count N.answers)
    unfolding outcome_frames
    satisfiable_frames e = same ∙ frames Verdict.Satisfiable e
      where
        found : Verdict.Satisfiable ≡ (run T).verdict
        found = ap (λ (o : Outcome). o.verdict) (used_run b T zero_memory N r a no_fault Verdict.Satisfiable e)

        -- no frame is of the marks
        same : outcome_frames (run T) ≡ outcome_frames (run_with b T)
        same = rw (← found)

    pub contradiction_frames : b ≡ Blame.Asked
        → r ≡ Ok Verdict.Contradiction
        → outcome_frames (run T)
        ≡ set_frames Verdict.Contradiction (blame_frames (take T.propositions.count N.marks)) (take T.questions.count N.answers)
    contradiction_frames asked e = rw asked at (frames Verdict.Contradiction e)

    pub never_refused : (f : Fault) → r ≡ Err f → ⊥
    never_refused f e = not_both (sym no_fault ∙ (refused_exactly b T zero_memory N r a f).0 e)
