-- The promise of `solve`: how it follows from the tests and from the answers to an accepted set.
use Rattle.std.specs.Prelude.{ℕ, ◌≡◌, refl, List, ◌++◌, length, take, drop, Result, Ok, Err}
use Rattle.std.proofs.Math.Path.{sym}
use Rattle.std.proofs.Common.{◌∙◌, ap, length-take-le}
use Rattle.std.proofs.Math.Option.{Option, none, some}
use Rattle.lists.specs.Overwrite.{overwrite}
use Rattle.types.specs.declared.Blame.{Blame}
use Rattle.types.specs.declared.Fault.{Fault}
use Rattle.types.specs.declared.Verdict.{Verdict}
use Rattle.outcome.specs.PairBits.{pair_bytes}
use Rattle.outcome.specs.Outcome.{outcome}
use Rattle.tables.specs.Limits.{most}
use Rattle.tables.specs.Sets.{terms_in, propositions_in}
use Rattle.tables.specs.TableFaults.{Tables, acceptance, sizes_fault, records_fault, Sized}
use Rattle.tables.proofs.TableFaults.{sized}
use Rattle.tables.specs.Memory.{Memory, memory_fault, call_fault, EnoughFor, memory_with}
use Rattle.tables.proofs.Memory.{enough}
use Rattle.refusals.specs.FirstFault.{Checked, accepts, refuses}
use Rattle.refusals.specs.Parts.{counted, parts_fault}
use Rattle.columns.specs.Telling.{questions_in}
use Rattle.solver.specs.Call.{run, run_with, run_lengths, returned, left, Answered}
use Rattle.solver.specs.Solving.{AcceptedCall, Leaves, Solves}
use Rattle.solver.specs.Counted.{counted_set, counted_questions, terms_count, propositions_count, questions_count, counted_terms, counted_propositions, counted_questions_lem, counted_accepted, counted_asked}

-- the first cells of the memory, as many as the counts need
abbrev pub counted_memory : Tables → Memory → Memory
counted_memory T M = record {
  representatives = take T.terms.count M.representatives;
  offsets = take T.terms.count M.offsets;
  marks = take T.propositions.count M.marks;
  pairs = take (pair_bytes T.terms.count) M.pairs;
  answers = take T.questions.count M.answers;
}

-- and the memory with those cells written
abbrev pub with_counted : Tables → Memory → Memory → Memory
with_counted T M N = record {
  representatives = N.representatives ++ drop T.terms.count M.representatives;
  offsets = N.offsets ++ drop T.terms.count M.offsets;
  marks = N.marks ++ drop T.propositions.count M.marks;
  pairs = N.pairs ++ drop (pair_bytes T.terms.count) M.pairs;
  answers = N.answers ++ drop T.questions.count M.answers;
}

abbrev counted_tables : Tables → Tables
counted_tables T = record { terms = counted T.terms; propositions = counted T.propositions; questions = counted T.questions }

module _ (T : Tables) (M : Memory) where
  answered_refused : (b : Blame) (f : Fault) → call_fault T M ≡ some f → Answered b T M M (Err f)
  answered_refused b f e = record { returns = sym (ap (λ (o : Option Fault). returned o T) e); leaves = sym (ap (λ (o : Option Fault). left o b T M) e) }

  pub sizes_refused : {b : Blame} {f : Fault} {a : Checked} {r : Result Verdict Fault} → a ≡ acceptance (sizes_fault most T) → a ≡ Err f → r ≡ Err f → Answered b T M M r
  unfolding call_fault
  sizes_refused {b} {f} e is told = rw told (answered_refused b f (rw (refuses (sizes_fault most T) e is)))

  module _ (sizes : Ok tt ≡ acceptance (sizes_fault most T)) where
    no_sizes : sizes_fault most T ≡ none
    no_sizes = accepts (sizes_fault most T) sizes refl

    pub counts : Sized most T
    counts = sized most T no_sizes

    pub memory_refused : {b : Blame} {f : Fault} {a : Checked} {r : Result Verdict Fault} → a ≡ acceptance (memory_fault T M) → a ≡ Err f → r ≡ Err f → Answered b T M M r
    unfolding call_fault
    memory_refused {b} {f} e is told = rw told (answered_refused b f (rw (no_sizes, refuses (memory_fault T M) e is)))

    module _ (memory : Ok tt ≡ acceptance (memory_fault T M)) where
      no_memory : memory_fault T M ≡ none
      no_memory = accepts (memory_fault T M) memory refl

      pub room : EnoughFor T M
      room = enough T M no_memory

      pub records_refused : {b : Blame} {f : Fault} {a : Checked} {r : Result Verdict Fault} → a ≡ acceptance (records_fault (counted_tables T)) → a ≡ Err f → r ≡ Err f → Answered b T M M r
      unfolding call_fault
      records_refused {b} {f} e is told = rw told (answered_refused b f (rw (no_sizes, no_memory, sym (parts_fault most T counts) ∙ refuses (records_fault (counted_tables T)) e is)))

      module _ (records : Ok tt ≡ acceptance (records_fault (counted_tables T))) where
        no_records : records_fault T ≡ none
        no_records = sym (parts_fault most T counts) ∙ accepts (records_fault (counted_tables T)) records refl

        pub accepted_call : AcceptedCall (counted_set T) (counted_questions T) (counted_memory T M)
        accepted_call =
            let n = terms_count T counts in
            record {
              accepted = counted_accepted T counts no_records;
              few_propositions = rw (propositions_count T counts) counts.few_propositions;
              accepted_questions = counted_asked T counts no_records;
              few_questions = rw (questions_count T counts) counts.few_questions;
              representatives = length-take-le _ _ room.representatives ∙ sym n;
              offsets = length-take-le _ _ room.offsets ∙ sym n;
              marks = length-take-le _ _ room.marks ∙ sym (propositions_count T counts);
              pairs = length-take-le _ _ room.pairs ∙ ap pair_bytes (sym n);
              answers = length-take-le _ _ room.answers ∙ sym (questions_count T counts);
            }

        no_fault : call_fault T M ≡ none
        unfolding call_fault
        no_fault = rw (no_sizes, no_memory, no_records)

        run_is : outcome (terms_in (counted_set T)) (propositions_in (counted_set T)) (questions_in (counted_questions T)) ≡ run T
        unfolding run
        run_is = rw (counted_terms T counts, counted_propositions T counts, counted_questions_lem T counts)

        -- cells written in front of the others
        front : {A : Type 0} (new cells old : List A) (n : ℕ) → cells ≡ new → length new ≡ n → cells ++ drop n old ≡ overwrite new old
        front new cells old n e l = rw (e, ← l)

        pub answered : {b : Blame} (N : Memory) (v : Verdict) → Solves b (counted_set T) (questions_in (counted_questions T)) N v → Answered b T M (with_counted T M N) (Ok v)
        unfolding memory_with
        answered {b} N v S =
            let L : Leaves (run_with b T) N v = rw run_is at S in
            let l = run_lengths b T in
            let reps = front (run T).representatives N.representatives M.representatives T.terms.count L.representatives l.representatives in
            let offs = front (run T).offsets N.offsets M.offsets T.terms.count L.offsets l.offsets in
            let marks = front (run_with b T).marks N.marks M.marks T.propositions.count L.marks l.marks in
            let pairs = front (run T).pairs N.pairs M.pairs (pair_bytes T.terms.count) L.pairs l.pairs in
            let answers = front (run T).answers N.answers M.answers T.questions.count L.answers l.answers in
            record {
              returns = rw no_fault (ap Ok L.verdict);
              leaves = rw no_fault (λ i. record { representatives = reps i; offsets = offs i; marks = marks i; pairs = pairs i; answers = answers i });
            }
