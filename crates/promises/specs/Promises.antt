-- All that is promised, in the order of the demands. Each statement stands in full; its proof of one line says where it is proved.
-- The contract of a function promises for a call
--   solve          Answered b T M N r            whether blame is asked for b, tables T, lent memory M before and N after, result r
--   verdict        r ≡ verdict_of T              tables T without questions, result r
--   read           ReadAs text C r D             text, lent rows C before and D after, result r
--   faulty_line    HandedBack text r (part_at_fault text t p q)     r a part of the text; room for t, p and q records
--   write_output   WritesOutput text old n new   text, buffer before and after, n bytes written
-- and what that says is said here. For C: AnsweredNumber and ReadNumber, with a number for the result.
pub mod Words
use Words.*
use Rattle.closure.specs.Reached as reached
use Rattle.reader.specs.Facts as reads
use Rattle.solver.proofs.Demands as solver
use Rattle.driver.specs.Within as written
use Rattle.driver.specs.Program as program
use Rattle.results.specs.Results as numbers

-- Demand 1. Every set of tables gets an answer; a refused call changes nothing; offsets never overflow (`largest_distance`).
module _ (b : Blame) (T : Tables) (M N : Memory) (r : Result Verdict Fault) (A : Answered b T M N r) where
  -- a call is refused exactly if it has a fault, with the number and the place of the first one; marks count as memory in both forms
  solve_refuses : (f : Fault) → r ≡ Err f ↔ (call_fault T M ≡ some f)
  solve_refuses = solver.refused_exactly b T M N r A

  solve_answers : call_fault T M ≡ none → (r ≡ Ok Verdict.Satisfiable) ⊎ (r ≡ Ok Verdict.Contradiction)
  solve_answers = solver.answered_else b T M N r A

  -- a refused call leaves the memory as it was, any other the cells beyond those that it needs
  refused_memory : (f : Fault) → r ≡ Err f → N ≡ M
  refused_memory = solver.refused_unchanged b T M N r A

  cells_beyond : call_fault T M ≡ none → Beyond T M N
  cells_beyond = solver.beyond_kept b T M N r A

-- with blame and without, `solve` returns the same and leaves the same but for the marks
forms_agree : (T : Tables) (M N N' : Memory) (r r' : Result Verdict Fault) → Answered Blame.Asked T M N r → Answered Blame.NotAsked T M N' r' → (r ≡ r') × (N.representatives ≡ N'.representatives) × (N.offsets ≡ N'.offsets) × (N.pairs ≡ N'.pairs) × (N.answers ≡ N'.answers)
forms_agree = solver.forms_agree Blame.Asked Blame.NotAsked

-- `verdict` refuses what `solve` refuses, but for the lent memory, and else returns the same
verdict_answers : (T : Tables) → ((f : Fault) → verdict_of T ≡ Err f ↔ (tables_fault most T ≡ some f)) × (tables_fault most T ≡ none → (verdict_of T ≡ Ok Verdict.Satisfiable) ⊎ (verdict_of T ≡ Ok Verdict.Contradiction))
verdict_answers T = (solver.verdict_refused_exactly T, solver.verdict_else T)

verdict_same : (b : Blame) (T : Tables) (M N : Memory) (r : Result Verdict Fault) → Answered b T M N r → memory_fault T M ≡ none → r ≡ verdict_of T
verdict_same = solver.solve_agrees

-- Every text gets an answer: 8 where a table has room for less than 512 records, else the text decides.
module _ (text : List ℕ) (C D : Rows) (r : Result Counts Fault) (A : ReadAs text C r D) where
  read_short : short_rows C ≡ true → r ≡ Err table_too_short
  read_short = reads.short_refused text C D r A

  read_refuses : short_rows C ≡ false → (f : Fault) → r ≡ Err f ↔ (reading text ≡ refused f)
  read_refuses = reads.refused_exactly text C D r A

  read_accepts : short_rows C ≡ false → (R : Records) → reading text ≡ accepted R → (r ≡ Ok (counts_of R)) × (D ≡ rows_with R C)
  read_accepts = reads.accepted_rows text C D r A

  refused_rows : (f : Fault) → r ≡ Err f → D ≡ C
  refused_rows = reads.refused_unchanged text C D r A

  -- the program writes the refusal, or what `solve`, asked for blame, returns and leaves for the rows
  output_refused : short_rows C ≡ false → (f : Fault) → r ≡ Err f → output text ≡ refusal_frame f
  output_refused = program.output_refused text C D r A

  module _ (c : Counts) (e : r ≡ Ok c) (M N : Memory) (s : Result Verdict Fault) (B : Answered Blame.Asked (read_tables c D) M N s) (room : memory_fault (read_tables c D) M ≡ none) where
    output_satisfiable : s ≡ Ok Verdict.Satisfiable → output text ≡ verdict_frame Verdict.Satisfiable ++ (label_frames 0 (take c.terms N.representatives) (take c.terms N.offsets) ++ answer_frames (take c.questions N.answers))
    output_satisfiable = program.output_satisfiable text C D r A c e M N s B room

    output_contradiction : s ≡ Ok Verdict.Contradiction → output text ≡ verdict_frame Verdict.Contradiction ++ (blame_frames (take c.propositions N.marks) ++ answer_frames (take c.questions N.answers))
    output_contradiction = program.output_contradiction text C D r A c e M N s B room

-- `solve` does not refuse the rows of an accepted text
accepted_passes : (text : List ℕ) (C : Rows) (c : Counts) (D : Rows) → ReadAs text C (Ok c) D → tables_fault most (read_tables c D) ≡ none
accepted_passes = read_passes

-- the faulty line is handed back; of an accepted text, or without room, the empty part at its start
faulty_line : (text : List ℕ) (t p q : ℕ) → part_at_fault text t p q ≡ choose (short t p q) (record { start = 0; size = 0 }) (part_of text (reading text))
faulty_line = reads.part_judged

faulty_characters : (text : List ℕ) (f : Fault) → reading text ≡ refused f → (l : Line) × Item (lines_of text) f.place l × (let p = part_of text (refused f) in take p.size (drop p.start text) ≡ l.characters)
faulty_characters = part_characters

-- the output is written if there is room for the largest one, else nothing; no output is empty or larger; more than the judged bytes do not matter
output_written : (text old : List ℕ) (n : ℕ) (new : List ℕ) → WritesOutput text old n new → (largest_output ≤ length old → (n ≡ length (output text)) × (new ≡ overwrite (output text) old)) × (length old < largest_output → (n ≡ 0) × (new ≡ old))
output_written text old n new w = (written.written_all text old n new w, written.written_none text old n new w)

output_length : (text : List ℕ) → (0 < length (output text)) × (length (output text) ≤ largest_output)
output_length text = (output_some text, output_size text)

enough_judged : (text : List ℕ) → reading (take judged text) ≡ reading text
enough_judged = judged_enough

-- The numbers for C tell a refusal and its place, or the counts, exactly.
solve_number : (b : Blame) (T : Tables) (M N : Memory) (r : ℕ) (A : AnsweredNumber b T M N r) (f : Fault) → A.solved ≡ Err f → Tells 16 r f
solve_number = numbers.solve_tells

verdict_number : (T : Tables) (f : Fault) → verdict_of T ≡ Err f → Tells 16 (number_of_solved (verdict_of T)) f
verdict_number = numbers.verdict_tells

read_number : (text : List ℕ) (C D : Rows) (r : ℕ) (A : ReadNumber text C r D) (f : Fault) → A.result ≡ Err f → Tells 48 r f
read_number = numbers.read_tells

read_number_counts : (text : List ℕ) (C D : Rows) (r : ℕ) (A : ReadNumber text C r D) (c : Counts) → A.result ≡ Ok c → TellsCounts r c
read_number_counts = numbers.read_tells_counts

-- 0 does not ask for blame, every other number does
blame_number : (blame_of_number 0 ≡ Blame.NotAsked) × ((n : ℕ) → 0 < n → blame_of_number n ≡ Blame.Asked)
blame_number = asks_unless_zero

-- Demands 2 and 3, of an accepted call.
module _ (b : Blame) (T : Tables) (M N : Memory) (r : Result Verdict Fault) (A : Answered b T M N r) (accepts : call_fault T M ≡ none) where
  abbrev ts : List Term
  ts = terms_of T

  abbrev ps : List Proposition
  ps = propositions_of T

  abbrev G : Given
  G = listed ts ps

  -- Demand 2. A contradiction is answered exactly where the rules derive one.
  contradiction_derived : r ≡ Ok Verdict.Contradiction ↔ Contradiction ts G
  contradiction_derived = solver.contradiction_derived b T M N r A accepts

  -- without blame every mark is 0
  marks_none : b ≡ Blame.NotAsked → (k : ℕ) → k < length ps → get_or N.marks k 0 ≡ 0
  marks_none = solver.unmarked b T M N r A accepts

  module _ (sat : r ≡ Ok Verdict.Satisfiable) where
    -- a term's representative is the lowest-numbered term of its class, and its offset is that from it
    representative_lowest : (t : ℕ) → t < length ts → Equal ts G t (get_or N.offsets t (pos 0)) (get_or N.representatives t 0) × ((u : ℕ) (z : ℤ) → u < length ts → Equal ts G t z u → get_or N.representatives t 0 ≤ u)
    representative_lowest = solver.representative_derived b T M N r A accepts sat

    marks_zero : (k : ℕ) → k < length ps → get_or N.marks k 0 ≡ 0
    marks_zero = solver.unblamed b T M N r A accepts sat

    pair_different : (i j : ℕ) → i < length ts → j < length ts → bit_of N.pairs (i * length ts + j) ≡ 1 ↔ Different ts G i (pos 0) j
    pair_different = solver.pair_derived b T M N r A accepts sat

    -- it depends only on the classes and the offsets of the two terms
    pair_places : (i j : ℕ) → i < length ts → j < length ts → (u v : ℕ) → u < length ts → v < length ts → get_or N.representatives u 0 ≡ get_or N.representatives i 0 → get_or N.offsets u (pos 0) ≡ get_or N.offsets i (pos 0) → get_or N.representatives v 0 ≡ get_or N.representatives j 0 → get_or N.offsets v (pos 0) ≡ get_or N.offsets j (pos 0) → bit_of N.pairs (u * length ts + v) ≡ bit_of N.pairs (i * length ts + j)
    pair_places = solver.pair_places b T M N r A accepts sat

    unused_bits_zero : (i : ℕ) → length ts * length ts ≤ i → i < 8 * pair_bytes (length ts) → bit_of N.pairs i ≡ 0
    unused_bits_zero = solver.unused_zero b T M N r A accepts sat

    module _ (k : ℕ) (q : Comparison) (i : Item (questions_of T) k q) where
      answer_equal : get_or N.answers k 0 ≡ number_of_answer Answer.Equal ↔ Equal ts G q.left q.offset q.right
      answer_equal = solver.equal_derived b T M N r A accepts sat k q i

      answer_different : get_or N.answers k 0 ≡ number_of_answer Answer.Different ↔ Different ts G q.left q.offset q.right
      answer_different = solver.different_derived b T M N r A accepts sat k q i

      answer_neither : get_or N.answers k 0 ≡ number_of_answer Answer.Neither ↔ ((Equal ts G q.left q.offset q.right → ⊥) × (Different ts G q.left q.offset q.right → ⊥))
      answer_neither = solver.neither_derived b T M N r A accepts sat k q i

    -- "different" moves along equalities on both sides, however it was derived
    different_moves : (k : ℕ) (q : Comparison) → Item (questions_of T) k q → (j : ℕ) (s : Comparison) → Item (questions_of T) j s → (y z : ℤ) → Equal ts G s.left y q.left → Equal ts G s.right z q.right → s.offset ≡ q.offset +ℤ y -ℤ z → get_or N.answers k 0 ≡ number_of_answer Answer.Different → get_or N.answers j 0 ≡ number_of_answer Answer.Different
    different_moves = solver.different_moves b T M N r A accepts sat

    -- demand 1: two terms of a class are at most 511 × 2,147,483,648 apart, which 64 bits hold
    largest_distance : {t1 t2 : ℕ} {z : ℤ} → t1 < length ts → t2 < length ts → Equal ts G t1 z t2 → Within ((most - 1) * offset_limit) z
    largest_distance = solver.distance b T M N r A accepts sat

  module _ (con : r ≡ Ok Verdict.Contradiction) where
    -- each term is its own representative at offset 0, no pair bit is 1, each answer is 3
    own_representative : (t : ℕ) → t < length ts → (get_or N.representatives t 0 ≡ t) × (get_or N.offsets t (pos 0) ≡ pos 0)
    own_representative = solver.own_representative b T M N r A accepts con

    pairs_zero : (i : ℕ) → i < 8 * pair_bytes (length ts) → bit_of N.pairs i ≡ 0
    pairs_zero = solver.pairs_zero b T M N r A accepts con

    answers_contradictory : (k : ℕ) → k < length (questions_of T) → get_or N.answers k 0 ≡ number_of_answer Answer.Contradictory
    answers_contradictory = solver.answers_contradictory b T M N r A accepts con

    -- with blame the blamed propositions are contradictory
    blamed_contradictory : b ≡ Blame.Asked → Contradiction ts (listed ts (marked N.marks ps))
    blamed_contradictory = solver.blamed_contradictory b T M N r A accepts con

    -- from the highest number down, a proposition is not blamed exactly if those still kept, without it, are contradictory
    blamed_unless : b ≡ Blame.Asked → (k : ℕ) → k < length ps → (get_or N.marks k 0 < 2) × (get_or N.marks k 0 ≡ 0 ↔ Contradiction ts (listed ts (tried k N.marks ps)))
    blamed_unless = solver.blamed_unless b T M N r A accepts con

  -- Demand 3. A contradiction is answered exactly where no assignment exists.
  contradiction_assignments : r ≡ Ok Verdict.Contradiction ↔ ((P : Placement) → Assignment ts G P → ⊥)
  contradiction_assignments = solver.contradiction_assignments b T M N r A accepts

  module _ (sat : r ≡ Ok Verdict.Satisfiable) where
    representative_holds : (t : ℕ) → t < length ts → (P : Placement) → Assignment ts G P → Holds P t (get_or N.offsets t (pos 0)) (get_or N.representatives t 0)
    representative_holds = solver.representative_assignments b T M N r A accepts sat

    pair_differs : (i j : ℕ) → i < length ts → j < length ts → bit_of N.pairs (i * length ts + j) ≡ 1 → (P : Placement) → Assignment ts G P → Differs P i (pos 0) j
    pair_differs = solver.pair_assignments b T M N r A accepts sat

    equal_holds : (k : ℕ) (q : Comparison) → Item (questions_of T) k q → get_or N.answers k 0 ≡ number_of_answer Answer.Equal ↔ ((P : Placement) → Assignment ts G P → Holds P q.left q.offset q.right)
    equal_holds = solver.equal_assignments b T M N r A accepts sat

    different_differs : (k : ℕ) (q : Comparison) → Item (questions_of T) k q → get_or N.answers k 0 ≡ number_of_answer Answer.Different → (P : Placement) → Assignment ts G P → Differs P q.left q.offset q.right
    different_differs = solver.different_assignments b T M N r A accepts sat

  -- with blame, the blamed propositions have no assignment, and one without any one of them: they are minimal
  module _ (con : r ≡ Ok Verdict.Contradiction) (asked : b ≡ Blame.Asked) where
    blamed_none : (P : Placement) → Assignment ts (listed ts (marked N.marks ps)) P → ⊥
    blamed_none = solver.blamed_assignments b T M N r A accepts con asked

    blamed_minimal : (k : ℕ) → k < length ps → get_or N.marks k 0 ≡ 1 → (P : Placement) × Assignment ts (listed ts (marked (set N.marks k 0) ps)) P
    blamed_minimal = solver.blamed_minimal b T M N r A accepts con asked

-- Demands 2 and 3 of `verdict`.
module _ (T : Tables) (r : Result Verdict Fault) (is : r ≡ verdict_of T) (accepts : tables_fault most T ≡ none) where
  verdict_derived : r ≡ Ok Verdict.Contradiction ↔ Contradiction (terms_of T) (listed (terms_of T) (propositions_of T))
  verdict_derived = solver.verdict_derived T r is accepts

  verdict_assignments : r ≡ Ok Verdict.Contradiction ↔ ((P : Placement) → Assignment (terms_of T) (listed (terms_of T) (propositions_of T)) P → ⊥)
  verdict_assignments = solver.verdict_assignments T r is accepts

-- The largest distance is reached: by 512 auxiliaries, each −2,147,483,648 from the next, which have an assignment.
distance_reached : Equal (chain_terms 511) (listed (chain_terms 511) (chain_propositions 511 (2 ^ 31))) 0 (neg_ℤ (pos ((most - 1) * offset_limit))) 511
distance_reached = reached.distance_reached_01

distance_assigned : (P : Placement) × Assignment (chain_terms 511) (listed (chain_terms 511) (chain_propositions 511 (2 ^ 31))) P
distance_assigned = reached.chain_assignment 511 (2 ^ 31)
