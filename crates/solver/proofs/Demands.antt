-- Demands 2 and 3 of what `solve` returns and leaves, and of what `verdict` returns.
use Rattle.std.specs.Prelude.{ℕ, ◌+◌, ◌*◌, ◌-◌, ◌/◌, ◌<◌, ◌≤◌, ◌≡◌, ◌↔◌, ◌⊎◌, Bool, true, false, List, ℤ, pos, ◌+ℤ◌, ◌-ℤ◌, get_or, set, drop, Result, Ok, Err}
use Rattle.std.proofs.Math.Path.{refl, ap}
use Rattle.std.proofs.Common.{sym, ◌∙◌, inl, inr, arith}
use Rattle.std.proofs.Math.Option.{Option, none, some}
use Rattle.std.proofs.Math.Arith.{digits_lt}
use Rattle.std.proofs.Math.ListN.{length}
use Rattle.std.proofs.lemmas.List.{get_or-replicate}
use Rattle.integers.specs.Within.{Within}
use Rattle.lists.specs.Items.{Item, item_below}
use Rattle.lists.specs.Overwrite.{overwrite}
use Rattle.lists.proofs.Overwrite.{overwritten, take_overwrite, overwrite_keeps}
use Rattle.types.specs.declared.Blame.{Blame}
use Rattle.types.specs.declared.Fault.{Fault}
use Rattle.types.specs.declared.Verdict.{Verdict}
use Rattle.types.specs.declared.Answer.{Answer}
use Rattle.types.specs.Numbers.{number_of_answer}
use Rattle.rules.specs.Terms.{Term, Proposition, Comparison, listed, WellFormed}
use Rattle.rules.specs.Rules.{Equal, Different, Contradiction}
use Rattle.rules.specs.Assignments.{Placement, Holds, Differs, Assignment}
use Rattle.rules.proofs.Soundness.{equal_holds, no_contradiction}
use Rattle.closure.specs.Facts.{facts, lists}
use Rattle.closure.proofs.Distance.{largest_distance}
use Rattle.closure.specs.Verdict.{contradictory}
use Rattle.outcome.specs.PairBits.{bit_of, pair_bytes}
use Rattle.outcome.specs.Marks.{marked, tried}
use Rattle.outcome.specs.Outcome.{Outcome, outcome, with_blame}
use Rattle.outcome.proofs.Lengths.{Lengths, outcome_lengths, length_marks}
use Rattle.outcome.proofs.Demands as outcomes
use Rattle.tables.specs.Limits.{most, offset_limit}
use Rattle.tables.specs.Rows.{term_in, proposition_in, question_in}
use Rattle.tables.specs.RefusalLaws.{or_else_none}
use Rattle.tables.proofs.PropositionTable.{well_formed_from, bounded_from}
use Rattle.tables.proofs.QuestionTable.{question_sides}
use Rattle.tables.proofs.TableFaults as faults
use Rattle.tables.specs.TableFaults.{Tables, sizes_fault, records_fault, tables_fault, Accepted}
use Rattle.tables.proofs.TableFaults.{unrefused}
use Rattle.tables.specs.Memory.{Memory, call_fault, memory_fault, Beyond, memory_with}
use Rattle.tables.proofs.Memory.{passed}
use Rattle.solver.specs.Call.{terms_of, propositions_of, questions_of, length_terms, run, run_with, run_lengths, used, returned, left, Answered, unasked, verdict_of}
use Rattle.solver.specs.Verdict.{verdict_when}

-- the set that accepted tables hold is well formed
pub tables_well_formed : (T : Tables) → Accepted T → WellFormed (terms_of T) (listed (terms_of T) (propositions_of T))
tables_well_formed T a =
    well_formed_from T.terms.count (term_in T.terms.rows) T.propositions.count (proposition_in T.propositions.rows) a.terms a.propositions

-- what an accepted call returns
pub contradiction_returned :
    (T : Tables) (r : Result Verdict Fault) →
    r ≡ returned none T →
    r ≡ Ok Verdict.Contradiction ↔ ((outcome (terms_of T) (propositions_of T) (questions_of T)).verdict ≡ Verdict.Contradiction)
unfolding run
contradiction_returned T r is = (λ e. go (run T).verdict refl e, λ e. is ∙ ap Ok e)
  where
    go : (v : Verdict) → (run T).verdict ≡ v → r ≡ Ok Verdict.Contradiction → v ≡ Verdict.Contradiction
    go Verdict.Contradiction v e = refl
    go Verdict.Satisfiable v e = let s = is ∙ ap Ok v in cc

abbrev answer_of : Verdict → Result Verdict Fault
answer_of v = Ok v

solved_same : (v w : Verdict) → answer_of v ≡ answer_of w → v ≡ w
solved_same v w e = cc

solved_either : (v : Verdict) → (answer_of v ≡ Ok Verdict.Satisfiable) ⊎ (answer_of v ≡ Ok Verdict.Contradiction)
solved_either Verdict.Satisfiable = inl refl
solved_either Verdict.Contradiction = inr refl

-- what a call returns is a refusal exactly where there is a fault
returned_refused : (o : Option Fault) (T : Tables) (f : Fault) → returned o T ≡ Err f ↔ (o ≡ some f)
returned_refused none T f = (λ e. cc, λ e. cc)
returned_refused (some g) T f = (λ e. let h : g ≡ f = cc in ap some h, λ e. let h : g ≡ f = cc in ap Err h)

-- An accepted call of `solve` that is answered as promised: the result r, and the lent memory N afterwards.
module _ (b : Blame) (T : Tables) (M N : Memory) (r : Result Verdict Fault) (A : Answered b T M N r) (accepted : call_fault T M ≡ none) where
  abbrev ts : List Term
  ts = terms_of T

  abbrev ps : List Proposition
  ps = propositions_of T

  abbrev qs : List Comparison
  qs = questions_of T

  abbrev O : Outcome
  O = outcome ts ps qs

  wf : WellFormed ts (listed ts ps)
  wf = tables_well_formed T (passed T M accepted).accepted

  run_is : run T ≡ O
  unfolding run
  run_is = refl

  contradiction_iff : r ≡ Ok Verdict.Contradiction ↔ (O.verdict ≡ Verdict.Contradiction)
  contradiction_iff = contradiction_returned T r (rw accepted at A.returns)

  satisfiable_verdict : r ≡ Ok Verdict.Satisfiable → O.verdict ≡ Verdict.Satisfiable
  satisfiable_verdict e = go O.verdict refl
    where
      go : (v : Verdict) → O.verdict ≡ v → v ≡ Verdict.Satisfiable
      go Verdict.Satisfiable v = refl
      go Verdict.Contradiction v = let s = contradiction_iff.1 v in let z : ◌≡◌ {A = ℕ} 0 1 = cc in absurd (omega arith)

  left_is : N ≡ memory_with (with_blame b O) M
  left_is = rw (accepted, run_is) at A.leaves

  lengths : Lengths ts ps qs O
  lengths = outcome_lengths ts ps qs

  representatives_left : N.representatives ≡ overwrite O.representatives M.representatives
  unfolding memory_with
  representatives_left = ap (λ (m : Memory). m.representatives) left_is

  offsets_left : N.offsets ≡ overwrite O.offsets M.offsets
  unfolding memory_with
  offsets_left = ap (λ (m : Memory). m.offsets) left_is

  -- the marks as they are written
  abbrev written : List ℕ
  written = (with_blame b O).marks

  marks_count : length written ≡ length ps
  marks_count = length_marks b O.marks ∙ lengths.marks

  marks_left : N.marks ≡ overwrite written M.marks
  unfolding memory_with
  marks_left = ap (λ (m : Memory). m.marks) left_is

  pairs_left : N.pairs ≡ overwrite O.pairs M.pairs
  unfolding memory_with
  pairs_left = ap (λ (m : Memory). m.pairs) left_is

  answers_left : N.answers ≡ overwrite O.answers M.answers
  unfolding memory_with
  answers_left = ap (λ (m : Memory). m.answers) left_is

  abbrev representative : ℕ → ℕ
  representative t = get_or N.representatives t 0

  abbrev offset : ℕ → ℤ
  offset t = get_or N.offsets t (pos 0)

  label_is : (t : ℕ) → t < length ts → (representative t ≡ get_or O.representatives t 0) × (offset t ≡ get_or O.offsets t (pos 0))
  label_is t h = (
    rw representatives_left (overwritten O.representatives M.representatives t 0 (omega (arith, lengths.representatives))),
    rw offsets_left (overwritten O.offsets M.offsets t (pos 0) (omega (arith, lengths.offsets))),
  )

  mark_is : (k : ℕ) → k < length ps → get_or N.marks k 0 ≡ get_or written k 0
  mark_is k h = rw marks_left (overwritten written M.marks k 0 (omega (arith, marks_count)))

  zero_mark : (k : ℕ) → k < length ps → get_or (with_blame Blame.NotAsked O).marks k 0 ≡ 0
  zero_mark k h = get_or-replicate (length O.marks) k 0 0 (omega (arith, lengths.marks))

  -- without blame every mark is 0
  pub unmarked : b ≡ Blame.NotAsked → (k : ℕ) → k < length ps → get_or N.marks k 0 ≡ 0
  unmarked e k h = mark_is k h ∙ rw e (zero_mark k h)

  bit_is : (i : ℕ) → i < 8 * pair_bytes (length ts) → bit_of N.pairs i ≡ bit_of O.pairs i
  unfolding bit_of
  bit_is i h = let g : i / 8 < length O.pairs = omega (arith, lengths.pairs) in rw (pairs_left, overwritten O.pairs M.pairs (i / 8) 0 g)

  answer_is : (k : ℕ) → k < length qs → get_or N.answers k 0 ≡ get_or O.answers k 0
  answer_is k h = rw answers_left (overwritten O.answers M.answers k 0 (omega (arith, lengths.answers)))

  -- the cells that the set needs hold its outcome
  pub used_run : (v : Verdict) → r ≡ Ok v → used T v N ≡ run_with b T
  used_run v e =
      let l = run_lengths b T in
      let same : v ≡ (run T).verdict = solved_same v (run T).verdict (sym e ∙ rw accepted at A.returns) in
      rw (
        same,
        representatives_left,
        offsets_left,
        marks_left,
        pairs_left,
        answers_left,
        ← run_is,
        take_overwrite (run T).representatives M.representatives T.terms.count l.representatives,
        take_overwrite (run T).offsets M.offsets T.terms.count l.offsets,
        take_overwrite (run_with b T).marks M.marks T.propositions.count l.marks,
        take_overwrite (run T).pairs M.pairs (pair_bytes T.terms.count) l.pairs,
        take_overwrite (run T).answers M.answers T.questions.count l.answers,
      )

  -- the others are as they were
  pub beyond_kept : Beyond T M N
  beyond_kept =
      let l = run_lengths b T in
      let E = (passed T M accepted).enough in
      record {
        representatives = rw (representatives_left, ← run_is) (overwrite_keeps (run T).representatives M.representatives _ l.representatives E.representatives);
        offsets = rw (offsets_left, ← run_is) (overwrite_keeps (run T).offsets M.offsets _ l.offsets E.offsets);
        marks = rw (marks_left, ← run_is) (overwrite_keeps (run_with b T).marks M.marks _ l.marks E.marks);
        pairs = rw (pairs_left, ← run_is) (overwrite_keeps (run T).pairs M.pairs _ l.pairs E.pairs);
        answers = rw (answers_left, ← run_is) (overwrite_keeps (run T).answers M.answers _ l.answers E.answers);
      }

  -- demand 2: contradiction exactly where one of the three conditions is derived
  pub contradiction_derived : r ≡ Ok Verdict.Contradiction ↔ Contradiction ts (listed ts ps)
  contradiction_derived =
      let v = outcomes.verdict_exact ts ps qs wf in
      (λ e. v.0 (contradiction_iff.0 e), λ c. contradiction_iff.1 (v.1 c))

  -- demand 3: contradiction exactly where no assignment exists
  pub contradiction_assignments : r ≡ Ok Verdict.Contradiction ↔ ((P : Placement) → Assignment ts (listed ts ps) P → ⊥)
  contradiction_assignments =
      let v = outcomes.verdict_assignments ts ps qs wf in
      (λ e. v.0 (contradiction_iff.0 e), λ c. contradiction_iff.1 (v.1 c))

  module _ (sat : r ≡ Ok Verdict.Satisfiable) where
    -- demand 2: a term's representative is the lowest-numbered term of its class, and its offset is that from it
    pub representative_derived : (t : ℕ) → t < length ts → Equal ts (listed ts ps) t (offset t) (representative t) × ((u : ℕ) (z : ℤ) → u < length ts → Equal ts (listed ts ps) t z u → representative t ≤ u)
    representative_derived t h = rw ((label_is t h).0, (label_is t h).1) (outcomes.representative_lowest ts ps qs wf (satisfiable_verdict sat) t h)

    -- demand 3: and so it is in every assignment
    pub representative_assignments : (t : ℕ) → t < length ts → (P : Placement) → Assignment ts (listed ts ps) P → Holds P t (offset t) (representative t)
    representative_assignments t h P M = equal_holds ts (listed ts ps) P M.respects (representative_derived t h).0

    -- nothing is blamed
    pub unblamed : (k : ℕ) → k < length ps → get_or N.marks k 0 ≡ 0
    unblamed k h = mark_is k h ∙ go b
      where
        go : (c : Blame) → get_or (with_blame c O).marks k 0 ≡ 0
        go Blame.Asked = outcomes.unblamed ts ps qs wf (satisfiable_verdict sat) k h
        go Blame.NotAsked = zero_mark k h

    -- a bit of the pair bytes that is no pair's is 0
    pub unused_zero : (i : ℕ) → length ts * length ts ≤ i → i < 8 * pair_bytes (length ts) → bit_of N.pairs i ≡ 0
    unused_zero i h g = bit_is i g ∙ outcomes.unused_zero ts ps qs wf (satisfiable_verdict sat) i h g

    -- equal terms are at most 511 × 2,147,483,648 apart
    pub distance : {t1 t2 : ℕ} {z : ℤ} → t1 < length ts → t2 < length ts → Equal ts (listed ts ps) t1 z t2 → Within ((most - 1) * offset_limit) z
    distance h1 h2 e =
        let p = passed T M accepted in
        let B = bounded_from T.terms.count T.propositions.count (proposition_in T.propositions.rows) p.accepted.propositions ts in
        let n = length_terms T in
        largest_distance ts (listed ts ps) wf (facts ts ps) (lists ts ps) offset_limit (most - 1) B (omega (arith, n, p.sized.few_terms)) (outcomes.no_contra ts ps qs wf (satisfiable_verdict sat)) h1 h2 e

    module _ (k : ℕ) (q : Comparison) (i : Item qs k q) where
      abbrev given : ℕ
      given = get_or N.answers k 0

      sides : (q.left < length ts) × (q.right < length ts)
      sides =
          let b = question_sides T.terms.count T.questions.count (question_in T.questions.rows) (passed T M accepted).accepted.questions k i in
          let n = length_terms T in
          (omega (arith, b.0, n), omega (arith, b.1, n))

      given_is : given ≡ get_or O.answers k 0
      given_is = answer_is k (item_below qs k i)

      -- demand 2: "equal" exactly where E0 to E4 derive it
      pub equal_derived : given ≡ number_of_answer Answer.Equal ↔ Equal ts (listed ts ps) q.left q.offset q.right
      equal_derived = rw given_is (outcomes.answer_equal ts ps qs wf (satisfiable_verdict sat) k q i sides.0 sides.1)

      -- "different" exactly where the rules for it derive it
      pub different_derived : given ≡ number_of_answer Answer.Different ↔ Different ts (listed ts ps) q.left q.offset q.right
      different_derived = rw given_is (outcomes.answer_different ts ps qs wf (satisfiable_verdict sat) k q i sides.0 sides.1)

      -- else "neither"
      pub neither_derived : given ≡ number_of_answer Answer.Neither ↔ ((Equal ts (listed ts ps) q.left q.offset q.right → ⊥) × (Different ts (listed ts ps) q.left q.offset q.right → ⊥))
      neither_derived = rw given_is (outcomes.answer_neither ts ps qs wf (satisfiable_verdict sat) k q i sides.0 sides.1)

      -- demand 3: "equal" exactly where the question holds in every assignment
      pub equal_assignments : given ≡ number_of_answer Answer.Equal ↔ ((P : Placement) → Assignment ts (listed ts ps) P → Holds P q.left q.offset q.right)
      equal_assignments = rw given_is (outcomes.equal_assignments ts ps qs wf (satisfiable_verdict sat) k q i sides.0 sides.1)

      -- "different" differs in every assignment
      pub different_assignments : given ≡ number_of_answer Answer.Different → (P : Placement) → Assignment ts (listed ts ps) P → Differs P q.left q.offset q.right
      different_assignments e = outcomes.different_assignments ts ps qs wf (satisfiable_verdict sat) k q i sides.0 sides.1 (sym given_is ∙ e)

    -- "different" moves along equalities on both sides, however it was derived
    pub different_moves : (k : ℕ) (q : Comparison) → Item qs k q → (j : ℕ) (s : Comparison) → Item qs j s → (y z : ℤ) → Equal ts (listed ts ps) s.left y q.left → Equal ts (listed ts ps) s.right z q.right → s.offset ≡ q.offset +ℤ y -ℤ z → get_or N.answers k 0 ≡ number_of_answer Answer.Different → get_or N.answers j 0 ≡ number_of_answer Answer.Different
    different_moves k q i j s at y z e f o g = (different_derived j s at).1 (rw o (Different.moved ((different_derived k q i).0 g) e f))

    module _ (i j : ℕ) (hi : i < length ts) (hj : j < length ts) where
      abbrev bit : ℕ
      bit = bit_of N.pairs (i * length ts + j)

      pair_is : bit ≡ bit_of O.pairs (i * length ts + j)
      pair_is = bit_is (i * length ts + j) (omega (arith, digits_lt hi hj))

      -- demand 2: a pair bit is 1 exactly where term i is different from 0 + term j
      pub pair_derived : bit ≡ 1 ↔ Different ts (listed ts ps) i (pos 0) j
      pair_derived = rw pair_is (outcomes.pair_different ts ps qs wf (satisfiable_verdict sat) i j hi hj)

      -- it depends only on the classes and the offsets of i and j
      pub pair_places : (u v : ℕ) → u < length ts → v < length ts → representative u ≡ representative i → offset u ≡ offset i → representative v ≡ representative j → offset v ≡ offset j → bit_of N.pairs (u * length ts + v) ≡ bit
      pair_places u v hu hv ru ou rv ov =
          let a = label_is i hi in
          let b = label_is j hj in
          let c = label_is u hu in
          let d = label_is v hv in
          bit_is (u * length ts + v) (omega (arith, digits_lt hu hv))
          ∙ outcomes.pair_places ts ps qs wf (satisfiable_verdict sat) i j hi hj u v hu hv (sym c.0 ∙ ru ∙ a.0) (sym c.1 ∙ ou ∙ a.1) (sym d.0 ∙ rv ∙ b.0) (sym d.1 ∙ ov ∙ b.1)
          ∙ sym pair_is

      -- demand 3: a pair whose bit is 1 differs in every assignment
      pub pair_assignments : bit ≡ 1 → (P : Placement) → Assignment ts (listed ts ps) P → Differs P i (pos 0) j
      pair_assignments e = outcomes.pair_assignments ts ps qs wf (satisfiable_verdict sat) i j hi hj (sym pair_is ∙ e)

  module _ (con : r ≡ Ok Verdict.Contradiction) where
    is_con : O.verdict ≡ Verdict.Contradiction
    is_con = contradiction_iff.0 con

    -- each term is its own representative at offset 0, no pair bit is set, each answer is 3
    pub own_representative : (t : ℕ) → t < length ts → (representative t ≡ t) × (offset t ≡ pos 0)
    own_representative t h = rw ((label_is t h).0, (label_is t h).1) (outcomes.own_representative ts ps qs wf is_con t h)

    pub pairs_zero : (i : ℕ) → i < 8 * pair_bytes (length ts) → bit_of N.pairs i ≡ 0
    pairs_zero i h = bit_is i h ∙ outcomes.pairs_zero ts ps qs wf is_con i

    pub answers_contradictory : (k : ℕ) → k < length qs → get_or N.answers k 0 ≡ number_of_answer Answer.Contradictory
    answers_contradictory k h = answer_is k h ∙ outcomes.answers_contradictory ts ps qs wf is_con k h

    -- with blame
    module _ (asked : b ≡ Blame.Asked) where
      blame_left : N.marks ≡ overwrite O.marks M.marks
      blame_left = rw asked at marks_left

      -- the blamed propositions are contradictory
      pub blamed_contradictory : Contradiction ts (listed ts (marked N.marks ps))
      blamed_contradictory = rw blame_left (outcomes.blamed_contradictory ts ps qs wf is_con (drop (length O.marks) M.marks))

      pub blamed_assignments : (P : Placement) → Assignment ts (listed ts (marked N.marks ps)) P → ⊥
      blamed_assignments P A = no_contradiction ts (listed ts (marked N.marks ps)) P A blamed_contradictory

      module _ (k : ℕ) (h : k < length ps) where
        -- without any one of them they have an assignment
        pub blamed_minimal : get_or N.marks k 0 ≡ 1 → (P : Placement) × Assignment ts (listed ts (marked (set N.marks k 0) ps)) P
        blamed_minimal = rw blame_left (outcomes.blamed_minimal ts ps qs wf is_con (drop (length O.marks) M.marks) k h)

        -- a mark is 0 or 1, and 0 exactly if all before it and the blamed ones after it are contradictory
        pub blamed_unless : (get_or N.marks k 0 < 2) × (get_or N.marks k 0 ≡ 0 ↔ Contradiction ts (listed ts (tried k N.marks ps)))
        blamed_unless = rw blame_left (outcomes.blamed_unless ts ps qs wf is_con (drop (length O.marks) M.marks) k h)

-- a call is refused exactly where it has a fault, and then leaves the memory as it was
module _ (b : Blame) (T : Tables) (M N : Memory) (r : Result Verdict Fault) (A : Answered b T M N r) where
  pub refused_exactly : (f : Fault) → r ≡ Err f ↔ (call_fault T M ≡ some f)
  refused_exactly f = rw A.returns (returned_refused (call_fault T M) T f)

  pub refused_unchanged : (f : Fault) → r ≡ Err f → N ≡ M
  refused_unchanged f e = let c = (refused_exactly f).0 e in rw c at A.leaves

  pub answered_else : call_fault T M ≡ none → (r ≡ Ok Verdict.Satisfiable) ⊎ (r ≡ Ok Verdict.Contradiction)
  answered_else e = rw (A.returns, e) (solved_either (run T).verdict)

-- two calls on the same tables and memory, with blame and without, return the same and leave the same but for the marks
pub forms_agree :
    (a b : Blame) (T : Tables) (M N N' : Memory) (r r' : Result Verdict Fault) →
    Answered a T M N r →
    Answered b T M N' r' →
    (r ≡ r') × (N.representatives ≡ N'.representatives) × (N.offsets ≡ N'.offsets) × (N.pairs ≡ N'.pairs) × (N.answers ≡ N'.answers)
unfolding memory_with
forms_agree a b T M N N' r r' A B = (
  A.returns ∙ sym B.returns,
  rw (A.leaves, B.leaves) (same (call_fault T M)).0,
  rw (A.leaves, B.leaves) (same (call_fault T M)).1,
  rw (A.leaves, B.leaves) (same (call_fault T M)).2,
  rw (A.leaves, B.leaves) (same (call_fault T M)).3,
)
  where
    same :
        (o : Option Fault) →
        ((left o a T M).representatives ≡ (left o b T M).representatives)
        × ((left o a T M).offsets ≡ (left o b T M).offsets)
        × ((left o a T M).pairs ≡ (left o b T M).pairs)
        × ((left o a T M).answers ≡ (left o b T M).answers)
    same none = (refl, refl, refl, refl)
    same (some f) = (refl, refl, refl, refl)

-- `solve` returns what `verdict` returns for the tables, accepted or refused, if the lent memory is enough
pub solve_agrees : (b : Blame) (T : Tables) (M N : Memory) (r : Result Verdict Fault) → Answered b T M N r → memory_fault T M ≡ none → r ≡ verdict_of T
unfolding call_fault tables_fault verdict_of
solve_agrees b T M N r A room = rw room at A.returns

-- and an accepted call with questions returns the verdict on the set without them
module _ (b : Blame) (T : Tables) (M N : Memory) (r : Result Verdict Fault) (A : Answered b T M N r) (accepted : call_fault T M ≡ none) where
  abbrev U : Tables
  U = unasked T.terms.count T.terms.rows T.propositions.count T.propositions.rows

  no_fault : tables_fault most U ≡ none
  no_fault =
      let p = passed T M accepted in
      unrefused most U
      (record {
        few_terms = p.sized.few_terms;
        few_propositions = p.sized.few_propositions;
        few_questions = omega arith;
        terms_long = p.sized.terms_long;
        propositions_long = p.sized.propositions_long;
        questions_long = omega arith;
      })
      (record { terms = p.accepted.terms; propositions = p.accepted.propositions; questions = λ k h. absurd (omega arith) })

  same : (b : Bool) → contradictory (terms_of T) (facts (terms_of T) (propositions_of T)) ≡ b → (run T).verdict ≡ (run U).verdict
  same true e = sym (verdict_when T false e) ∙ verdict_when U false e
  same false e = sym (verdict_when T true e) ∙ verdict_when U true e

  pub solve_agrees_unasked : r ≡ verdict_of U
  unfolding verdict_of
  solve_agrees_unasked = (rw accepted at A.returns) ∙ rw no_fault (ap Ok (same (contradictory (terms_of T) (facts (terms_of T) (propositions_of T))) refl))

-- `verdict` refuses tables exactly where they have a fault, else they are satisfiable or contradictory
module _ (T : Tables) where
  pub verdict_refused_exactly : (f : Fault) → verdict_of T ≡ Err f ↔ (tables_fault most T ≡ some f)
  unfolding verdict_of
  verdict_refused_exactly f = returned_refused (tables_fault most T) T f

  pub verdict_else : tables_fault most T ≡ none → (verdict_of T ≡ Ok Verdict.Satisfiable) ⊎ (verdict_of T ≡ Ok Verdict.Contradiction)
  unfolding verdict_of
  verdict_else e = rw e (solved_either (run T).verdict)

-- demands 2 and 3 of what `verdict` returns, for accepted tables
module _ (T : Tables) (r : Result Verdict Fault) (is : r ≡ verdict_of T) (accepted : tables_fault most T ≡ none) where
  is_contradiction : r ≡ Ok Verdict.Contradiction ↔ ((outcome (terms_of T) (propositions_of T) (questions_of T)).verdict ≡ Verdict.Contradiction)
  unfolding verdict_of
  is_contradiction = contradiction_returned T r (rw accepted at is)

  well_formed : WellFormed (terms_of T) (listed (terms_of T) (propositions_of T))
  unfolding tables_fault
  well_formed = tables_well_formed T (faults.accepted T (or_else_none (sizes_fault most T) (records_fault T) accepted).1)

  -- demand 2: contradiction exactly where one of the three conditions is derived
  pub verdict_derived : r ≡ Ok Verdict.Contradiction ↔ Contradiction (terms_of T) (listed (terms_of T) (propositions_of T))
  verdict_derived =
      let v = outcomes.verdict_exact (terms_of T) (propositions_of T) (questions_of T) well_formed in
      (λ e. v.0 (is_contradiction.0 e), λ c. is_contradiction.1 (v.1 c))

  -- demand 3: contradiction exactly where no assignment exists
  pub verdict_assignments : r ≡ Ok Verdict.Contradiction ↔ ((P : Placement) → Assignment (terms_of T) (listed (terms_of T) (propositions_of T)) P → ⊥)
  verdict_assignments =
      let v = outcomes.verdict_assignments (terms_of T) (propositions_of T) (questions_of T) well_formed in
      (λ e. v.0 (is_contradiction.0 e), λ c. is_contradiction.1 (v.1 c))
