-- Demands 2 and 3: what a run leaves is what the rules derive, and what that means in the assignments.
-- Each theorem is about the outcome of a set whose dereferences, propositions and questions name listed terms.
use Prim.Native.Nat.{ℕ, zero, suc, ◌+◌, ◌*◌, ◌/◌, ◌%◌, ◌<◌, ◌≤◌}
use Rattle.std.specs.Prelude.{◌≡◌, ◌↔◌, Bool, not, List, ◌++◌, map, ℤ, pos, ◌+ℤ◌, ◌-ℤ◌, replicate}
use Rattle.std.proofs.Math.Path.{refl, sym, ap}
use Rattle.std.proofs.Common.{◌∙◌}
use Rattle.std.proofs.Math.Bool.{true, false}
use native.Mathlib.Omega.{arith}
use Rattle.std.proofs.Math.ListN.{length, get_or, set}
use Rattle.std.proofs.lemmas.List.{get_or-replicate}
use Rattle.std.proofs.Math.Pow.{shr_le}
use Rattle.lists.specs.Items.{Item, item_map}
use Rattle.lists.specs.Search.{choose}
use Rattle.lists.specs.Tabulate.{select}
use Rattle.types.specs.declared.Verdict.TheVariants as verdict
use Rattle.types.specs.declared.Answer.TheVariants as answer
use Rattle.types.specs.Numbers.{number_of_answer}
use Rattle.rules.specs.Terms.{Term, Proposition, Comparison, listed, WellFormed}
use Rattle.rules.specs.Rules.{Equal, Different, Contradiction}
use Rattle.rules.specs.Assignments.{Placement, Holds, Differs, Assignment}
use Rattle.rules.specs.Monotone.{well_formed_less}
use Rattle.rules.proofs.Soundness.{equal_holds, different_differs}
use Rattle.labels.specs.Unique.{Canonical, canonical_equal}
use Rattle.closure.specs.Facts.{facts, lists}
use Rattle.closure.specs.Join.{Label, placed, own}
use Rattle.closure.proofs.Join.{length_own, own_at, rep_at, off_at}
use Rattle.closure.specs.Closure.{closure}
use Rattle.closure.proofs.Closure.{length_closure}
use Rattle.closure.specs.Verdict.{holds, contradictory}
use Rattle.closure.proofs.Verdict.{holds_true, true_holds, contradiction_exact, contradiction_no_assignment, verdict_satisfiable, closure_canonical}
use Rattle.closure.specs.Differences.{different}
use Rattle.closure.proofs.Different.{different_exact}
use Rattle.outcome.specs.Blame.{kept_contradictory, blame}
use Rattle.outcome.proofs.BlameMinimal.{some_of, kept_exact, blame_contradictory, blame_less}
use Rattle.outcome.proofs.BlameOrder.{tried_marks, select_tried, blame_order}
use Rattle.outcome.proofs.Lengths.{length_blame}
use Rattle.outcome.specs.Marks.{marked, tried, marked_all, marked_without, tried_select, mark_at}
use Rattle.outcome.specs.PairBits.{bit_of, bit_value, pair_bytes}
use Rattle.outcome.proofs.PairBits.{bit_value_below, pair_bit_lem, unused_bit}
use Rattle.outcome.specs.Outcome.{Outcome, outcome, satisfiable, contradiction, answer as answer_of}

bit_true : (b : Bool) → bit_value b ≡ 1 → b ≡ true
bit_true true e = refl
bit_true false e = absurd (omega arith)

not_zero : (b : Bool) → bit_value (not b) ≡ 0 → b ≡ true
not_zero true e = refl
not_zero false e = absurd (omega arith)

module _ (ts : List Term) (ps : List Proposition) (qs : List Comparison) (wf : WellFormed ts (listed ts ps)) where
  abbrev contra : Bool
  contra = contradictory ts (facts ts ps)

  abbrev P : Placement
  P = placed (closure ts (facts ts ps))

  outcome_contradiction : contra ≡ true → outcome ts ps qs ≡ contradiction ts ps qs
  unfolding outcome
  outcome_contradiction e = rw e

  outcome_satisfiable : contra ≡ false → outcome ts ps qs ≡ satisfiable ts ps qs
  unfolding outcome
  outcome_satisfiable e = rw e

  contradiction_verdict : (outcome ts ps qs).verdict ≡ verdict.Contradiction ↔ (contra ≡ true)
  unfolding satisfiable contradiction
  contradiction_verdict = ((λ e. go contra refl e), λ e. ap (λ (o : Outcome). o.verdict) (outcome_contradiction e))
    where
      go : (b : Bool) → contra ≡ b → (outcome ts ps qs).verdict ≡ verdict.Contradiction → b ≡ true
      go true c e = refl
      go false c e = let s = ap (λ (o : Outcome). o.verdict) (outcome_satisfiable c) in cc

  -- demand 2: contradiction exactly where one of the three conditions is derived
  pub verdict_exact : (outcome ts ps qs).verdict ≡ verdict.Contradiction ↔ Contradiction ts (listed ts ps)
  verdict_exact =
      let c = contradiction_exact ts (listed ts ps) wf (facts ts ps) (lists ts ps) in
      (λ e. c.0 (contradiction_verdict.0 e), λ k. contradiction_verdict.1 (c.1 k))

  -- demand 3: contradiction exactly where no assignment exists
  pub verdict_assignments : (outcome ts ps qs).verdict ≡ verdict.Contradiction ↔ ((A : Placement) → Assignment ts (listed ts ps) A → ⊥)
  verdict_assignments =
      let c = contradiction_no_assignment ts (listed ts ps) wf (facts ts ps) (lists ts ps) in
      (λ e. c.0 (contradiction_verdict.0 e), λ k. contradiction_verdict.1 (c.1 k))

  module _ (sat : (outcome ts ps qs).verdict ≡ verdict.Satisfiable) where
    pub no_contra : contra ≡ false
    no_contra = go contra refl
      where
        go : (b : Bool) → contra ≡ b → b ≡ false
        go true c = let e = contradiction_verdict.1 c in let z : ◌≡◌ {A = ℕ} 0 1 = cc in absurd (omega arith)
        go false c = refl

    canonical : Canonical ts (listed ts ps) P
    canonical = closure_canonical ts (listed ts ps) wf (facts ts ps) (lists ts ps) no_contra

    leaves : outcome ts ps qs ≡ satisfiable ts ps qs
    leaves = outcome_satisfiable no_contra

    abbrev representative : ℕ → ℕ
    representative t = get_or (outcome ts ps qs).representatives t 0

    abbrev offset : ℕ → ℤ
    offset t = get_or (outcome ts ps qs).offsets t (pos 0)

    labelled : (t : ℕ) → t < length ts → (representative t ≡ P.block t) × (offset t ≡ P.position t)
    unfolding satisfiable
    labelled t h =
        let l = closure ts (facts ts ps) in
        let long : t < length l = omega (arith, length_closure ts (facts ts ps)) in
        (rw leaves (rep_at l t long), rw leaves (off_at l t long))

    -- demand 2: a term's representative is the lowest-numbered term of its class, and its offset is that from it
    pub representative_lowest : (t : ℕ) → t < length ts → Equal ts (listed ts ps) t (offset t) (representative t) × ((u : ℕ) (z : ℤ) → u < length ts → Equal ts (listed ts ps) t z u → representative t ≤ u)
    representative_lowest t h =
        let k = labelled t h in (
          rw (k.0, k.1) (canonical.sound t h),
          λ u z hu e.
              let same = (equal_holds ts (listed ts ps) P canonical.respects e).same_block in
              omega (arith, k.0, same, canonical.lowest u hu),
        )

    module _ (k : ℕ) (q : Comparison) (i : Item qs k q) (hl : q.left < length ts) (hr : q.right < length ts) where
      abbrev given : ℕ
      given = get_or (outcome ts ps qs).answers k 0

      abbrev IsEqual : Type 0
      IsEqual = Equal ts (listed ts ps) q.left q.offset q.right

      abbrev IsDifferent : Type 0
      IsDifferent = Different ts (listed ts ps) q.left q.offset q.right

      answered : given ≡ number_of_answer (answer_of ts (facts ts ps) P q)
      unfolding satisfiable
      answered = rw leaves (item_map (λ (c : Comparison). number_of_answer (answer_of ts (facts ts ps) P c)) qs k 0 i)

      equal_iff : holds P q ≡ true ↔ IsEqual
      equal_iff =
          let c = canonical_equal ts (listed ts ps) P canonical hl hr in
          (λ e. c.1 (holds_true P q e), λ e. true_holds P q (c.0 e))

      different_iff : different ts (facts ts ps) P q.left q.offset q.right ≡ true ↔ IsDifferent
      different_iff = different_exact ts (listed ts ps) wf (facts ts ps) (lists ts ps) P canonical hl hr

      not_both : IsEqual → IsDifferent → ⊥
      not_both e d =
          let A = verdict_satisfiable ts (listed ts ps) wf (facts ts ps) (lists ts ps) no_contra in
          different_differs ts (listed ts ps) P A d (equal_holds ts (listed ts ps) P A.respects e)

      -- the three cases of an answer
      data Cases (n : ℕ) : Type 0 where
        says_equal : n ≡ 1 → IsEqual → Cases n
        says_different : n ≡ 2 → IsDifferent → (IsEqual → ⊥) → Cases n
        says_neither : n ≡ 0 → (IsEqual → ⊥) → (IsDifferent → ⊥) → Cases n

      false_not : (b : Bool) (A : Type 0) → (A → b ≡ true) → b ≡ false → A → ⊥
      false_not b A f e a = let t = f a in let z : ◌≡◌ {A = ℕ} 0 1 = cc in omega arith

      cases : Cases given
      unfolding answer_of
      cases = rw answered (go (holds P q) refl (different ts (facts ts ps) P q.left q.offset q.right) refl)
        where
          go :
              (b : Bool) →
              holds P q ≡ b →
              (d : Bool) →
              different ts (facts ts ps) P q.left q.offset q.right ≡ d →
              Cases (number_of_answer (choose b answer.Equal (choose d answer.Different answer.Neither)))
          go true e d f = says_equal refl (equal_iff.0 e)
          go false e true f = says_different refl (different_iff.0 f) (false_not (holds P q) IsEqual equal_iff.1 e)
          go false e false f =
              says_neither refl (false_not (holds P q) IsEqual equal_iff.1 e)
              (false_not (different ts (facts ts ps) P q.left q.offset q.right) IsDifferent different_iff.1 f)

      -- demand 2: "equal" exactly where E0 to E4 derive it
      pub answer_equal : given ≡ number_of_answer answer.Equal ↔ IsEqual
      answer_equal = (forth cases, back cases)
        where
          forth : Cases given → given ≡ 1 → IsEqual
          forth (says_equal n e) g = e
          forth (says_different n d m) g = absurd (omega arith)
          forth (says_neither n m d) g = absurd (omega arith)

          back : Cases given → IsEqual → given ≡ 1
          back (says_equal n e) g = n
          back (says_different n d m) g = absurd (m g)
          back (says_neither n m d) g = absurd (m g)

      -- "different" exactly where the rules for it derive it
      pub answer_different : given ≡ number_of_answer answer.Different ↔ IsDifferent
      answer_different = (forth cases, back cases)
        where
          forth : Cases given → given ≡ 2 → IsDifferent
          forth (says_equal n e) g = absurd (omega arith)
          forth (says_different n d m) g = d
          forth (says_neither n m d) g = absurd (omega arith)

          back : Cases given → IsDifferent → given ≡ 2
          back (says_equal n e) g = absurd (not_both e g)
          back (says_different n d m) g = n
          back (says_neither n m d) g = absurd (d g)

      -- else "neither"
      pub answer_neither : given ≡ number_of_answer answer.Neither ↔ ((IsEqual → ⊥) × (IsDifferent → ⊥))
      answer_neither = (forth cases, back cases)
        where
          forth : Cases given → given ≡ 0 → (IsEqual → ⊥) × (IsDifferent → ⊥)
          forth (says_equal n e) g = absurd (omega arith)
          forth (says_different n d m) g = absurd (omega arith)
          forth (says_neither n m d) g = (m, d)

          back : Cases given → (IsEqual → ⊥) × (IsDifferent → ⊥) → given ≡ 0
          back (says_equal n e) g = absurd (g.0 e)
          back (says_different n d m) g = absurd (g.1 d)
          back (says_neither n m d) g = n

      -- demand 3: "equal" exactly where the question holds in every assignment
      pub equal_assignments : given ≡ number_of_answer answer.Equal ↔ ((A : Placement) → Assignment ts (listed ts ps) A → Holds A q.left q.offset q.right)
      equal_assignments = (
        λ g A M. equal_holds ts (listed ts ps) A M.respects (answer_equal.0 g),
        λ f.
            let M = verdict_satisfiable ts (listed ts ps) wf (facts ts ps) (lists ts ps) no_contra in
            answer_equal.1 (equal_iff.0 (true_holds P q (f P M))),
      )

      -- "different" differs in every assignment
      pub different_assignments : given ≡ number_of_answer answer.Different → (A : Placement) → Assignment ts (listed ts ps) A → Differs A q.left q.offset q.right
      different_assignments g A M = different_differs ts (listed ts ps) A M (answer_different.0 g)

    -- "different" moves along equalities on both sides, however it was derived
    pub different_closed :
        (k : ℕ) (q : Comparison) → Item qs k q → q.left < length ts → q.right < length ts →
        (j : ℕ) (r : Comparison) → Item qs j r → r.left < length ts → r.right < length ts →
        (a b : ℤ) → Equal ts (listed ts ps) r.left a q.left → Equal ts (listed ts ps) r.right b q.right → r.offset ≡ q.offset +ℤ a -ℤ b →
        get_or (outcome ts ps qs).answers k 0 ≡ number_of_answer answer.Different → get_or (outcome ts ps qs).answers j 0 ≡ number_of_answer answer.Different
    different_closed k q i hl hr j r at jl jr a b e f o g = (answer_different j r at jl jr).1 (rw o (Different.moved ((answer_different k q i hl hr).0 g) e f))

    module _ (i j : ℕ) (hi : i < length ts) (hj : j < length ts) where
      abbrev bit : ℕ
      bit = bit_of (outcome ts ps qs).pairs (i * length ts + j)

      bit_at : (u v : ℕ) → u < length ts → v < length ts → bit_of (outcome ts ps qs).pairs (u * length ts + v) ≡ bit_value (different ts (facts ts ps) P u (pos 0) v)
      unfolding satisfiable
      bit_at u v hu hv = rw leaves (pair_bit_lem (λ a b. different ts (facts ts ps) P a (pos 0) b) (length ts) u v hu hv)

      bit_is : bit ≡ bit_value (different ts (facts ts ps) P i (pos 0) j)
      bit_is = bit_at i j hi hj

      -- demand 2: a pair bit is 1 exactly where term i is different from 0 + term j
      pub pair_different : bit ≡ 1 ↔ Different ts (listed ts ps) i (pos 0) j
      pair_different =
          let d = different_exact ts (listed ts ps) wf (facts ts ps) (lists ts ps) P canonical hi hj in
          (λ e. d.0 (bit_true (different ts (facts ts ps) P i (pos 0) j) (sym bit_is ∙ e)), λ k. bit_is ∙ rw (d.1 k))

      -- it depends only on the classes and the offsets of i and j
      pub pair_places :
          (u v : ℕ) →
          u < length ts →
          v < length ts →
          representative u ≡ representative i →
          offset u ≡ offset i →
          representative v ≡ representative j →
          offset v ≡ offset j →
          bit_of (outcome ts ps qs).pairs (u * length ts + v) ≡ bit
      unfolding different
      pair_places u v hu hv ru ou rv ov =
          let a = labelled i hi in
          let b = labelled j hj in
          let c = labelled u hu in
          let d = labelled v hv in
          let blocks : P.block u ≡ P.block i = sym c.0 ∙ ru ∙ a.0 in
          let others : P.block v ≡ P.block j = sym d.0 ∙ rv ∙ b.0 in
          let at : P.position u ≡ P.position i = sym c.1 ∙ ou ∙ a.1 in
          let from : P.position v ≡ P.position j = sym d.1 ∙ ov ∙ b.1 in
          let same : different ts (facts ts ps) P u (pos 0) v ≡ different ts (facts ts ps) P i (pos 0) j = rw (blocks, others, at, from) in
          bit_at u v hu hv ∙ ap bit_value same ∙ sym bit_is

      -- demand 3: a pair whose bit is 1 differs in every assignment
      pub pair_assignments : bit ≡ 1 → (A : Placement) → Assignment ts (listed ts ps) A → Differs A i (pos 0) j
      pair_assignments e A M = different_differs ts (listed ts ps) A M (pair_different.0 e)

    -- a bit that is no pair's is 0
    pub unused_zero : (i : ℕ) → length ts * length ts ≤ i → i < 8 * pair_bytes (length ts) → bit_of (outcome ts ps qs).pairs i ≡ 0
    unfolding satisfiable
    unused_zero i h g = rw leaves (unused_bit (λ a b. different ts (facts ts ps) P a (pos 0) b) (length ts) i h g)

    -- nothing is blamed
    pub unblamed : (k : ℕ) → k < length ps → get_or (outcome ts ps qs).marks k 0 ≡ 0
    unfolding satisfiable
    unblamed k h = rw leaves (get_or-replicate (length ps) k 0 0 h)

  module _ (con : (outcome ts ps qs).verdict ≡ verdict.Contradiction) where
    contra_is : contra ≡ true
    contra_is = contradiction_verdict.0 con

    left : outcome ts ps qs ≡ contradiction ts ps qs
    left = outcome_contradiction contra_is

    -- each term is its own representative at offset 0
    pub own_representative : (t : ℕ) → t < length ts → (get_or (outcome ts ps qs).representatives t 0 ≡ t) × (get_or (outcome ts ps qs).offsets t (pos 0) ≡ pos 0)
    unfolding contradiction placed
    own_representative t h =
        let long : t < length (own 0 (length ts)) = omega (arith, length_own 0 (length ts)) in
        let o = own_at 0 (length ts) t h in
        let s : 0 + t ≡ t = omega arith in
        (rw left (rep_at (own 0 (length ts)) t long ∙ ap (λ (x : Label). x.rep) o ∙ s), rw left (off_at (own 0 (length ts)) t long ∙ ap (λ (x : Label). x.off) o))

    -- no pair bit is set, and each answer is 3
    pub pairs_zero : (i : ℕ) → bit_of (outcome ts ps qs).pairs i ≡ 0
    unfolding contradiction bit_of
    pairs_zero i = rw (left, zeros (pair_bytes (length ts)) (i / 8)) (omega (arith, shr_le 0 (i % 8)))
      where
        zeros : (n k : ℕ) → get_or {A = ℕ} (replicate n 0) k 0 ≡ 0
        zeros zero k = refl
        zeros (suc n) zero = refl
        zeros (suc n) (suc k) = zeros n k

    pub answers_contradictory : (k : ℕ) → k < length qs → get_or (outcome ts ps qs).answers k 0 ≡ number_of_answer answer.Contradictory
    unfolding contradiction
    answers_contradictory k h = rw left (get_or-replicate (length qs) k 3 0 h)

    -- the marks, with any cells beyond
    module _ (rest : List ℕ) where
      abbrev marks : List ℕ
      marks = (outcome ts ps qs).marks ++ rest

      written : marks ≡ map bit_value (blame ts ps) ++ rest
      unfolding contradiction
      written = rw left

      abbrev without : (l : List Bool) → WellFormed ts (listed ts (select l ps))
      without l = well_formed_less ts (listed ts (select l ps)) (listed ts ps) (some_of ts ps wf l) wf

      -- those marked are contradictory
      pub blamed_contradictory : Contradiction ts (listed ts (marked marks ps))
      blamed_contradictory = rw (written, marked_all (blame ts ps) rest ps (length_blame ts ps)) (blame_contradictory ts ps wf contra_is)

      module _ (k : ℕ) (h : k < length ps) where
        abbrev mark : ℕ
        mark = get_or marks k 0

        mark_is : mark ≡ bit_value (get_or (blame ts ps) k false)
        mark_is = rw written (mark_at (blame ts ps) rest k (omega (arith, length_blame ts ps)))

        is_marked : mark ≡ 1 → get_or (blame ts ps) k false ≡ true
        is_marked e = bit_true (get_or (blame ts ps) k false) (sym mark_is ∙ e)

        -- without any one of them they have an assignment, so they are minimal
        pub blamed_minimal : mark ≡ 1 → (A : Placement) × Assignment ts (listed ts (marked (set marks k 0) ps)) A
        unfolding kept_contradictory
        blamed_minimal e =
            let l = set (blame ts ps) k false in
            rw (written, marked_without (blame ts ps) rest ps k (length_blame ts ps) h)
            (_, verdict_satisfiable ts (listed ts (select l ps)) (without l) (facts ts (select l ps)) (lists ts (select l ps)) (blame_less ts ps wf k h (is_marked e)))

        tried_is : tried k marks ps ≡ select (tried_marks k (blame ts ps)) ps
        tried_is = rw (written, tried_select (blame ts ps) rest ps (length_blame ts ps) k) (sym (select_tried k (blame ts ps) ps))

        -- a proposition is not blamed exactly if all before it and the blamed ones after it are contradictory
        pub blamed_unless : (mark < 2) × (mark ≡ 0 ↔ Contradiction ts (listed ts (tried k marks ps)))
        blamed_unless =
            let l = tried_marks k (blame ts ps) in
            let c = kept_exact ts ps wf l in
            let o : mark ≡ bit_value (not (kept_contradictory ts ps l)) = mark_is ∙ ap bit_value (blame_order ts ps wf k h) in (
              rw mark_is (bit_value_below (get_or (blame ts ps) k false)),
              rw tried_is (λ e. c.0 (not_zero (kept_contradictory ts ps l) (sym o ∙ e)), λ x. o ∙ rw (c.1 x)),
            )
