-- What the solver writes for an accepted set is the set's outcome.
use Rattle.std.specs.Prelude.{ℕ, suc, ◌+◌, ◌<◌, ◌≤◌, ◌≡◌, refl, Bool, true, false, List, [], ◌∷◌, map, ℤ, pos, length, get_or}
use Rattle.std.proofs.Math.Path.{sym}
use Rattle.std.proofs.Common.{◌∙◌, ap, arith, ext_get_or}
use Rattle.std.proofs.Math.ListN.{replicate}
use Rattle.std.proofs.lemmas.List.{length-map}
use Rattle.lists.specs.Booleans.{same_truth}
use Rattle.lists.specs.Items.{Item, item_map, get_d_item}
use Rattle.types.specs.declared.Blame.{Blame}
use Rattle.types.specs.declared.Verdict.{Verdict}
use Rattle.types.specs.Numbers.{number_of_answer}
use Rattle.rules.specs.Terms.{Term, Proposition, Comparison, listed, WellFormed}
use Rattle.rules.specs.Assignments.{Placement}
use Rattle.labels.specs.Steps.{Fresh}
use Rattle.labels.specs.Unique.{Canonical, canonical_equal}
use Rattle.labels.specs.View.{view}
use Rattle.closure.specs.Facts.{lists}
use Rattle.closure.specs.Join.{Label, unlabelled, placed, own}
use Rattle.closure.proofs.Join.{rep_at, off_at, own_at, length_own}
use Rattle.closure.specs.Closure.{closure}
use Rattle.closure.proofs.Closure.{length_closure}
use Rattle.closure.specs.Verdict.{holds}
use Rattle.closure.proofs.Verdict.{holds_true, true_holds, closure_canonical, canonical_computed}
use Rattle.closure.specs.Differences.{different}
use Rattle.closure.proofs.Different.{different_exact}
use Rattle.outcome.specs.PairBits.{pair_bits, pair_bytes}
use Rattle.outcome.specs.Outcome.{answer, satisfiable, contradiction, outcome, marks_if}
use Rattle.outcome.proofs.Lengths.{marks_of_zeros}
use Rattle.pairbits.specs.Bits.{pair_bits_same}
use Rattle.tables.specs.Limits.{most}
use Rattle.tables.specs.Rows.{Row, question_in}
use Rattle.tables.proofs.TermTable.{length_terms_from}
use Rattle.tables.proofs.PropositionTable.{length_propositions_from}
use Rattle.tables.specs.QuestionTable.{AcceptedQuestions}
use Rattle.tables.proofs.QuestionTable.{length_questions_from, question_sides}
use Rattle.tables.specs.Sets.{Set, AcceptedSet, terms_in, propositions_in}
use Rattle.unionfind.specs.Forest.{Cleared}
use Rattle.joins.specs.Labels.{spread_near}
use Rattle.consistency.specs.Deciding as deciding
use Rattle.consistency.specs.Deciding.{Decided}
use Rattle.columns.specs.Telling.{facts_in, pairs_by, answers_by, questions_in, Labelling}
use Rattle.solver.specs.Solving.{Solves}
use Rattle.blame.specs.Kept.{AllKept, is_contradictory, kept_listed, set_well_formed}
use Rattle.blame.specs.Blaming.{marks_of_blame}

module _ (S : Set) (good : AcceptedSet S) where
  abbrev ts : List Term
  ts = terms_in S

  abbrev ps : List Proposition
  ps = propositions_in S

  wf : WellFormed ts (listed ts ps)
  wf = set_well_formed S good

  count : length ts ≡ S.terms
  count = length_terms_from S.terms S.term

  -- the labels of a set that was found consistent
  pub labelling : {marks reps : List ℕ} {offs : List ℤ} {r : Bool} → S.propositions ≤ most → AllKept marks S.propositions → Decided S marks reps offs r → r ≡ true → Labelling S reps offs
  labelling few A (deciding.contradictory c) e = let z : ◌≡◌ {A = ℕ} 0 1 = cc in absurd (omega arith)
  labelling {marks} {reps} {offs} few A (deciding.consistent cr co L M) e =
      let same = kept_listed S marks A in
      record {
        accepted = good;
        few_propositions = few;
        reps_count = cr;
        offs_count = co;
        canonical = record { sound = rw same at L.state.sound; respects = (rw same at M).respects; lowest = L.state.lowest };
        assignment = rw same at M;
        near = λ t h. (spread_near good.few_terms (rw count at L.state.rooted) L.spread).near h;
      }

  -- a satisfiable set
  module _ (reps : List ℕ) (offs : List ℤ) (C : Labelling S reps offs) (no : is_contradictory S ≡ false) where
    abbrev P : Placement
    P = view reps offs

    abbrev l : List Label
    l = closure ts (facts_in S)

    long : length l ≡ S.terms
    long = length_closure ts (facts_in S) ∙ count

    computed : (t : ℕ) → t < S.terms → (P.block t ≡ (placed l).block t) × (P.position t ≡ (placed l).position t)
    computed t h = canonical_computed ts (listed ts ps) wf (facts_in S) (lists ts ps) no P C.canonical t (omega (arith, count))

    -- the labels are those of the closure
    reps_computed : reps ≡ map (λ x. x.rep) l
    reps_computed =
        ext_get_or 0 reps (map (λ x. x.rep) l) (C.reps_count ∙ sym (length-map l _ ∙ long))
        (λ t h. let b : t < S.terms = omega (arith, C.reps_count) in (computed t b).0 ∙ sym (rep_at l t (omega (arith, long))))

    offs_computed : offs ≡ map (λ x. x.off) l
    offs_computed =
        ext_get_or (pos 0) offs (map (λ x. x.off) l) (C.offs_count ∙ sym (length-map l _ ∙ long))
        (λ t h. let b : t < S.terms = omega (arith, C.offs_count) in (computed t b).1 ∙ sym (off_at l t (omega (arith, long))))

    canonical_closure : Canonical ts (listed ts ps) (placed l)
    canonical_closure = closure_canonical ts (listed ts ps) wf (facts_in S) (lists ts ps) no

    different_same : (t1 : ℕ) (z : ℤ) (t2 : ℕ) → t1 < S.terms → t2 < S.terms → different ts (facts_in S) P t1 z t2 ≡ different ts (facts_in S) (placed l) t1 z t2
    different_same t1 z t2 h1 h2 =
        let a : t1 < length ts = omega (arith, count) in
        let b : t2 < length ts = omega (arith, count) in
        let p = different_exact ts (listed ts ps) wf (facts_in S) (lists ts ps) P C.canonical {z = z} a b in
        let q = different_exact ts (listed ts ps) wf (facts_in S) (lists ts ps) (placed l) canonical_closure {z = z} a b in
        same_truth _ _ (λ e. q.1 (p.0 e)) (λ e. p.1 (q.0 e))

    pairs_computed : pairs_by S reps offs ≡ pair_bits (λ i j. different ts (facts_in S) (placed l) i (pos 0) j) (length ts)
    pairs_computed =
        rw count
        (pair_bits_same (λ i j. different ts (facts_in S) P i (pos 0) j) (λ i j. different ts (facts_in S) (placed l) i (pos 0) j) S.terms (λ i j hi hj. different_same i (pos 0) j hi hj))

    holds_same : (c : Comparison) → c.left < S.terms → c.right < S.terms → holds P c ≡ holds (placed l) c
    holds_same c h1 h2 =
        let a : c.left < length ts = omega (arith, count) in
        let b : c.right < length ts = omega (arith, count) in
        let p = canonical_equal ts (listed ts ps) P C.canonical a b in
        let q = canonical_equal ts (listed ts ps) (placed l) canonical_closure a b in
        same_truth _ _ (λ e. true_holds (placed l) c (q.0 (p.1 (holds_true P c e)))) (λ e. true_holds P c (p.0 (q.1 (holds_true (placed l) c e))))

    answer_same : (c : Comparison) → c.left < S.terms → c.right < S.terms → answer ts (facts_in S) P c ≡ answer ts (facts_in S) (placed l) c
    unfolding answer
    answer_same c h1 h2 = rw (holds_same c h1 h2, different_same c.left c.offset c.right h1 h2)

    answers_computed : (qs : List Comparison) → ((k : ℕ) (c : Comparison) → Item qs k c → (c.left < S.terms) × (c.right < S.terms)) → answers_by S reps offs qs ≡ map (λ c. number_of_answer (answer ts (facts_in S) (placed l) c)) qs
    answers_computed [] h = refl
    answers_computed (c ∷ qs) h =
        let b = h 0 c refl in
        rw (answer_same c b.0 b.1) (ap (λ m. number_of_answer (answer ts (facts_in S) (placed l) c) ∷ m) (answers_computed qs (λ k d i. h (suc k) d i)))

    outcome_satisfiable : (qs : List Comparison) → outcome ts ps qs ≡ satisfiable ts ps qs
    unfolding outcome
    outcome_satisfiable qs = rw no

    pub solves_satisfiable :
        (b : Blame) (rows : List Row) →
        AcceptedQuestions S.terms (length rows) (question_in rows) →
        {marks pairs answers : List ℕ} →
        marks ≡ replicate S.propositions 0 →
        pairs ≡ pairs_by S reps offs →
        answers ≡ answers_by S reps offs (questions_in rows) →
        Solves b S (questions_in rows) (record { representatives = reps; offsets = offs; marks = marks; pairs = pairs; answers = answers }) Verdict.Satisfiable
    unfolding satisfiable
    solves_satisfiable b rows accepted em ep ea =
        rw (outcome_satisfiable (questions_in rows))
        (record {
          verdict = refl;
          representatives = reps_computed;
          offsets = offs_computed;
          marks = em ∙ (ap (λ (k : ℕ). replicate k 0) (sym (length_propositions_from S.propositions S.proposition)) ∙ sym (marks_of_zeros b (length ps)));
          pairs = ep ∙ pairs_computed;
          answers = ea ∙ answers_computed (questions_in rows) (λ k c i. question_sides S.terms (length rows) (question_in rows) accepted k i);
        })

  -- a contradictory set
  module _ (yes : is_contradictory S ≡ true) where
    outcome_contradiction : (qs : List Comparison) → outcome ts ps qs ≡ contradiction ts ps qs
    unfolding outcome
    outcome_contradiction qs = rw yes

    own_label : (n t : ℕ) → t < n → get_or (own 0 n) t unlabelled ≡ record { rep = t; off = pos 0 }
    own_label n t h = own_at 0 n t h ∙ (let z : 0 + t ≡ t = omega arith in rw z)

    -- labels of which each term is its own representative
    own_reps : (reps : List ℕ) (offs : List ℤ) → length reps ≡ S.terms → Fresh (length reps) (view reps offs) → reps ≡ map (λ x. x.rep) (own 0 (length ts))
    own_reps reps offs n F =
        let m = length_own 0 (length ts) in
        ext_get_or 0 reps (map (λ x. x.rep) (own 0 (length ts))) (n ∙ sym (length-map (own 0 (length ts)) _ ∙ (m ∙ count)))
        (λ t h.
        let b : t < length ts = omega (arith, n, count) in
        F.block t h
        ∙ sym (item_map (λ (x : Label). x.rep) (own 0 (length ts)) t 0 (get_d_item (own 0 (length ts)) t unlabelled (omega (arith, m))) ∙ ap (λ (x : Label). x.rep) (own_label (length ts) t b)))

    own_offs : (reps : List ℕ) (offs : List ℤ) → length reps ≡ S.terms → length offs ≡ S.terms → Fresh (length reps) (view reps offs) → offs ≡ map (λ x. x.off) (own 0 (length ts))
    own_offs reps offs n k F =
        let m = length_own 0 (length ts) in
        ext_get_or (pos 0) offs (map (λ x. x.off) (own 0 (length ts))) (k ∙ sym (length-map (own 0 (length ts)) _ ∙ (m ∙ count)))
        (λ t h.
        let b : t < length ts = omega (arith, k, count) in
        F.position t (omega (arith, n, k))
        ∙ sym (item_map (λ (x : Label). x.off) (own 0 (length ts)) t (pos 0) (get_d_item (own 0 (length ts)) t unlabelled (omega (arith, m))) ∙ ap (λ (x : Label). x.off) (own_label (length ts) t b)))

    pub solves_contradiction :
        (b : Blame) (rows : List Row) →
        {reps0 reps : List ℕ} {offs0 offs : List ℤ} {marks pairs answers : List ℕ} →
        length reps0 ≡ S.terms →
        length offs0 ≡ S.terms →
        Cleared reps0 offs0 reps offs →
        marks ≡ marks_if b (marks_of_blame S) →
        pairs ≡ replicate (pair_bytes S.terms) 0 →
        answers ≡ replicate (length rows) 3 →
        Solves b S (questions_in rows) (record { representatives = reps; offsets = offs; marks = marks; pairs = pairs; answers = answers }) Verdict.Contradiction
    unfolding contradiction
    solves_contradiction b rows {reps0} {reps} {offs0} {offs} cr co K em ep ea =
        let n = K.long ∙ cr in
        let k = K.offsets_long ∙ co in
        rw (outcome_contradiction (questions_in rows))
        (record {
          verdict = refl;
          representatives = own_reps reps offs n K.own;
          offsets = own_offs reps offs n k K.own;
          marks = em;
          pairs = ep ∙ rw count;
          answers = ea ∙ rw (length_questions_from (length rows) (question_in rows));
        })
