-- The places of columns that were filled from rows, and what their differences mean: the pair table and the answers are those of the set.
use Rattle.std.specs.Prelude.{ℕ, ◌+◌, ◌*◌, ◌<◌, ◌≤◌, ◌≡◌, refl, ◌≢◌, ◌⊎◌, Bool, true, false, List, eqb, ℤ, neg_ℤ, ◌+ℤ◌, ◌-ℤ◌, length}
use Rattle.std.proofs.Common.{sym, ◌∙◌, ap, inl, inr, arith, eqb-true, eq-eqb, ne_eqb}
use Rattle.std.proofs.Math.Logic.{⊎_elim}
use Rattle.std.proofs.Math.IntN.{pos}
use Rattle.std.proofs.Math.ListN.{get_or}
use Rattle.std.proofs.lemmas.List.{length-replicate}
use Rattle.std.proofs.lemmas.Bool.{eqb-false, not-true}
use Rattle.integers.specs.Linear.{linear, value, ‹◌›, #◌, ◌⊕◌, ◌⊖◌, ⊝◌}
use Rattle.lists.specs.Booleans.{same_truth, or_cases, or_first, or_second, and_true}
use Rattle.lists.specs.Filled.{same_or_not}
use Rattle.lists.specs.Items.{Item}
use Rattle.rules.specs.Terms.{Term, deref, Comparison, Given, listed}
use Rattle.rules.specs.Rules.{Apart, Different}
use Rattle.rules.specs.Assignments.{Placement}
use Rattle.rules.proofs.Soundness.{equal_holds, different_differs}
use Rattle.labels.specs.Labelling.{class_equal}
use Rattle.labels.specs.View.{view}
use Rattle.closure.specs.Facts.{Facts, lists}
use Rattle.closure.specs.Differences.{distance, different_at, different, drawn}
use Rattle.closure.proofs.Different.{at_symmetric, different_exact}
use Rattle.types.specs.declared.Answer.{Answer}
use Rattle.closure.specs.Verdict.{holds}
use Rattle.closure.proofs.Verdict.{holds_true, true_holds}
use Rattle.outcome.specs.Outcome.{answer}
use Rattle.outcome.specs.PairBits.{pair_bytes}
use Rattle.tables.specs.Limits.{square_small}
use Rattle.tables.specs.Records.{deref_kind, disequality_kind}
use Rattle.tables.proofs.TermTable.{term_from, deref_from, inner_before}
use Rattle.tables.proofs.PropositionTable.{proposition_from, disequality_from, sides_below}
use Rattle.tables.specs.Sets.{Set, terms_in, propositions_in}
use Rattle.pairbits.specs.Bits.{is_set, pair_bits_told}
use Rattle.marking.specs.Marks.{Adds, zeros}
use Rattle.points.specs.Places.{class, height, At, AtEither}
use Rattle.settling.specs.Settle.{Settled, one_class, apart_classes, moved}
use Rattle.marking.specs.Classes.{height_of_other, differ_by_classes}
use Rattle.differences.specs.Table.{Inverse, plain, Given as TableGiven, Told}
use Rattle.placing.specs.Filling.{level, Lifted, TermPlaces, ReadPlaces, SidePlaces}
use Rattle.placing.specs.Apart.{ApartClasses}
use Rattle.questions.specs.Answers.{Shows, Differ, by_classes, by_listed, by_mirrored, by_values, Judged, says_equal, says_different, says_neither}
use Rattle.questions.specs.Sides.{SideColumns}
use Rattle.columns.specs.Telling.{facts_in, Labelling, pairs_by}
use Rattle.columns.specs.Apartness.{formed, count, rep_below, apart_within, table_apart, apart_table}

kind_or_not : (a b : ℕ) → (a ≡ b) ⊎ (a ≢ b)
kind_or_not a b = same_or_not a b

module _
    (S : Set)
    (reps : List ℕ)
    (offs : List ℤ)
    (L : Labelling S reps offs)
    {heights reads read_heights leftClasses leftHeights rightClasses rightHeights apart : List ℕ}
    (H : TermPlaces S.terms offs heights)
    (R : ReadPlaces S.terms S.term reps offs S.terms reads read_heights)
    (K : SidePlaces S.terms S.proposition reps offs S.propositions leftClasses leftHeights rightClasses rightHeights)
    (A : Adds S.terms (ApartClasses S reps) (zeros 32768) apart)
  where
    abbrev n : ℕ
    n = S.terms

    abbrev m : ℕ
    m = S.propositions

    abbrev ts : List Term
    ts = terms_in S

    abbrev G : Given
    G = listed (terms_in S) (propositions_in S)

    abbrev F : Facts
    F = facts_in S

    abbrev P : Placement
    P = view reps offs

    below : (t : ℕ) → t < n → t < length ts
    below t h = omega (arith, count S reps offs L)

    exact : {t1 t2 : ℕ} {z : ℤ} → t1 < n → t2 < n → (different ts F P t1 z t2 ≡ true → Different ts G t1 z t2) × (Different ts G t1 z t2 → different ts F P t1 z t2 ≡ true)
    exact {t1} {t2} {z} h1 h2 = different_exact ts G (formed S reps offs L) F (lists ts (propositions_in S)) P L.canonical {t1 = t1} {t2 = t2} {z = z} (below t1 h1) (below t2 h2)

    reads_deref : (t : ℕ) → t < n → class reads t < n → (S.term t).kind ≡ deref_kind
    reads_deref t h c = ⊎_elim (λ e. e) (λ d. absurd (omega (arith, (R.at t h).other d))) (kind_or_not (S.term t).kind deref_kind)

    reads_below : (t : ℕ) → t < n → class reads t ≤ n
    reads_below t h =
        ⊎_elim (λ d. let i = inner_before n S.term L.accepted.terms t h d in omega (arith, (R.at t h).deref_class d, rep_below S reps offs L (S.term t).number (omega arith)))
        (λ d. omega (arith, (R.at t h).other d)) (kind_or_not (S.term t).kind deref_kind)

    -- the columns are what the pair table is made from
    pub table_given : TableGiven n m reps heights reads read_heights leftClasses leftHeights rightClasses rightHeights apart
    table_given =
        let few = L.accepted.few_terms in
        record {
          terms = record {
            column = record {
              few = few;
              classes_long = omega (arith, L.reps_count);
              heights_long = omega (arith, H.long);
              below = λ t h. omega (arith, rep_below S reps offs L t h);
              low = λ t h. (H.at t h).low;
            };
            inside = rep_below S reps offs L;
          };
          reading = record {
            few = few;
            classes_long = omega (arith, R.classes_long);
            heights_long = omega (arith, R.heights_long);
            below = reads_below;
            low = λ t h. (R.at t h).low;
          };
          sides = λ k h.
              let s = K.at k h in
              let b = sides_below n m S.proposition L.accepted.propositions k h in
              record {
                left_there = omega (arith, K.left_long, L.few_propositions);
                left_height_there = omega (arith, K.left_heights_long, L.few_propositions);
                right_there = omega (arith, K.right_long, L.few_propositions);
                right_height_there = omega (arith, K.right_heights_long, L.few_propositions);
                inside = λ _. omega (arith, s.right_class, rep_below S reps offs L (S.proposition k).right b.1);
                left_low = s.left_height.low;
                right_low = s.right_height.low;
              };
          apart_room = omega (arith, A.long, length-replicate {A = ℕ} 32768 0, square_small n few);
        }

    -- and those of the disequalities are what chains are made from
    pub side_columns : SideColumns m leftClasses leftHeights rightHeights
    side_columns = record {
      few = L.few_propositions;
      classes_long = omega (arith, K.left_long, L.few_propositions);
      left_long = omega (arith, K.left_heights_long, L.few_propositions);
      right_long = omega (arith, K.right_heights_long, L.few_propositions);
      below = λ k h.
          let few = L.accepted.few_terms in
          let b = (sides_below n m S.proposition L.accepted.propositions k h).0 in
          ⊎_elim (λ d. omega (arith, (K.at k h).left_class d, rep_below S reps offs L (S.proposition k).left b))
          (λ d. omega (arith, (K.at k h).other d)) (kind_or_not (S.proposition k).kind disequality_kind);
      left_low = λ k h. (K.at k h).left_height.low;
      right_low = λ k h. (K.at k h).right_height.low;
    }

    -- places are different: their classes are, at the distance of their heights
    abbrev D : ℕ → ℕ → ℕ → ℕ → Bool
    D a p b q = different_at P F (drawn ts F P) a b (pos p -ℤ pos q)

    -- a question's places, and those of a pair
    different_at_lem : (t1 : ℕ) (z : ℤ) (t2 : ℕ) {p q : ℕ} → Lifted p (get_or offs t1 (pos 0)) → Lifted q (z +ℤ get_or offs t2 (pos 0)) → distance P t1 z t2 ≡ pos p -ℤ pos q
    different_at_lem t1 z t2 {p} {q} l r =
        omega (linear, l.is, r.is, value (‹ pos p › ⊖ ‹ pos q ›), value (‹ get_or offs t1 (pos 0) › ⊖ (‹ z › ⊕ ‹ get_or offs t2 (pos 0) ›)), value (‹ z › ⊕ ‹ get_or offs t2 (pos 0) ›), value (‹ get_or offs t1 (pos 0) › ⊕ ‹ pos level ›), value (‹ z › ⊕ ‹ get_or offs t2 (pos 0) › ⊕ ‹ pos level ›))

    pub different_places : (t1 : ℕ) (z : ℤ) (t2 : ℕ) {p q : ℕ} → Lifted p (get_or offs t1 (pos 0)) → Lifted q (z +ℤ get_or offs t2 (pos 0)) → different ts F P t1 z t2 ≡ D (get_or reps t1 0) p (get_or reps t2 0) q
    unfolding different
    different_places t1 z t2 l r = rw (different_at_lem t1 z t2 l r)

    lifted_plain : {h : ℕ} {z : ℤ} → Lifted h z → Lifted h (pos 0 +ℤ z)
    lifted_plain {h} {z} l = record { is = omega (linear, l.is, value (‹ z › ⊕ ‹ pos level ›), value (# 0 ⊕ ‹ z ›), value (# 0 ⊕ ‹ z › ⊕ ‹ pos level ›)); low = l.low }

    pair_places : (i j : ℕ) → i < n → j < n → different ts F P i (pos 0) j ≡ D (class reps i) (height heights i) (class reps j) (height heights j)
    pair_places i j hi hj = different_places i (pos 0) j (H.at i hi) (lifted_plain (H.at j hj))

    deref_item : (t : ℕ) → t < n → (S.term t).kind ≡ deref_kind → Item ts t (deref (S.term t).offset (S.term t).number)
    deref_item t h d = deref_from n S.term L.accepted.terms t h d

    -- the addresses of two dereferences, by the places that they read
    address_places : (x y : ℕ) (hx : x < n) (hy : y < n) (dx : (S.term x).kind ≡ deref_kind) (dy : (S.term y).kind ≡ deref_kind) → distance P (S.term x).number ((S.term y).offset -ℤ (S.term x).offset) (S.term y).number ≡ pos (height read_heights x) -ℤ pos (height read_heights y)
    address_places x y hx hy dx dy =
        let u = get_or offs (S.term x).number (pos 0) in
        let v = get_or offs (S.term y).number (pos 0) in
        let z = (S.term x).offset in
        let w = (S.term y).offset in
        omega (linear, ((R.at x hx).deref_height dx).is, ((R.at y hy).deref_height dy).is, value (‹ pos (height read_heights x) › ⊖ ‹ pos (height read_heights y) ›), value (‹ z › ⊕ ‹ u › ⊕ ‹ pos level ›), value (‹ w › ⊕ ‹ v › ⊕ ‹ pos level ›), value (‹ u › ⊖ (‹ w › ⊖ ‹ z › ⊕ ‹ v ›)))

    different_addresses : (x y : ℕ) → x < n → y < n → class reads x < n → class reads y < n → Different ts G x (pos 0) y → D (class reads x) (height read_heights x) (class reads y) (height read_heights y) ≡ true
    unfolding different
    different_addresses x y hx hy cx cy d =
        let dx = reads_deref x hx cx in
        let dy = reads_deref y hy cy in
        let ix = inner_before n S.term L.accepted.terms x hx dx in
        let iy = inner_before n S.term L.accepted.terms y hy dy in
        let e = (exact {t1 = (S.term x).number} {t2 = (S.term y).number} {z = (S.term y).offset -ℤ (S.term x).offset} (omega arith) (omega arith)).1 (Different.inverse_deref (deref_item x hx dx) (deref_item y hy dy) d) in
        rw ((R.at x hx).deref_class dx, (R.at y hy).deref_class dy) (rw (address_places x y hx hy dx dy) at e)

    inverse : Inverse n reps heights reads read_heights D
    inverse = record {
      mirrored = λ {a} {p} {b} {q} e.
          let s : neg_ℤ (pos p -ℤ pos q) ≡ pos q -ℤ pos p = omega (linear, value (‹ pos p › ⊖ ‹ pos q ›), value (‹ pos q › ⊖ ‹ pos p ›), value (⊝ (‹ pos p › ⊖ ‹ pos q ›))) in
          rw s at (at_symmetric P F (drawn ts F P) a b (pos p -ℤ pos q) e);
      moved = λ {a} {p} {b} {q} {i} {j} f e.
          let s : pos i -ℤ pos j ≡ pos p -ℤ pos q = omega (linear, f, value (# p ⊖ # q), value (# i ⊖ # j)) in
          rw s e;
      drawn = λ x y hx hy cx cy e. different_addresses x y hx hy cx cy ((exact hx hy).0 (pair_places x y hx hy ∙ e));
    }

    listed_places : (k : ℕ) → k < m → class leftClasses k < n → D (class leftClasses k) (height leftHeights k) (class rightClasses k) (height rightHeights k) ≡ true
    listed_places k h c =
        let s = K.at k h in
        let b = sides_below n m S.proposition L.accepted.propositions k h in
        let d : (S.proposition k).kind ≡ disequality_kind = ⊎_elim (λ e. e) (λ o. absurd (omega (arith, s.other o))) (kind_or_not (S.proposition k).kind disequality_kind) in
        let e = (exact {z = (S.proposition k).offset} b.0 b.1).1 (Different.listed (k, disequality_from n m S.proposition L.accepted.propositions k h d)) in
        rw (s.left_class d, s.right_class) (sym (different_places (S.proposition k).left (S.proposition k).offset (S.proposition k).right s.left_height s.right_height) ∙ e)

    other_parts : (a p b q : ℕ) → height_of_other a p b q ≡ true → (a ≡ b) × (p ≢ q)
    other_parts a p b q e = let r = and_true (eqb a b) _ e in (eqb-true a b r.0, eqb-false p q (not-true _ r.1))

    parts_other : (a p b q : ℕ) → a ≡ b → p ≢ q → height_of_other a p b q ≡ true
    parts_other a p b q e d = rw (eq-eqb a b e, ne_eqb p q d)

    -- places that differ by their classes
    classes_different : (t1 : ℕ) (z : ℤ) (t2 : ℕ) {p q : ℕ} → t1 < n → t2 < n → Lifted p (get_or offs t1 (pos 0)) → Lifted q (z +ℤ get_or offs t2 (pos 0)) → differ_by_classes n apart (get_or reps t1 0) p (get_or reps t2 0) q ≡ true → Different ts G t1 z t2
    unfolding differ_by_classes
    classes_different t1 z t2 {p} {q} h1 h2 l r e =
        ⊎_elim (λ b. Different.apart z (table_apart S reps offs L 32768 A t1 t2 h1 h2 b))
        (λ o.
        let w = other_parts (get_or reps t1 0) p (get_or reps t2 0) q o in
        let d = w.1 in
        Different.other_offset z (class_equal ts G P L.canonical.sound (below t1 h1) (below t2 h2) w.0)
        (λ k. d (same_height (different_at_lem t1 z t2 l r) k)))
        (or_cases (is_set apart (get_or reps t1 0 * n + get_or reps t2 0)) (height_of_other (get_or reps t1 0) p (get_or reps t2 0) q) e)
      where
        same_height : distance P t1 z t2 ≡ pos p -ℤ pos q → z ≡ P.position t1 -ℤ P.position t2 → p ≡ q
        same_height e k = omega (linear, e, k, value (# p ⊖ # q), value (‹ get_or offs t1 (pos 0) › ⊖ (‹ z › ⊕ ‹ get_or offs t2 (pos 0) ›)), value (‹ get_or offs t1 (pos 0) › ⊖ ‹ get_or offs t2 (pos 0) ›))

    -- in an assignment different terms of one class have different heights
    heights_differ : (i j : ℕ) → i < n → j < n → Different ts G i (pos 0) j → class reps i ≡ class reps j → height heights i ≢ height heights j
    heights_differ i j hi hj d e h = different_differs ts G P L.assignment d (record { same_block = e; at_offset = at })
      where
        at : P.position i ≡ pos 0 +ℤ P.position j
        at = omega (linear, h, (H.at i hi).is, (H.at j hj).is, value (# (height heights i)), value (# (height heights j)), value (‹ get_or offs i (pos 0) › ⊕ ‹ pos level ›), value (‹ get_or offs j (pos 0) › ⊕ ‹ pos level ›), value (# 0 ⊕ ‹ get_or offs j (pos 0) ›))

    module _ {size : ℕ} {pairs : List ℕ} (T : Told n m reps heights reads read_heights leftClasses leftHeights rightClasses rightHeights apart size pairs) where
      -- a bit that is set stands for a difference
      bit_different : (i j : ℕ) → i < n → j < n → is_set pairs (i * n + j) ≡ true → Different ts G i (pos 0) j
      bit_different i j hi hj e =
          (exact hi hj).0
          (pair_places i j hi hj
          ∙ T.only D inverse
          (λ x y hx hy c. sym (pair_places x y hx hy) ∙ (exact hx hy).1 (classes_different x (pos 0) y hx hy (H.at x hx) (lifted_plain (H.at y hy)) c))
          listed_places i j hi hj e)

      -- the ways in which places are different; for two values both bits are set
      data Shown (a p b q : ℕ) : Type 0 where
        by_class : differ_by_classes n apart a p b q ≡ true → differ_by_classes n apart b q a p ≡ true → Shown a p b q
        by_side : (k : ℕ) → k < m → Shows n leftClasses leftHeights rightClasses rightHeights a p b q k → Shown a p b q
        by_other_side : (k : ℕ) → k < m → Shows n leftClasses leftHeights rightClasses rightHeights b q a p k → Shown a p b q
        by_pair : (x y : ℕ) → x < n → y < n → At reads read_heights a p b q x y → is_set pairs (x * n + y) ≡ true → is_set pairs (y * n + x) ≡ true → Shown a p b q

      shown_mirrored : {a p b q : ℕ} → Shown a p b q → Shown b q a p
      shown_mirrored (by_class e f) = by_class f e
      shown_mirrored (by_side k h s) = by_other_side k h s
      shown_mirrored (by_other_side k h s) = by_side k h s
      shown_mirrored (by_pair x y hx hy w e f) = by_pair y x hy hx (record { left = w.right; right = w.left; far = sym w.far }) f e

      by_classes_set : (i j : ℕ) → i < n → j < n → class reps i ≡ class reps j → Different ts G i (pos 0) j → is_set pairs (i * n + j) ≡ true
      unfolding differ_by_classes
      by_classes_set i j hi hj e d =
          T.classes_set i j hi hj
          (or_second (is_set apart (class reps i * n + class reps j)) (height_of_other (class reps i) (height heights i) (class reps j) (height heights j))
          (parts_other (class reps i) (height heights i) (class reps j) (height heights j) e (heights_differ i j hi hj d e)))

      apart_set : (i j : ℕ) → i < n → j < n → is_set apart (class reps i * n + class reps j) ≡ true → is_set pairs (i * n + j) ≡ true
      unfolding differ_by_classes
      apart_set i j hi hj e = T.classes_set i j hi hj (or_first (is_set apart (class reps i * n + class reps j)) (height_of_other (class reps i) (height heights i) (class reps j) (height heights j)) e)

      settled_set : (i j x y : ℕ) → i < n → j < n → Different ts G i (pos 0) j → AtEither reps heights (class reads x) (height read_heights x) (class reads y) (height read_heights y) i j → Settled (plain n reps heights reads read_heights apart) pairs x y → is_set pairs (i * n + j) ≡ true
      settled_set i j x y hi hj d (inl w) (one_class e) = by_classes_set i j hi hj (w.left ∙ e ∙ sym w.right) d
      settled_set i j x y hi hj d (inr w) (one_class e) = by_classes_set i j hi hj (w.right ∙ sym e ∙ sym w.left) d
      settled_set i j x y hi hj d (inl w) (apart_classes e) = apart_set i j hi hj (rw (w.left, w.right) e)
      settled_set i j x y hi hj d (inr w) (apart_classes e) =
          apart_set i j hi hj (apart_table S reps offs L 32768 A i j hi hj (Apart.symmetry (table_apart S reps offs L 32768 A j i hj hi (rw (w.left, w.right) e))))
      settled_set i j x y hi hj d w (moved k) = k.bits i j hi hj w

      other_shown : (a p b q : ℕ) → a ≡ b → p ≢ q → Shown a p b q
      unfolding differ_by_classes
      other_shown a p b q e d =
          by_class (or_second (is_set apart (a * n + b)) (height_of_other a p b q) (parts_other a p b q e d))
          (or_second (is_set apart (b * n + a)) (height_of_other b q a p) (parts_other b q a p (sym e) (λ s. d (sym s))))

      apart_shown : (a p b q : ℕ) → is_set apart (a * n + b) ≡ true → is_set apart (b * n + a) ≡ true → Shown a p b q
      unfolding differ_by_classes
      apart_shown a p b q e f = by_class (or_first (is_set apart (a * n + b)) (height_of_other a p b q) e) (or_first (is_set apart (b * n + a)) (height_of_other b q a p) f)

      -- two terms that are shown different have their bit set
      shown_set : (i j : ℕ) → i < n → j < n → Different ts G i (pos 0) j → Shown (class reps i) (height heights i) (class reps j) (height heights j) → is_set pairs (i * n + j) ≡ true
      shown_set i j hi hj d (by_class e f) = T.classes_set i j hi hj e
      shown_set i j hi hj d (by_side k h s) = T.listed_set k h s.listed i j hi hj (inl (record { left = sym s.left; right = sym s.right; far = let e = s.far in omega arith }))
      shown_set i j hi hj d (by_other_side k h s) = T.listed_set k h s.listed i j hi hj (inr (record { left = sym s.left; right = sym s.right; far = let e = s.far in omega arith }))
      shown_set i j hi hj d (by_pair x y hx hy w e f) =
          ⊎_elim (settled_set i j x y hi hj d (inl here)) (settled_set i j y x hi hj d (inr there))
          (T.closed x y hx hy (let l = w.left in omega (arith, rep_below S reps offs L i hi)) (let l = w.right in omega (arith, rep_below S reps offs L j hj)) e f)
        where
          here : At reps heights (class reads x) (height read_heights x) (class reads y) (height read_heights y) i j
          here = record { left = sym w.left; right = sym w.right; far = let g = w.far in omega arith }

          there : At reps heights (class reads y) (height read_heights y) (class reads x) (height read_heights x) j i
          there = record { left = here.right; right = here.left; far = sym here.far }

      -- what the rules derive is shown
      shown : {t1 t2 : ℕ} {z : ℤ} → Different ts G t1 z t2 → (p q : ℕ) → distance P t1 z t2 ≡ pos p -ℤ pos q → Shown (get_or reps t1 0) p (get_or reps t2 0) q
      shown (Different.listed {t1 = t1} {t2 = t2} {z = z} g) p q e =
          let k = g.0 in
          let r = proposition_from n m S.proposition L.accepted.propositions k g.1 in
          let s = K.at k r.0 in
          let lc : class leftClasses k ≡ get_or reps t1 0 = s.left_class r.1.kind ∙ ap (λ (t : ℕ). get_or reps t 0) r.1.left in
          let l : pos (height leftHeights k) ≡ get_or offs t1 (pos 0) +ℤ pos level = rw r.1.left at s.left_height.is in
          let h : pos (height rightHeights k) ≡ z +ℤ get_or offs t2 (pos 0) +ℤ pos level = rw (r.1.right, r.1.offset) at s.right_height.is in
          by_side k r.0
          (record {
            listed = omega (arith, lc, rep_below S reps offs L t1 (omega (arith, ((formed S reps offs L).unequal_listed g).0, count S reps offs L)));
            left = lc;
            right = s.right_class ∙ ap (λ (t : ℕ). get_or reps t 0) r.1.right;
            far = omega (linear, l, h, e, value (# p ⊖ # q), value (# (height leftHeights k)), value (# (height rightHeights k)), value (‹ get_or offs t1 (pos 0) › ⊕ ‹ pos level ›), value (‹ z › ⊕ ‹ get_or offs t2 (pos 0) › ⊕ ‹ pos level ›), value (‹ get_or offs t1 (pos 0) › ⊖ (‹ z › ⊕ ‹ get_or offs t2 (pos 0) ›)));
          })
      shown (Different.moved {t1 = t1} {t2 = t2} {u = u} {v = v} {z = z} {a = a} {b = b} d e1 e2) p q e =
          let h1 = equal_holds ts G P L.canonical.respects e1 in
          let h2 = equal_holds ts G P L.canonical.respects e2 in
          let at : distance P t1 z t2 ≡ pos p -ℤ pos q =
          omega (linear, e, h1.at_offset, h2.at_offset, value (‹ a › ⊕ ‹ P.position t1 ›), value (‹ b › ⊕ ‹ P.position t2 ›), value (‹ P.position u › ⊖ (‹ z › ⊕ ‹ a › ⊖ ‹ b › ⊕ ‹ P.position v ›)), value (‹ P.position t1 › ⊖ (‹ z › ⊕ ‹ P.position t2 ›))) in
          rw (h1.same_block, h2.same_block) (shown d p q at)
      shown (Different.symmetry {t1 = t1} {t2 = t2} {z = z} d) p q e =
          shown_mirrored
          (shown d q p
          (omega (linear, e, value (# p ⊖ # q), value (# q ⊖ # p), value (‹ P.position t2 › ⊖ (⊝ ‹ z › ⊕ ‹ P.position t1 ›)), value (‹ P.position t1 › ⊖ (‹ z › ⊕ ‹ P.position t2 ›)))))
      shown (Different.inverse_deref {t1 = t1} {t2 = t2} {d1 = d1} {d2 = d2} {z1 = z1} {z2 = z2} i j d) p q e =
          let r1 = term_from n S.term L.accepted.terms d1 i in
          let r2 = term_from n S.term L.accepted.terms d2 j in
          let h1 = r1.0 in
          let h2 = r2.0 in
          let v = shown d (height heights d1) (height heights d2) (different_at_lem d1 (pos 0) d2 (H.at d1 h1) (lifted_plain (H.at d2 h2))) in
          let a : distance P t1 (z2 -ℤ z1) t2 ≡ pos (height read_heights d1) -ℤ pos (height read_heights d2) = rw (r1.1.number, r2.1.number, r1.1.offset, r2.1.offset) at (address_places d1 d2 h1 h2 r1.1.kind r2.1.kind) in
          by_pair d1 d2 h1 h2
          (record {
            left = (R.at d1 h1).deref_class r1.1.kind ∙ ap (λ (t : ℕ). get_or reps t 0) r1.1.number;
            right = (R.at d2 h2).deref_class r2.1.kind ∙ ap (λ (t : ℕ). get_or reps t 0) r2.1.number;
            far = omega (linear, e, a, value (# p ⊖ # q), value (# (height read_heights d1) ⊖ # (height read_heights d2)));
          })
          (shown_set d1 d2 h1 h2 d v)
          (shown_set d2 d1 h2 h1 (Different.symmetry d) (shown_mirrored v))
      shown (Different.other_offset {t1 = t1} {t2 = t2} {z = z} y f o) p q e =
          let h = equal_holds ts G P L.canonical.respects f in
          let b = h.same_block in
          let apart-heights : p ≢ q = λ s. o (omega (linear, s, e, h.at_offset, value (# p ⊖ # q), value (‹ P.position t1 › ⊖ (‹ y › ⊕ ‹ P.position t2 ›)), value (‹ z › ⊕ ‹ P.position t2 ›))) in
          other_shown (get_or reps t1 0) p (get_or reps t2 0) q b apart-heights
      shown (Different.apart {t1 = t1} {t2 = t2} z a) p q e =
          let w = apart_within S reps offs L a in
          apart_shown (get_or reps t1 0) p (get_or reps t2 0) q (apart_table S reps offs L 32768 A t1 t2 w.0 w.1 a) (apart_table S reps offs L 32768 A t2 t1 w.1 w.0 (Apart.symmetry a))

      -- a bit is set exactly where its terms are different
      bit_exact : (i j : ℕ) → i < n → j < n → is_set pairs (i * n + j) ≡ different ts F P i (pos 0) j
      bit_exact i j hi hj =
          same_truth (is_set pairs (i * n + j)) (different ts F P i (pos 0) j)
          (λ e. (exact hi hj).1 (bit_different i j hi hj e))
          (λ e.
          let d = (exact hi hj).0 e in
          shown_set i j hi hj d (shown d (height heights i) (height heights j) (different_at_lem i (pos 0) j (H.at i hi) (lifted_plain (H.at j hj)))))

      pub pairs_told : size ≡ pair_bytes n → pairs ≡ pairs_by S reps offs
      pairs_told e =
          pair_bits_told (λ i j. different ts F P i (pos 0) j) n pairs T.bytes (T.long ∙ e)
          (record { pair = bit_exact; unused = λ k h l. none k h (is_set pairs k) refl })
        where
          none : (k : ℕ) → n * n ≤ k → (t : Bool) → is_set pairs k ≡ t → t ≡ false
          none k h true s = absurd (T.unused k h s)
          none k h false s = refl

      -- the places of a question
      module _ (c : Comparison) {p q : ℕ} (hl : c.left < n) (hr : c.right < n) (lp : Lifted p (get_or offs c.left (pos 0))) (lq : Lifted q (c.offset +ℤ get_or offs c.right (pos 0))) where
        abbrev a : ℕ
        a = get_or reps c.left 0

        abbrev b : ℕ
        b = get_or reps c.right 0

        abbrev Differs : Type 0
        Differs = Differ n m reads read_heights leftClasses leftHeights rightClasses rightHeights apart pairs a p b q

        abbrev d : Bool
        d = different ts F P c.left c.offset c.right

        differ_different : Differs → d ≡ true
        differ_different (by_classes e) = (exact hl hr).1 (classes_different c.left c.offset c.right hl hr lp lq e)
        differ_different (by_listed k h s) =
            let f : p + height rightHeights k ≡ q + height leftHeights k = let e = s.far in omega arith in
            different_places c.left c.offset c.right lp lq ∙ inverse.moved f (rw (s.left, s.right) at (listed_places k h s.listed))
        differ_different (by_mirrored k h s) =
            let f : q + height rightHeights k ≡ p + height leftHeights k = let e = s.far in omega arith in
            different_places c.left c.offset c.right lp lq ∙ inverse.mirrored {p = q} {q = p} (inverse.moved f (rw (s.left, s.right) at (listed_places k h s.listed)))
        differ_different (by_values x y hx hy w e) =
            let ra = rep_below S reps offs L c.left hl in
            let rb = rep_below S reps offs L c.right hr in
            let f : p + height read_heights y ≡ q + height read_heights x = let g = w.far in omega arith in
            different_places c.left c.offset c.right lp lq
            ∙ inverse.moved f (rw (w.left, w.right) at (different_addresses x y hx hy (omega (arith, w.left)) (omega (arith, w.right)) (bit_different x y hx hy e)))

        shown_differ : Shown a p b q → Differs
        shown_differ (by_class e f) = by_classes e
        shown_differ (by_side k h s) = by_listed k h s
        shown_differ (by_other_side k h s) = by_mirrored k h s
        shown_differ (by_pair x y hx hy w e f) = by_values x y hx hy w e

        different_differ : d ≡ true → Differs
        different_differ e = shown_differ (shown ((exact hl hr).0 e) p q (different_at_lem c.left c.offset c.right lp lq))

        same_holds : (a ≡ b) × (p ≡ q) → holds P c ≡ true
        same_holds s =
            true_holds P c
            (record {
              same_block = s.0;
              at_offset = omega (linear, s.1, lp.is, lq.is, value (# p), value (# q), value (‹ get_or offs c.left (pos 0) › ⊕ ‹ pos level ›), value (‹ c.offset › ⊕ ‹ get_or offs c.right (pos 0) › ⊕ ‹ pos level ›), value (‹ c.offset › ⊕ ‹ get_or offs c.right (pos 0) ›));
            })

        holds_same : holds P c ≡ true → (a ≡ b) × (p ≡ q)
        holds_same e =
            let h = holds_true P c e in
            (h.same_block, omega (linear, h.at_offset, lp.is, lq.is, value (# p), value (# q), value (‹ get_or offs c.left (pos 0) › ⊕ ‹ pos level ›), value (‹ c.offset › ⊕ ‹ get_or offs c.right (pos 0) › ⊕ ‹ pos level ›), value (‹ c.offset › ⊕ ‹ get_or offs c.right (pos 0) ›)))

        not_held : ((a ≡ b) × (p ≡ q) → ⊥) → holds P c ≡ false
        not_held o = go (holds P c) refl
          where
            go : (t : Bool) → holds P c ≡ t → t ≡ false
            go true e = absurd (o (holds_same e))
            go false e = refl

        not_differ : (Differs → ⊥) → d ≡ false
        not_differ o = go d refl
          where
            go : (t : Bool) → d ≡ t → t ≡ false
            go true e = absurd (o (different_differ e))
            go false e = refl

        -- an answer by the places is the answer of the set
        pub answer_told : (r : Answer) → Judged n m reads read_heights leftClasses leftHeights rightClasses rightHeights apart pairs a p b q r → r ≡ answer ts F P c
        unfolding answer
        answer_told r (says_equal e s) = rw (e, same_holds s)
        answer_told r (says_different e o w) = rw (e, not_held o, differ_different w)
        answer_told r (says_neither e o w) = rw (e, not_held o, not_differ w)
