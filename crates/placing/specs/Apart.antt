-- The classes that a set gives apart, by their representatives.
use Rattle.std.specs.Prelude.{ℕ, ◌+◌, ◌<◌, ◌≤◌, ◌≡◌, refl, ◌≢◌, ◌⊎◌, true, false, List, eqb, length, get_or}
use Rattle.std.proofs.Common.{sym, ◌∙◌, ap, inl, inr, ⊎_elim, arith, eqb-true, eq-eqb}
use Rattle.lists.specs.Booleans.{false_true, or_cases, or_second}
use Rattle.lists.specs.Filled.{same_or_not}
use Rattle.tables.specs.Records.{TermRecord, PropositionRecord, variable_kind, block_disequality_kind}
use Rattle.tables.specs.Sets.{Set}
use Rattle.words.specs.Words.{in_mask, Put}
use Rattle.marking.specs.Marks.{Adds, adds_as, adds_none, adds_then, One, Both, Upto, zeros}
use Rattle.marking.specs.Rows.{Below, MaskPair, no_numbers, zeros_long}

-- the classes of block disequality k
abbrev pub BlockPair : (ℕ → PropositionRecord) → List ℕ → ℕ → ℕ → ℕ → Type 0
BlockPair rec reps k x y = ((rec k).kind ≡ block_disequality_kind) × Both (get_or reps (rec k).left 0) (get_or reps (rec k).right 0) x y

-- the classes of the variables i and j
abbrev pub VariablePair : (ℕ → TermRecord) → List ℕ → ℕ → ℕ → ℕ → ℕ → Type 0
VariablePair rec reps i j x y =
    ((rec i).kind ≡ variable_kind) × (((rec j).kind ≡ variable_kind) × ((i ≢ j) × One (get_or reps i 0) (get_or reps j 0) x y))

-- the classes that are given apart
abbrev pub ApartClasses : Set → List ℕ → ℕ → ℕ → Type 0
ApartClasses S reps x y =
    Upto S.propositions (BlockPair S.proposition reps) x y ⊎ Upto S.terms (λ i. Upto S.terms (VariablePair S.term reps i)) x y

-- class c put into a mask, and its own bit set where it was there already
pub record VariablePut (n c : ℕ) (mask put old new : List ℕ) : Type 0 where
  pub long : length put ≡ length mask
  pub kept : (v : ℕ) → in_mask mask v ≡ true → in_mask put v ≡ true
  pub holds : in_mask put c ≡ true
  pub only : (v : ℕ) → in_mask put v ≡ true → (in_mask mask v ≡ true) ⊎ (v ≡ c)
  pub marks : Adds n (λ x y. (in_mask mask c ≡ true) × One c c x y) old new

pub put_again : (n c : ℕ) (mask : List ℕ) {old new : List ℕ} → in_mask mask c ≡ true → Adds n (One c c) old new → VariablePut n c mask mask old new
put_again n c mask e A = record {
  long = refl;
  kept = λ v m. m;
  holds = e;
  only = λ v m. inl m;
  marks = adds_as n (One c c) (λ x y. (in_mask mask c ≡ true) × One c c x y) A (λ x y hx hy d. (e, d)) (λ x y hx hy d. d.1);
}

pub put_first : (n c : ℕ) {mask put : List ℕ} (l : List ℕ) → in_mask mask c ≡ false → Put mask c put → VariablePut n c mask put l l
put_first n c {mask} {put} l e P = record {
  long = P.long;
  kept = λ v m. P.bits v ∙ rw m;
  holds = P.bits c ∙ or_second (in_mask mask c) (eqb c c) (eq-eqb c c refl);
  only = λ v m. ⊎_elim inl (λ f. inr (eqb-true v c f)) (or_cases (in_mask mask v) (eqb v c) (sym (P.bits v) ∙ m));
  marks = adds_none n (λ x y. (in_mask mask c ≡ true) × One c c x y) l (λ x y d. false_true e d.0);
}

module _ (n : ℕ) (rec : ℕ → TermRecord) (reps : List ℕ) where
  -- the classes of two of the first k terms, variables, that are one
  abbrev pub OneClass : ℕ → ℕ → ℕ → Type 0
  OneClass k x y = (x ≡ y) × Upto k (λ i. Upto k (VariablePair rec reps i)) x y

  -- the classes of the variables of the first k terms are in the mask, and where two have one class its own bit is set
  pub record Gathered (k : ℕ) (mask old new : List ℕ) : Type 0 where
    pub upto : k ≤ n
    pub long : length mask ≡ 8
    pub holds : (i : ℕ) → i < k → (rec i).kind ≡ variable_kind → in_mask mask (get_or reps i 0) ≡ true
    pub only : (c : ℕ) → in_mask mask c ≡ true → (i : ℕ) × (i < k) × ((rec i).kind ≡ variable_kind) × (get_or reps i 0 ≡ c)
    pub marks : Adds n (OneClass k) old new

  pub gathered_none : {mask : List ℕ} (l : List ℕ) → mask ≡ zeros 8 → Gathered 0 mask l l
  gathered_none l e = record {
    upto = omega arith;
    long = zeros_long e;
    holds = λ i h. absurd (omega arith);
    only = λ c m. false_true (no_numbers 8 c) (rw e at m);
    marks = adds_none n (OneClass 0) l (λ x y (e, (i, h, d)). omega arith);
  }

  last_or_before : (k i : ℕ) → i < k + 1 → (i < k) ⊎ (i ≡ k)
  last_or_before k i h = ⊎_elim (λ (e : i ≡ k). inr e) (λ (m : i ≢ k). inl (omega arith)) (same_or_not i k)

  pub gathered_skip : {k : ℕ} {mask old new : List ℕ} → k < n → (rec k).kind ≢ variable_kind → Gathered k mask old new → Gathered (k + 1) mask old new
  gathered_skip {k} h m G = record {
    upto = omega arith;
    long = G.long;
    holds = λ i l v. ⊎_elim (λ b. G.holds i b v) (λ (e : i ≡ k). absurd (m (rw e at v))) (last_or_before k i l);
    only = λ c e. let r = G.only c e in (r.0, omega (arith, r.1), r.2, r.3);
    marks = adds_as n (OneClass k) (OneClass (k + 1)) G.marks
        (λ x y hx hy (e, (i, hi, (j, hj, d))). (e, (i, omega arith, (j, omega arith, d))))
        (λ x y hx hy (e, (i, hi, (j, hj, (v, (w, d))))). (e, (i, before i hi v, (j, before j hj w, (v, (w, d))))));
  }
    where
      before : (i : ℕ) → i < k + 1 → (rec i).kind ≡ variable_kind → i < k
      before i l v = ⊎_elim (λ b. b) (λ (e : i ≡ k). absurd (m (rw e at v))) (last_or_before k i l)

  pub gathered_more : {k : ℕ} {mask put old mid new : List ℕ} → k < n → (rec k).kind ≡ variable_kind → Gathered k mask old mid → VariablePut n (get_or reps k 0) mask put mid new → Gathered (k + 1) put old new
  gathered_more {k} {mask} {put} h v G P = record {
    upto = omega arith;
    long = P.long ∙ G.long;
    holds = λ i l w. ⊎_elim (λ b. P.kept (get_or reps i 0) (G.holds i b w)) (λ (e : i ≡ k). rw e P.holds) (last_or_before k i l);
    only = λ c e. ⊎_elim (λ m. let r = G.only c m in (r.0, omega (arith, r.1), r.2, r.3)) (λ (s : c ≡ get_or reps k 0). (k, omega arith, v, sym s)) (P.only c e);
    marks = adds_then n (OneClass k) (λ x y. (in_mask mask (get_or reps k 0) ≡ true) × One (get_or reps k 0) (get_or reps k 0) x y) (OneClass (k + 1)) G.marks P.marks
        (λ x y hx hy (e, (i, hi, (j, hj, (vi, (vj, (m, (p, q))))))). split x y e i j vi vj m p q (last_or_before k i hi) (last_or_before k j hj))
        (λ x y hx hy (e, (i, hi, (j, hj, d))). (e, (i, omega arith, (j, omega arith, d))))
        (λ x y hx hy (m, (p, q)). let r = G.only (get_or reps k 0) m in let l = r.1 in (p ∙ sym q, (r.0, omega arith, (k, omega arith, (r.2, (v, (λ e. omega arith, (p ∙ sym r.3, q))))))));
  }
    where
      there : (j : ℕ) → j < k → (rec j).kind ≡ variable_kind → get_or reps j 0 ≡ get_or reps k 0 → in_mask mask (get_or reps k 0) ≡ true
      there j b w s = rw s at (G.holds j b w)

      split :
          (x y : ℕ) → x ≡ y → (i j : ℕ) → (rec i).kind ≡ variable_kind → (rec j).kind ≡ variable_kind → i ≢ j → x ≡ get_or reps i 0 → y ≡ get_or reps j 0 → (i < k) ⊎ (i ≡ k) → (j < k) ⊎ (j ≡ k) →
          OneClass k x y ⊎ ((in_mask mask (get_or reps k 0) ≡ true) × One (get_or reps k 0) (get_or reps k 0) x y)
      split x y e i j vi vj m p q (inl a) (inl b) = inl (e, (i, a, (j, b, (vi, (vj, (m, (p, q)))))))
      split x y e i j vi vj m p q (inl a) (inr b) = let s : y ≡ get_or reps k 0 = q ∙ ap (λ (t : ℕ). get_or reps t 0) b in inr (there i a vi (sym p ∙ e ∙ s), (e ∙ s, s))
      split x y e i j vi vj m p q (inr a) (inl b) = let s : x ≡ get_or reps k 0 = p ∙ ap (λ (t : ℕ). get_or reps t 0) a in inr (there j b vj (sym q ∙ sym e ∙ s), (s, sym e ∙ s))
      split x y e i j vi vj m p q (inr a) (inr b) = absurd (m (a ∙ sym b))

  pub gathered_done : {k : ℕ} {mask old new : List ℕ} → n ≤ k → Gathered k mask old new → Gathered n mask old new
  gathered_done {k} h G = let e : k ≡ n = omega (arith, G.upto) in rw e at G

  pub gathered_below : {k : ℕ} {mask old new : List ℕ} → ((t : ℕ) → t < n → get_or reps t 0 < n) → Gathered k mask old new → Below n mask
  gathered_below low G = record { below = λ c m. let r = G.only c m in rw r.3 at (low r.0 (let l = r.1 in let u = G.upto in omega arith)) }

  -- the class of variable i with those of a mask but itself
  abbrev pub VariableRow : List ℕ → ℕ → ℕ → ℕ → Type 0
  VariableRow mask i x y = ((rec i).kind ≡ variable_kind) × MaskPair mask (get_or reps i 0) (get_or reps i 0) x y

  pub variables_marked : {mask old mid new : List ℕ} → Gathered n mask old mid → Adds n (Upto n (VariableRow mask)) mid new → Adds n (Upto n (λ i. Upto n (VariablePair rec reps i))) old new
  variables_marked {mask} G A =
      adds_then n (OneClass n) (Upto n (VariableRow mask)) (Upto n (λ i. Upto n (VariablePair rec reps i))) G.marks A
      (λ x y hx hy (i, hi, (j, hj, (vi, (vj, (m, (p, q)))))). ⊎_elim (λ (e : x ≡ y). inl (e, (i, hi, (j, hj, (vi, (vj, (m, (p, q)))))))) (λ (o : x ≢ y). inr (i, hi, (vi, (p, (rw q (G.holds j hj vj), λ e. o (p ∙ sym e)))))) (same_or_not x y))
      (λ x y hx hy d. d.1)
      (λ x y hx hy (i, hi, (vi, (p, (m, o)))). let r = G.only y m in (i, hi, (r.0, r.1, (vi, (r.2, ((λ e. o (sym r.3 ∙ ap (λ (t : ℕ). get_or reps t 0) (sym e))), (p, sym r.3)))))))
