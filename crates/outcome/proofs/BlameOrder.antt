-- Blame in its order: a proposition is dropped exactly if all before it and the kept ones after it are contradictory.
use Prim.Native.Nat.{ℕ, zero, suc, ◌<◌, ◌≤◌}
use Rattle.std.specs.Prelude.{◌≡◌, ◌≢◌, not, ltb, length, get_or, set, drop, replicate}
use Rattle.std.proofs.Math.Path.{refl, sym, ap}
use Rattle.std.proofs.Common.{◌∙◌, arith, get_or-set_other, ltb-true, ltb-false}
use Rattle.std.proofs.Math.Logic.{⊎_elim}
use Rattle.std.proofs.Math.Bool.{Bool, true, false}
use mathlib.Core.List.{List, [], ◌∷◌, ◌++◌}
use Rattle.std.proofs.Math.ListN.{take, get_or-replicate}
use Rattle.lists.specs.Tabulate.{select}
use Rattle.rules.specs.Terms.{Term, Proposition, listed, WellFormed}
use Rattle.labels.specs.Relabel.{same_or_not}
use Rattle.outcome.specs.Blame.{kept_contradictory, drop_below, blame}
use Rattle.outcome.proofs.BlameMinimal.{unmarked, kept_more, dropped}

-- the marks of those that are kept when number k is tried, without it
unfoldable pub tried_marks : ℕ → List Bool → List Bool
tried_marks zero l = false ∷ drop 1 l
tried_marks (suc k) l = true ∷ tried_marks k (drop 1 l)

next_cell : (l : List Bool) (i : ℕ) → get_or (drop 1 l) i false ≡ get_or l (suc i) false
next_cell [] i = refl
next_cell (b ∷ l) i = refl

tried_before : (k : ℕ) (l : List Bool) (i : ℕ) → i < k → get_or (tried_marks k l) i false ≡ true
unfolding tried_marks
tried_before zero l i h = absurd (omega arith)
tried_before (suc k) l zero h = refl
tried_before (suc k) l (suc i) h = tried_before k (drop 1 l) i (omega arith)

tried_itself : (k : ℕ) (l : List Bool) → get_or (tried_marks k l) k false ≡ false
unfolding tried_marks
tried_itself zero l = refl
tried_itself (suc k) l = tried_itself k (drop 1 l)

tried_after : (k : ℕ) (l : List Bool) (i : ℕ) → k < i → get_or (tried_marks k l) i false ≡ get_or l i false
unfolding tried_marks
tried_after k l zero h = absurd (omega arith)
tried_after zero l (suc i) h = next_cell l i
tried_after (suc k) l (suc i) h = tried_after k (drop 1 l) i (omega arith) ∙ next_cell l i

drop_next : (k : ℕ) (l : List Bool) → drop k (drop 1 l) ≡ drop (suc k) l
drop_next zero [] = refl
drop_next (suc k) [] = refl
drop_next k (x ∷ l) = refl

module _ {A : Type 0} where
  select_nothing : (bs : List Bool) → select {A = A} bs [] ≡ []
  unfolding select
  select_nothing [] = refl
  select_nothing (b ∷ bs) = refl

  pub select_tried : (k : ℕ) (bs : List Bool) (l : List A) → select (tried_marks k bs) l ≡ take k l ++ select (drop (suc k) bs) (drop (suc k) l)
  unfolding tried_marks select
  select_tried zero bs [] = sym (select_nothing (drop 1 bs))
  select_tried zero bs (x ∷ l) = refl
  select_tried (suc k) bs [] = sym (select_nothing (drop (suc (suc k)) bs))
  select_tried (suc k) bs (x ∷ l) = ap (λ r. x ∷ r) (select_tried k (drop 1 bs) l ∙ ap (λ c. take k l ++ select c (drop (suc k) l)) (drop_next (suc k) bs))

module _ (ts : List Term) (ps : List Proposition) (wf : WellFormed ts (listed ts ps)) where
  -- only the marks of a list count
  kept_same : (a b : List Bool) → ((i : ℕ) → get_or a i false ≡ get_or b i false) → kept_contradictory ts ps a ≡ kept_contradictory ts ps b
  kept_same a b same = go (kept_contradictory ts ps a) refl (kept_contradictory ts ps b) refl
    where
      go : (x : Bool) → kept_contradictory ts ps a ≡ x → (y : Bool) → kept_contradictory ts ps b ≡ y → x ≡ y
      go true e true f = refl
      go false e false f = refl
      go true e false f = sym (kept_more ts ps wf a b (λ i m. sym (same i) ∙ m) e) ∙ f
      go false e true f = sym e ∙ kept_more ts ps wf b a (λ i m. same i ∙ m) f

  -- numbers that are not tried any more keep their marks
  drop_above : (k : ℕ) (kept : List Bool) (i : ℕ) → k ≤ i → get_or (drop_below ts ps k kept) i false ≡ get_or kept i false
  unfolding drop_below
  drop_above zero kept i h = refl
  drop_above (suc k) kept i h = drop_above k (dropped ts ps wf k kept t) i (omega arith) ∙ go t
    where
      t : Bool
      t = kept_contradictory ts ps (set kept k false)

      go : (b : Bool) → get_or (dropped ts ps wf k kept b) i false ≡ get_or kept i false
      go true = get_or-set_other kept k i false false (omega arith)
      go false = refl

  -- the marks with which number k was tried, from the marks that are left in the end
  as_tried : (k : ℕ) (kept last : List Bool) → ((i : ℕ) → i < k → get_or kept i false ≡ true) → ((i : ℕ) → k < i → get_or last i false ≡ get_or kept i false) → (i : ℕ) → get_or (tried_marks k last) i false ≡ get_or (set kept k false) i false
  as_tried k kept last before after i = ⊎_elim (λ (s : i ≡ k). rw s (tried_itself k last ∙ sym (unmarked kept k))) (λ (n : i ≢ k). go n (ltb i k) refl) (same_or_not i k)
    where
      go : i ≢ k → (b : Bool) → ltb i k ≡ b → get_or (tried_marks k last) i false ≡ get_or (set kept k false) i false
      go n true e = let h = ltb-true i k e in tried_before k last i h ∙ sym (get_or-set_other kept k i false false n ∙ before i h)
      go n false e =
          let h : k < i = let g = ltb-false i k e in omega arith in
          tried_after k last i h ∙ after i h ∙ sym (get_or-set_other kept k i false false n)

  drop_order : (k : ℕ) (kept : List Bool) → ((i : ℕ) → i < k → get_or kept i false ≡ true) → (j : ℕ) → j < k → get_or (drop_below ts ps k kept) j false ≡ not (kept_contradictory ts ps (tried_marks j (drop_below ts ps k kept)))
  unfolding drop_below
  drop_order zero kept all j h = absurd (omega arith)
  drop_order (suc k) kept all j h = ⊎_elim (λ (s : j ≡ k). rw s here) (λ (n : j ≢ k). drop_order k (next t) (still t) j (omega arith)) (same_or_not j k)
    where
      t : Bool
      t = kept_contradictory ts ps (set kept k false)

      next : Bool → List Bool
      next b = dropped ts ps wf k kept b

      still : (b : Bool) (i : ℕ) → i < k → get_or (next b) i false ≡ true
      still true i g = get_or-set_other kept k i false false (omega arith) ∙ all i (omega arith)
      still false i g = all i (omega arith)

      own : (b : Bool) → get_or (next b) k false ≡ not b
      own true = unmarked kept k
      own false = all k (omega arith)

      last : List Bool
      last = drop_below ts ps k (next t)

      later : (b : Bool) (i : ℕ) → k < i → get_or (next b) i false ≡ get_or kept i false
      later true i g = get_or-set_other kept k i false false (omega arith)
      later false i g = refl

      was : kept_contradictory ts ps (tried_marks k last) ≡ t
      was = kept_same (tried_marks k last) (set kept k false) (as_tried k kept last (λ i g. all i (omega arith)) (λ i g. drop_above k (next t) i (omega arith) ∙ later t i g))

      here : get_or last k false ≡ not (kept_contradictory ts ps (tried_marks k last))
      here = drop_above k (next t) k (omega arith) ∙ own t ∙ ap not (sym was)

  pub blame_order : (k : ℕ) → k < length ps → get_or (blame ts ps) k false ≡ not (kept_contradictory ts ps (tried_marks k (blame ts ps)))
  unfolding blame
  blame_order k h = drop_order (length ps) (replicate (length ps) true) (λ i g. get_or-replicate (length ps) i true false g) k h
