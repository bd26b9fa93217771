-- A run of a list's cells that are all written with one value.
use Rattle.std.specs.Prelude.{ℕ, suc, ◌+◌, ◌-◌, ◌<◌, ◌≤◌, ◌≡◌, refl, Bool, true, false, List, ◌++◌, ltb, get_or, take, drop, set, replicate}
use Rattle.std.proofs.Common.{sym, ◌∙◌, length-set, ext_get_or, get_or-append-add, get_or-drop, get_or-set_same, get_or-set_other, ltb-true, ltb-false}
use native.Mathlib.Omega.{arith}
use Rattle.std.proofs.Math.ListN.{length, length-append, length-drop, length-replicate, get_or-append}
use Rattle.std.proofs.lemmas.List.{get_or-replicate}
use Rattle.std.proofs.Math.Seq.{length-take-le, drop-drop, get_or-take}

-- the cells with the numbers from..to hold v, `to` itself not among them; the others are as they were
unfoldable pub set_run : {A : Type 0} → List A → ℕ → ℕ → A → List A
set_run l from to v = take from l ++ (replicate (to - from) v ++ drop to l)

module _ {A : Type 0} (l : List A) (from to : ℕ) (v : A) (ordered : from ≤ to) (within : to ≤ length l) where
  abbrev rest : List A
  rest = replicate (to - from) v ++ drop to l

  pub length_run : length (set_run l from to v) ≡ length l
  unfolding set_run
  length_run =
      length-append (take from l) rest
      ∙ omega (arith, length-take-le from l (omega arith), length-append (replicate (to - from) v) (drop to l), length-replicate (to - from) v, length-drop to l)

  pub run_below : (k : ℕ) (d : A) → k < from → get_or (set_run l from to v) k d ≡ get_or l k d
  unfolding set_run
  run_below k d h = get_or-append (take from l) rest d k (omega (arith, length-take-le from l (omega arith))) ∙ get_or-take from l k d h

  past : (k : ℕ) (d : A) → from ≤ k → get_or (set_run l from to v) k d ≡ get_or rest (k - from) d
  unfolding set_run
  past k d h =
      let e : length (take from l) + (k - from) ≡ k = omega (arith, length-take-le from l (omega arith)) in
      rw e at (get_or-append-add (take from l) rest (k - from) d)

  pub run_inside : (k : ℕ) (d : A) → from ≤ k → k < to → get_or (set_run l from to v) k d ≡ v
  run_inside k d h g =
      past k d h
      ∙ (get_or-append (replicate (to - from) v) (drop to l) d (k - from) (omega (arith, length-replicate (to - from) v))
      ∙ get_or-replicate (to - from) (k - from) v d (omega arith))

  pub run_above : (k : ℕ) (d : A) → to ≤ k → get_or (set_run l from to v) k d ≡ get_or l k d
  run_above k d h =
      let e : length (replicate (to - from) v) + (k - to) ≡ k - from = omega (arith, length-replicate (to - from) v) in
      let s : to + (k - to) ≡ k = omega arith in
      past k d (omega arith)
      ∙ (rw e at (get_or-append-add (replicate (to - from) v) (drop to l) (k - to) d)
      ∙ rw s at (get_or-drop to l (k - to) d))

  -- the cells of the run lent as a part, and written
  pub run_lent :
      {part : List A} →
      part ≡ replicate (length (take (to - from) (drop from l))) v →
      take from l ++ (part ++ drop (to - from) (drop from l)) ≡ set_run l from to v
  unfolding set_run
  run_lent e =
      let n : length (take (to - from) (drop from l)) ≡ to - from = length-take-le (to - from) (drop from l) (omega (arith, length-drop from l)) in
      let s : from + (to - from) ≡ to = omega arith in
      rw (e, n, drop-drop (to - from) from l, s)

  -- a list with these cells is that one
  pub run_is :
      (d : A) (r : List A) →
      length r ≡ length l →
      ((k : ℕ) → k < from → get_or r k d ≡ get_or l k d) →
      ((k : ℕ) → from ≤ k → k < to → get_or r k d ≡ v) →
      ((k : ℕ) → to ≤ k → k < length l → get_or r k d ≡ get_or l k d) →
      r ≡ set_run l from to v
  run_is d r long below inside above = ext_get_or d r (set_run l from to v) (long ∙ sym length_run) (λ k h. go k (omega arith) (ltb k from) refl (ltb k to) refl)
    where
      go : (k : ℕ) → k < length l → (a : Bool) → ltb k from ≡ a → (b : Bool) → ltb k to ≡ b → get_or r k d ≡ get_or (set_run l from to v) k d
      go k t true e b f = let h = ltb-true k from e in below k h ∙ sym (run_below k d h)
      go k t false e true f = let h = ltb-false k from e in let g = ltb-true k to f in inside k (omega arith) g ∙ sym (run_inside k d (omega arith) g)
      go k t false e false f = let g = ltb-false k to f in above k (omega arith) t ∙ sym (run_above k d (omega arith))

module _ {A : Type 0} (d : A) (l : List A) (v : A) where
  -- an empty run
  pub run_none : (k : ℕ) → k ≤ length l → l ≡ set_run l k k v
  run_none k h = run_is l k k v (omega arith) h d l refl (λ j g. refl) (λ j g b. absurd (omega arith)) (λ j g b. refl)

  -- a run of one cell
  pub run_one : (k : ℕ) → k < length l → set l k v ≡ set_run l k (suc k) v
  run_one k h =
      run_is l k (suc k) v (omega arith) h d (set l k v) (length-set l k v)
      (λ j g. get_or-set_other l k j v d (omega arith))
      (λ j g b. let e : j ≡ k = omega arith in rw e (get_or-set_same l k v d h))
      (λ j g b. get_or-set_other l k j v d (omega arith))

  -- a run, and the run before it
  pub run_both : (from mid to : ℕ) → from ≤ mid → mid ≤ to → to ≤ length l → set_run (set_run l mid to v) from mid v ≡ set_run l from to v
  run_both from mid to f m t =
      let u = set_run l mid to v in
      let n = length_run l mid to v m t in
      let w : mid ≤ length u = omega arith in
      run_is l from to v (omega arith) t d (set_run u from mid v) (length_run u from mid v f w ∙ n)
      (λ k h. run_below u from mid v f w k d h ∙ run_below l mid to v m t k d (omega arith))
      (λ k h g. go k h g (ltb k mid) refl)
      (λ k h g. run_above u from mid v f w k d (omega arith) ∙ run_above l mid to v m t k d h)
    where
      go : (k : ℕ) → from ≤ k → k < to → (b : Bool) → ltb k mid ≡ b → get_or (set_run (set_run l mid to v) from mid v) k d ≡ v
      go k h g true e = run_inside (set_run l mid to v) from mid v f (omega (arith, length_run l mid to v m t)) k d h (ltb-true k mid e)
      go k h g false e =
          let b = ltb-false k mid e in
          run_above (set_run l mid to v) from mid v f (omega (arith, length_run l mid to v m t)) k d (omega arith) ∙ run_inside l mid to v m t k d (omega arith) g

  -- a run that is written again with what it held
  pub run_back :
      (u : A) (from to : ℕ) →
      from ≤ to →
      to ≤ length l →
      ((k : ℕ) → from ≤ k → k < to → get_or l k d ≡ u) →
      set_run (set_run l from to v) from to u ≡ l
  run_back u from to o w held =
      let n = length_run l from to v o w in
      sym
      (run_is (set_run l from to v) from to u o (omega arith) d l (sym n)
      (λ k h. sym (run_below l from to v o w k d h))
      held
      (λ k h g. sym (run_above l from to v o w k d h)))
