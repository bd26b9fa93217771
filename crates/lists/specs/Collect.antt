-- The items that a function makes of a list's items, or of the pairs of two lists' items, in order.
use Prim.Native.Nat.{ℕ, zero, suc, ◌+◌}
use Rattle.std.proofs.Math.Path.{◌≡◌, refl}
use Rattle.std.proofs.Common.{inl, inr}
use Rattle.std.specs.Prelude.{◌⊎◌}
use Rattle.std.proofs.Math.Logic.{⊎_elim}
use mathlib.Core.List.{List, [], ◌∷◌, ◌++◌}
use Rattle.std.proofs.Math.Option.{Option, none, some}
use native.Mathlib.Omega.{arith}
use Rattle.lists.specs.Items.{Item, In, not_in_empty}

abbrev pub cons_some : {A : Type 0} → Option A → List A → List A
cons_some none l = l
cons_some (some x) l = x ∷ l

module _ {A : Type 0} where
  in_tail : {x : A} (y : A) (l : List A) → In x l → In x (y ∷ l)
  in_tail y l i = (suc i.0, i.1)

  in_cons_some : {x : A} (o : Option A) (l : List A) → In x l → In x (cons_some o l)
  in_cons_some none l i = i
  in_cons_some (some y) l i = in_tail y l i

  cons_some_cases : {x : A} (o : Option A) (l : List A) → In x (cons_some o l) → (o ≡ some x) ⊎ In x l
  cons_some_cases none l i = inr i
  cons_some_cases (some y) l (zero, e) = inl e
  cons_some_cases (some y) l (suc k, e) = inr (k, e)

  pub in_left : {x : A} (s t : List A) → In x s → In x (s ++ t)
  in_left [] t i = absurd (not_in_empty i)
  in_left (y ∷ s) t (zero, e) = (zero, e)
  in_left (y ∷ s) t (suc k, e) = in_tail y (s ++ t) (in_left s t (k, e))

  pub in_right : {x : A} (s t : List A) → In x t → In x (s ++ t)
  in_right [] t i = i
  in_right (y ∷ s) t i = in_tail y (s ++ t) (in_right s t i)

  pub in_append : {x : A} (s t : List A) → In x (s ++ t) → In x s ⊎ In x t
  in_append [] t i = inr i
  in_append (y ∷ s) t (zero, e) = inl (zero, e)
  in_append (y ∷ s) t (suc k, e) = ⊎_elim (λ i. inl (in_tail y s i)) inr (in_append s t (k, e))

module _ {A B : Type 0} where
  -- what f makes of each item and its number, the first item's being k
  unfoldable pub collect : (ℕ → A → Option B) → ℕ → List A → List B
  collect f k [] = []
  collect f k (x ∷ l) = cons_some (f k x) (collect f (suc k) l)

  pub in_collect : (f : ℕ → A → Option B) (k : ℕ) (l : List A) (i : ℕ) {x : A} {y : B} → Item l i x → f (k + i) x ≡ some y → In y (collect f k l)
  unfolding collect
  in_collect f k [] zero e h = let z : ◌≡◌ {A = ℕ} 0 1 = cc in absurd (omega arith)
  in_collect f k [] (suc i) e h = let z : ◌≡◌ {A = ℕ} 0 1 = cc in absurd (omega arith)
  in_collect f k (a ∷ l) zero {x} {y} e h =
      let here : f k a ≡ some y =
      let n : k ≡ k + 0 = omega arith in
      let s : a ≡ x = cc in
      rw (n, s) h in
      rw here (zero, refl)
  in_collect f k (a ∷ l) (suc i) {x} e h =
      let n : suc k + i ≡ k + suc i = omega arith in
      in_cons_some (f k a) (collect f (suc k) l) (in_collect f (suc k) l i e (rw n h))

  pub collect_in : (f : ℕ → A → Option B) (k : ℕ) (l : List A) {y : B} → In y (collect f k l) → (i : ℕ) × (x : A) × Item l i x × (f (k + i) x ≡ some y)
  unfolding collect
  collect_in f k [] i = absurd (not_in_empty i)
  collect_in f k (a ∷ l) {y} i =
      ⊎_elim
      (λ (h : f k a ≡ some y). let n : k + 0 ≡ k = omega arith in (0, a, refl, rw n h))
      (λ (j : In y (collect f (suc k) l)).
      let r = collect_in f (suc k) l j in
      let n : k + suc r.0 ≡ suc k + r.0 = omega arith in
      (suc r.0, r.1, r.2, rw n r.3))
      (cons_some_cases (f k a) (collect f (suc k) l) i)

module _ {A B C : Type 0} where
  -- what f makes of each pair of an item of the first list and one of the second
  unfoldable pub cross : (A → B → Option C) → List A → List B → List C
  cross f [] m = []
  cross f (x ∷ l) m = collect (λ k. f x) 0 m ++ cross f l m

  pub in_cross : (f : A → B → Option C) (l : List A) (m : List B) {x : A} {y : B} {c : C} → In x l → In y m → f x y ≡ some c → In c (cross f l m)
  unfolding cross
  in_cross f [] m i j h = absurd (not_in_empty i)
  in_cross f (a ∷ l) m {x} {y} {c} (zero, e) j h =
      let s : a ≡ x = cc in
      in_left (collect (λ k. f a) 0 m) (cross f l m) (in_collect (λ k. f a) 0 m j.0 j.1 (rw s h))
  in_cross f (a ∷ l) m (suc k, e) j h = in_right (collect (λ k. f a) 0 m) (cross f l m) (in_cross f l m (k, e) j h)

  pub cross_in : (f : A → B → Option C) (l : List A) (m : List B) {c : C} → In c (cross f l m) → (x : A) × (y : B) × In x l × In y m × (f x y ≡ some c)
  unfolding cross
  cross_in f [] m i = absurd (not_in_empty i)
  cross_in f (a ∷ l) m {c} i =
      ⊎_elim
      (λ (h : In c (collect (λ k. f a) 0 m)).
      let r = collect_in (λ k. f a) 0 m h in
      (a, r.1, (0, refl), (r.0, r.2), r.3))
      (λ (h : In c (cross f l m)). let r = cross_in f l m h in (r.0, r.1, in_tail a l r.2, r.3, r.4))
      (in_append (collect (λ k. f a) 0 m) (cross f l m) i)
