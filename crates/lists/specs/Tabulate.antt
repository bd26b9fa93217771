-- Lists of a function's values, and the selection of a list's items by marks.
use Prim.Native.Nat.{ℕ, zero, suc, ◌+◌, ◌<◌}
use Rattle.std.proofs.Math.Path.{◌≡◌, refl, ap}
use Rattle.std.proofs.Common.{sym, ◌∙◌}
use Rattle.std.specs.Prelude.{Bool, true, false, length, get_or}
use mathlib.Core.List.{List, [], ◌∷◌}
use native.Mathlib.Omega.{arith}
use Rattle.lists.specs.Items.{Item, In, not_in_empty}
use Rattle.lists.specs.Search.{choose}

module _ {A : Type 0} where
  -- f at k, k + 1, .., n values in all
  unfoldable pub tabulate : (ℕ → A) → ℕ → ℕ → List A
  tabulate f k zero = []
  tabulate f k (suc n) = f k ∷ tabulate f (suc k) n

  pub length_tabulate : (f : ℕ → A) (k n : ℕ) → length (tabulate f k n) ≡ n
  unfolding tabulate
  length_tabulate f k zero = refl
  length_tabulate f k (suc n) = ap suc (length_tabulate f (suc k) n)

  pub tabulate_at : (f : ℕ → A) (k n i : ℕ) (d : A) → i < n → get_or (tabulate f k n) i d ≡ f (k + i)
  unfolding tabulate
  tabulate_at f k zero i d h = absurd (omega arith)
  tabulate_at f k (suc n) zero d h = let e : k + 0 ≡ k = omega arith in rw e
  tabulate_at f k (suc n) (suc i) d h = let e : k + suc i ≡ suc k + i = omega arith in rw e (tabulate_at f (suc k) n i d (omega arith))

  pub from_zero : (f : ℕ → A) (n k : ℕ) (d : A) → k < n → get_or (tabulate f 0 n) k d ≡ f k
  from_zero f n k d h = let s : 0 + k ≡ k = omega arith in rw s at (tabulate_at f 0 n k d h)

  pub tabulate_ext : (f g : ℕ → A) (k n : ℕ) → ((j : ℕ) → j < k + n → f j ≡ g j) → tabulate f k n ≡ tabulate g k n
  unfolding tabulate
  tabulate_ext f g k zero same = refl
  tabulate_ext f g k (suc n) same =
      let here = same k (omega arith) in
      let rest = tabulate_ext f g (suc k) n (λ j h. same j (omega arith)) in
      rw (here, rest)

  -- what two functions have in common by evaluation
  pub tabulate_values : (f g : ℕ → A) (n : ℕ) → tabulate f 0 n ≡ tabulate g 0 n → (k : ℕ) → k < n → f k ≡ g k
  tabulate_values f g n e k h = sym (from_zero f n k (f 0) h) ∙ ap (λ (l : List A). get_or l k (f 0)) e ∙ from_zero g n k (f 0) h

  -- the items that are marked
  unfoldable pub select : List Bool → List A → List A
  select [] l = []
  select (b ∷ bs) [] = []
  select (b ∷ bs) (x ∷ l) = choose b (x ∷ select bs l) (select bs l)

  pub in_select : (bs : List Bool) (l : List A) (k : ℕ) {x : A} → Item l k x → get_or bs k false ≡ true → In x (select bs l)
  unfolding select
  in_select [] l k i e = let z : ◌≡◌ {A = ℕ} 0 1 = cc in absurd (omega arith)
  in_select (b ∷ bs) [] k i e = absurd (not_in_empty (k, i))
  in_select (true ∷ bs) (y ∷ l) zero i e = (zero, i)
  in_select (false ∷ bs) (y ∷ l) zero i e = let z : ◌≡◌ {A = ℕ} 0 1 = cc in absurd (omega arith)
  in_select (true ∷ bs) (y ∷ l) (suc k) i e = let r = in_select bs l k i e in (suc r.0, r.1)
  in_select (false ∷ bs) (y ∷ l) (suc k) i e = in_select bs l k i e

  pub select_in : (bs : List Bool) (l : List A) {x : A} → In x (select bs l) → (k : ℕ) × Item l k x × (get_or bs k false ≡ true)
  unfolding select
  select_in [] l i = absurd (not_in_empty i)
  select_in (b ∷ bs) [] i = absurd (not_in_empty i)
  select_in (true ∷ bs) (y ∷ l) (zero, e) = (zero, e, refl)
  select_in (true ∷ bs) (y ∷ l) (suc k, e) = let r = select_in bs l (k, e) in (suc r.0, r.1, r.2)
  select_in (false ∷ bs) (y ∷ l) i = let r = select_in bs l i in (suc r.0, r.1, r.2)
