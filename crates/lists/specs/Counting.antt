-- How many items of a list pass a test.
use Rattle.std.specs.Prelude.{ℕ, zero, suc, ◌+◌, ◌<◌, ◌≤◌, ◌≡◌, refl, Bool, true, false}
use mathlib.Core.List.{List, [], ◌∷◌}
use native.Mathlib.Omega.{arith}
use Rattle.lists.specs.Items.{In, not_in_empty}
use Rattle.lists.specs.Search.{choose}

one_fewer : (a b : Bool) → (b ≡ true → a ≡ true) → choose {A = ℕ} b 1 0 ≤ choose a 1 0
one_fewer true true f = omega arith
one_fewer true false f = omega arith
one_fewer false true f = let e = f refl in let z : ◌≡◌ {A = ℕ} 0 1 = cc in absurd (omega arith)
one_fewer false false f = omega arith

one_less : (a b : Bool) → a ≡ true → b ≡ false → choose {A = ℕ} b 1 0 < choose a 1 0
one_less a b e f = rw (e, f) (omega arith)

module _ {A : Type 0} where
  unfoldable pub count : (A → Bool) → List A → ℕ
  count p [] = 0
  count p (x ∷ l) = choose (p x) 1 0 + count p l

  -- a test that passes less counts no more
  pub count_fewer : (p q : A → Bool) (l : List A) → ((x : A) → q x ≡ true → p x ≡ true) → count q l ≤ count p l
  unfolding count
  count_fewer p q [] f = omega arith
  count_fewer p q (x ∷ l) f = omega (arith, one_fewer (p x) (q x) (f x), count_fewer p q l f)

  -- and fewer if it leaves out an item
  pub count_less : (p q : A → Bool) (l : List A) → ((x : A) → q x ≡ true → p x ≡ true) → (x : A) → In x l → p x ≡ true → q x ≡ false → count q l < count p l
  unfolding count
  count_less p q [] f x i e g = absurd (not_in_empty i)
  count_less p q (y ∷ l) f x (zero, j) e g =
      let s : y ≡ x = cc in
      omega (arith, one_less (p y) (q y) (rw s e) (rw s g), count_fewer p q l f)
  count_less p q (y ∷ l) f x (suc k, j) e g = omega (arith, one_fewer (p y) (q y) (f y), count_less p q l f x (k, j) e g)
