-- The first item, and the first pair of items, that pass a test.
use Prim.Native.Nat.{ℕ, zero, suc}
use Rattle.std.proofs.Math.Path.{◌≡◌, refl, ap}
use Rattle.std.specs.Prelude.{Bool}
use Rattle.std.proofs.Math.Bool.{true, false}
use mathlib.Core.List.{List, [], ◌∷◌}
use Rattle.std.proofs.Math.Option.{Option, none, some}
use native.Mathlib.Omega.{arith}
use Rattle.lists.specs.Items.{Item, In, not_in_empty}

abbrev pub choose {ℓ} : {A : Type ℓ} → Bool → A → A → A
choose true a b = a
choose false a b = b

abbrev pub is_some : {A : Type 0} → Option A → Bool
is_some none = false
is_some (some a) = true

module _ {A : Type 0} where
  unfoldable pub find : (A → Bool) → List A → Option A
  find p [] = none
  find p (x ∷ l) = choose (p x) (some x) (find p l)

  pub find_some : (p : A → Bool) (l : List A) {x : A} → find p l ≡ some x → In x l × (p x ≡ true)
  unfolding find
  find_some p [] e = let z : ◌≡◌ {A = ℕ} 0 1 = cc in absurd (omega arith)
  find_some p (y ∷ l) {x} e = go (p y) refl (λ f. find_some p l f) e
    where
      later : In x l × (p x ≡ true) → In x (y ∷ l) × (p x ≡ true)
      later r = ((suc r.0.0, r.0.1), r.1)

      go : (b : Bool) → p y ≡ b → (find p l ≡ some x → In x l × (p x ≡ true)) → choose b (some y) (find p l) ≡ some x → In x (y ∷ l) × (p x ≡ true)
      go true t ih f = ((zero, f), cc)
      go false t ih f = later (ih f)

  pub find_none : (p : A → Bool) (l : List A) → find p l ≡ none → (x : A) → In x l → p x ≡ false
  unfolding find
  find_none p [] e x i = absurd (not_in_empty i)
  find_none p (y ∷ l) e x i = go (p y) refl (λ f j. find_none p l f x j) e i.0 i.1
    where
      go : (b : Bool) → p y ≡ b → (find p l ≡ none → In x l → p x ≡ false) → choose b (some y) (find p l) ≡ none → (k : ℕ) → Item (y ∷ l) k x → p x ≡ false
      go true t ih f k j = let z : ◌≡◌ {A = ℕ} 0 1 = cc in absurd (omega arith)
      go false t ih f zero j = cc
      go false t ih f (suc k) j = ih f (k, j)

  -- some item passes the test
  unfoldable pub any : (A → Bool) → List A → Bool
  any p l = is_some (find p l)

  pub any_true : (p : A → Bool) (l : List A) → any p l ≡ true → (x : A) × In x l × (p x ≡ true)
  unfolding any
  any_true p l = go (find p l) refl
    where
      go : (o : Option A) → find p l ≡ o → is_some o ≡ true → (x : A) × In x l × (p x ≡ true)
      go none e t = let z : ◌≡◌ {A = ℕ} 0 1 = cc in absurd (omega arith)
      go (some x) e t = (x, (find_some p l e).0, (find_some p l e).1)

  pub any_false : (p : A → Bool) (l : List A) → any p l ≡ false → (x : A) → In x l → p x ≡ false
  unfolding any
  any_false p l = go (find p l) refl
    where
      go : (o : Option A) → find p l ≡ o → is_some o ≡ false → (x : A) → In x l → p x ≡ false
      go none e t = find_none p l e
      go (some y) e t = let z : ◌≡◌ {A = ℕ} 0 1 = cc in absurd (omega arith)

  pub any_in : (p : A → Bool) (l : List A) (x : A) → In x l → p x ≡ true → any p l ≡ true
  any_in p l x i t = go (any p l) refl
    where
      go : (b : Bool) → any p l ≡ b → b ≡ true
      go true e = refl
      go false e = let f : p x ≡ false = any_false p l e x i in cc

abbrev with_second : {A : Type 0} → A → Option A → Option (A × A)
with_second x none = none
with_second x (some y) = some (x, y)

abbrev with_partner : {A : Type 0} → (A → A → Bool) → List A → Option A → Option (A × A)
with_partner p l none = none
with_partner p l (some x) = with_second x (find (p x) l)

module _ {A : Type 0} where
  -- the first pair of items that passes the test: the first item that has a partner, and its first partner
  unfoldable pub find_pair : (A → A → Bool) → List A → Option (A × A)
  find_pair p l = with_partner p l (find (λ x. any (p x) l) l)

  pub find_pair_some : (p : A → A → Bool) (l : List A) {x y : A} → find_pair p l ≡ some (x, y) → In x l × In y l × (p x y ≡ true)
  unfolding find_pair
  find_pair_some p l {x} {y} = go (find (λ x. any (p x) l) l) refl
    where
      second : (a : A) (o : Option A) → In a l → find (p a) l ≡ o → with_second a o ≡ some (x, y) → In x l × In y l × (p x y ≡ true)
      second a none i f e = let z : ◌≡◌ {A = ℕ} 0 1 = cc in absurd (omega arith)
      second a (some b) i f e =
          let both : ◌≡◌ {A = A × A} (a, b) (x, y) = cc in
          let first : a ≡ x = ap (λ (r : A × A). r.0) both in
          let other : b ≡ y = ap (λ (r : A × A). r.1) both in
          (rw first at i, rw other at (find_some (p a) l f).0, rw (← first, ← other) (find_some (p a) l f).1)

      go : (o : Option A) → find (λ x. any (p x) l) l ≡ o → with_partner p l o ≡ some (x, y) → In x l × In y l × (p x y ≡ true)
      go none f e = let z : ◌≡◌ {A = ℕ} 0 1 = cc in absurd (omega arith)
      go (some a) f e = second a (find (p a) l) (find_some (λ x. any (p x) l) l f).0 refl e

  pub find_pair_none : (p : A → A → Bool) (l : List A) → find_pair p l ≡ none → (x y : A) → In x l → In y l → p x y ≡ false
  unfolding find_pair any
  find_pair_none p l = go (find (λ x. any (p x) l) l) refl
    where
      second : (a : A) (o : Option A) → find (p a) l ≡ o → any (p a) l ≡ true → with_second a o ≡ none → ⊥
      second a none f t e = let z : ◌≡◌ {A = ℕ} 0 1 = cc in omega arith
      second a (some b) f t e = let z : ◌≡◌ {A = ℕ} 0 1 = cc in omega arith

      go : (o : Option A) → find (λ x. any (p x) l) l ≡ o → with_partner p l o ≡ none → (x y : A) → In x l → In y l → p x y ≡ false
      go none f e x y i j = any_false (p x) l (find_none (λ x. any (p x) l) l f x i) y j
      go (some a) f e x y i j = absurd (second a (find (p a) l) refl (find_some (λ x. any (p x) l) l f).1 e)
