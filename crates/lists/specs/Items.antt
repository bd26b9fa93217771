-- The items of a list by their numbers.
use Rattle.std.specs.Prelude.{ℕ, zero, suc, ◌<◌, ◌≡◌, refl, List, [], ◌∷◌, map, length, get_or}
use Rattle.std.proofs.Common.{ap, arith}
use Rattle.std.proofs.Math.Option.{some}
use Rattle.std.proofs.Math.ListN.{get_elem?}

-- item k of the list, counted from 0, is x
abbrev pub Item {ℓ} : {A : Type ℓ} → List A → ℕ → A → Type ℓ
Item l k x = get_elem? l k ≡ some x

-- x is an item of the list
abbrev pub In {ℓ} : {A : Type ℓ} → A → List A → Type ℓ
In x l = (k : ℕ) × Item l k x

module _ {A : Type 0} where
  pub not_in_empty : {x : A} → In x [] → ⊥
  not_in_empty (zero, e) = let z : ◌≡◌ {A = ℕ} 0 1 = cc in absurd (omega arith)
  not_in_empty (suc k, e) = let z : ◌≡◌ {A = ℕ} 0 1 = cc in absurd (omega arith)

  pub item_below : (l : List A) (k : ℕ) {x : A} → Item l k x → k < length l
  item_below [] zero e = let z : ◌≡◌ {A = ℕ} 0 1 = cc in absurd (omega arith)
  item_below [] (suc k) e = let z : ◌≡◌ {A = ℕ} 0 1 = cc in absurd (omega arith)
  item_below (y ∷ l) zero e = omega arith
  item_below (y ∷ l) (suc k) e = let h = item_below l k e in omega arith

  pub item_get_d : (l : List A) (k : ℕ) (d : A) {x : A} → Item l k x → get_or l k d ≡ x
  item_get_d [] zero d e = let z : ◌≡◌ {A = ℕ} 0 1 = cc in absurd (omega arith)
  item_get_d [] (suc k) d e = let z : ◌≡◌ {A = ℕ} 0 1 = cc in absurd (omega arith)
  item_get_d (y ∷ l) zero d e = cc
  item_get_d (y ∷ l) (suc k) d e = item_get_d l k d e

  pub get_d_item : (l : List A) (k : ℕ) (d : A) → k < length l → Item l k (get_or l k d)
  get_d_item [] k d h = absurd (omega arith)
  get_d_item (y ∷ l) zero d h = refl
  get_d_item (y ∷ l) (suc k) d h = get_d_item l k d (omega arith)

pub item_map : {A B : Type 0} (f : A → B) (l : List A) (k : ℕ) (d : B) {x : A} → Item l k x → get_or (map f l) k d ≡ f x
item_map f [] zero d e = let z : ◌≡◌ {A = ℕ} 0 1 = cc in absurd (omega arith)
item_map f [] (suc k) d e = let z : ◌≡◌ {A = ℕ} 0 1 = cc in absurd (omega arith)
item_map f (y ∷ l) zero d {x} e = let s : y ≡ x = cc in ap f s
item_map f (y ∷ l) (suc k) d e = item_map f l k d e
