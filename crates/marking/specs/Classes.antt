-- Terms that differ by their classes, and the sides of disequalities.
use Rattle.std.specs.Prelude.{◌≡◌, ℕ, ◌+◌, ◌-◌, ◌*◌, ◌<◌, ◌≤◌, Bool, true, false, not, ◌&&◌, ◌||◌, ◌≢◌, List, length, ◌==◌}
use Rattle.std.proofs.Common.{sym, ◌∙◌, inl, inr, ⊎_elim, arith, eqb-true, eq-eqb, ne_eqb}
use Rattle.std.proofs.lemmas.Bool.{eqb-false, not-true}
use Rattle.lists.specs.Booleans.{and_true}
use Rattle.buckets.specs.Buckets.{less_or_not}
use Rattle.pairbits.specs.Bits.{is_set}
use Rattle.words.specs.Words.{is_bit_one, one_past, Spells}
use Rattle.points.specs.Places.{class, height, AtEither, top}

-- one class, at another height
abbrev pub height_of_other : ℕ → ℕ → ℕ → ℕ → Bool
height_of_other a p b q = a == b && not (p == q)

pub other_parts : (a p b q : ℕ) → height_of_other a p b q ≡ true → (a ≡ b) × (p ≢ q)
other_parts a p b q e =
    let r = and_true (a == b) _ e in
    (eqb-true a b r.0, eqb-false p q (not-true _ r.1))

pub parts_other : (a p b q : ℕ) → a ≡ b → p ≢ q → height_of_other a p b q ≡ true
parts_other a p b q e m = rw (eq-eqb a b e, ne_eqb p q m)

-- places differ by their classes: apart, by the table of apart classes, or one class at another height
unfoldable pub differ_by_classes : ℕ → List ℕ → ℕ → ℕ → ℕ → ℕ → Bool
differ_by_classes n apart a p b q = is_set apart (a * n + b) || height_of_other a p b q

-- two terms by their classes
abbrev pub places_differ : ℕ → List ℕ → List ℕ → List ℕ → ℕ → ℕ → Bool
places_differ n apart classes heights i j = differ_by_classes n apart (class classes i) (height heights i) (class classes j) (height heights j)

-- two homes by their classes; the class of what is no home is n
abbrev pub PointsDiffer : ℕ → List ℕ → List ℕ → List ℕ → ℕ → ℕ → Type 0
PointsDiffer n apart points heights i j = (class points i < n) × ((class points j < n) × (places_differ n apart points heights i j ≡ true))

-- no class is apart from a
pub record NoneApart (n : ℕ) (apart : List ℕ) (a : ℕ) : Type 0 where
  pub none : (b : ℕ) → b < n → is_set apart (a * n + b) ≡ false

-- the bits of k words from bit `start` on are 0
pub record ZeroWords (start k : ℕ) (l : List ℕ) : Type 0 where
  pub zero : (b : ℕ) → b < 64 * k → is_set l (start + b) ≡ false

pub zero_start : (start : ℕ) (l : List ℕ) → ZeroWords start 0 l
zero_start start l = record { zero = λ b h. absurd (omega arith) }

pub zero_more : {start k x : ℕ} {l : List ℕ} → Spells l (start + 64 * k) 64 x → x ≡ 0 → ZeroWords start k l → ZeroWords start (k + 1) l
zero_more {start} {k} {x} {l} W e Z = record { zero = λ b h. ⊎_elim (λ (g : b < 64 * k). Z.zero b g) (λ (g : 64 * k ≤ b). here b g h) (less_or_not b (64 * k)) }
  where
    here : (b : ℕ) → 64 * k ≤ b → b < 64 * (k + 1) → is_set l (start + b) ≡ false
    here b g h =
        let s : start + 64 * k + (b - 64 * k) ≡ start + b = omega arith in
        let z : is_bit_one x (b - 64 * k) ≡ false = rw e (one_past 0 0 (b - 64 * k) (omega arith) (omega arith)) in
        rw s at (sym (W.bits (b - 64 * k) (omega arith)) ∙ z)

pub zero_none : (n a : ℕ) {k : ℕ} {apart : List ℕ} → n ≤ 64 * k → ZeroWords (a * n + 0) k apart → NoneApart n apart a
zero_none n a {k} {apart} h Z = record { none = λ b l. let s : a * n + 0 + b ≡ a * n + b = omega arith in rw s at (Z.zero b (omega arith)) }

-- the places of the two sides of proposition k; the class of what is no disequality is n
pub record Side (n : ℕ) (leftClasses leftHeights rightClasses rightHeights : List ℕ) (k : ℕ) : Type 0 where
  pub left_there : k < length leftClasses
  pub left_height_there : k < length leftHeights
  pub right_there : k < length rightClasses
  pub right_height_there : k < length rightHeights
  pub inside : class leftClasses k < n → class rightClasses k < n
  pub left_low : height leftHeights k < top
  pub right_low : height rightHeights k < top

-- of m propositions
abbrev pub Sides : ℕ → ℕ → List ℕ → List ℕ → List ℕ → List ℕ → Type 0
Sides n m leftClasses leftHeights rightClasses rightHeights = (k : ℕ) → k < m → Side n leftClasses leftHeights rightClasses rightHeights k

module _ (n : ℕ) (classes heights leftClasses leftHeights rightClasses rightHeights : List ℕ) where
  -- the pairs as far apart as the sides of disequality k
  abbrev pub Listed : ℕ → ℕ → ℕ → Type 0
  Listed k = AtEither classes heights (class leftClasses k) (height leftHeights k) (class rightClasses k) (height rightHeights k)

  abbrev pub sides_differ : ℕ → Bool
  sides_differ k = height_of_other (class leftClasses k) (height leftHeights k) (class rightClasses k) (height rightHeights k)

  -- unless its sides are in one class at different heights: then so are the pairs
  abbrev pub ListedPair : ℕ → ℕ → ℕ → Type 0
  ListedPair k x y = (class leftClasses k < n) × ((sides_differ k ≡ false) × Listed k x y)

-- the pairs as far apart as two places in one class at different heights are in one class at different heights too
pub other_moved : {classes heights : List ℕ} {a p b q : ℕ} (x y : ℕ) → height_of_other a p b q ≡ true → AtEither classes heights a p b q x y → height_of_other (class classes x) (height heights x) (class classes y) (height heights y) ≡ true
other_moved {classes} {heights} {a} {p} {b} {q} x y o (inl d) =
    let r = other_parts a p b q o in
    let m = r.1 in
    parts_other (class classes x) (height heights x) (class classes y) (height heights y) (d.left ∙ r.0 ∙ sym d.right) (λ e. m (let f = d.far in omega arith))
other_moved {classes} {heights} {a} {p} {b} {q} x y o (inr d) =
    let r = other_parts a p b q o in
    let m = r.1 in
    parts_other (class classes x) (height heights x) (class classes y) (height heights y) (d.right ∙ sym r.0 ∙ sym d.left) (λ e. m (let f = d.far in omega arith))
