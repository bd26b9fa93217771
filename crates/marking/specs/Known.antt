-- Tables in which terms of the same two classes that are as far apart have the same bit, so that one set bit tells all of them.
use Rattle.std.specs.Prelude.{◌≡◌, ℕ, ◌+◌, ◌*◌, ◌<◌, true, ◌&&◌, List}
use Rattle.std.proofs.Common.{sym, ◌∙◌, inl, inr, ⊎_elim, arith}
use Rattle.lists.specs.Booleans.{and_true}
use Rattle.pairbits.specs.Bits.{is_set}
use Rattle.points.specs.Places.{class, height, At, AtEither, Here, is_here, here_true, Opposite}
use Rattle.marking.specs.Marks.{Adds, adds_already, bit_cases}

-- terms of the same two classes that are as far apart have the same bit
pub record Uniform (n : ℕ) (points heights table : List ℕ) : Type 0 where
  pub moves :
      {i j u v : ℕ} → i < n → j < n → u < n → v < n →
      class points i ≡ class points u → class points j ≡ class points v → height heights i + height heights v ≡ height heights u + height heights j →
      is_set table (i * n + j) ≡ true → is_set table (u * n + v) ≡ true

-- a relation that holds of two terms holds of all that are as far apart
pub record Moving (n : ℕ) (points heights : List ℕ) (D : ℕ → ℕ → Type 0) : Type 0 where
  pub moves : {i j u v : ℕ} → class points i ≡ class points u → class points j ≡ class points v → height heights i + height heights v ≡ height heights u + height heights j → D i j → D u v

pub uniform_adds : {n : ℕ} {points heights old new : List ℕ} (D : ℕ → ℕ → Type 0) → Moving n points heights D → Uniform n points heights old → Adds n D old new → Uniform n points heights new
uniform_adds {n} {points} {heights} {old} {new} D W U A = record {
  moves = λ {i} {j} {u} {v} hi hj hu hv a b f e.
      ⊎_elim (λ o. A.kept (u * n + v) (U.moves hi hj hu hv a b f o)) (λ d. A.added u v hu hv (W.moves a b f d)) (bit_cases n D A i j hj e);
}

-- pairs in either order
pub either_moving : (n : ℕ) (points heights : List ℕ) (a p b q : ℕ) → Moving n points heights (AtEither points heights a p b q)
either_moving n points heights a p b q = record { moves = go }
  where
    go : {i j u v : ℕ} → class points i ≡ class points u → class points j ≡ class points v → height heights i + height heights v ≡ height heights u + height heights j → AtEither points heights a p b q i j → AtEither points heights a p b q u v
    go ea eb f (inl d) = inl (record { left = sym ea ∙ d.left; right = sym eb ∙ d.right; far = let g = d.far in omega arith })
    go ea eb f (inr d) = inr (record { left = sym eb ∙ d.left; right = sym ea ∙ d.right; far = let g = d.far in omega arith })

-- a pair as far apart as (a, p) and (b, q) whose bit is set, and that of its mirror image
pub record Known (n : ℕ) (points heights table : List ℕ) (a p b q : ℕ) : Type 0 where
  pub i : ℕ
  pub j : ℕ
  pub left : i < n
  pub right : j < n
  pub at : At points heights a p b q i j
  pub there : is_set table (i * n + j) ≡ true
  pub back : is_set table (j * n + i) ≡ true

-- i and a term at the place (b, h) whose bits are set
pub record KnownAt (n : ℕ) (points heights table : List ℕ) (b h i : ℕ) : Type 0 where
  pub j : ℕ
  pub inside : j < n
  pub here : Here points heights b h j
  pub there : is_set table (i * n + j) ≡ true
  pub back : is_set table (j * n + i) ≡ true

-- i and a term of class b as far from it as q from p
pub record KnownWith (n : ℕ) (points heights table : List ℕ) (p b q i : ℕ) : Type 0 where
  pub j : ℕ
  pub inside : j < n
  pub opposite : Opposite points heights p b q i j
  pub there : is_set table (i * n + j) ≡ true
  pub back : is_set table (j * n + i) ≡ true

pub known_at : {n : ℕ} {points heights table : List ℕ} {b h i j : ℕ} → j < n → is_here points heights b h j ≡ true → (is_set table (i * n + j) && is_set table (j * n + i)) ≡ true → KnownAt n points heights table b h i
known_at {n} {points} {heights} {table} {b} {h} {i} {j} l e f =
    let r = and_true (is_set table (i * n + j)) _ f in
    record { j = j; inside = l; here = here_true points heights b h j e; there = r.0; back = r.1 }

pub known_with_lem : {n : ℕ} {points heights table : List ℕ} {p b q i g : ℕ} → g + p ≡ height heights i + q → KnownAt n points heights table b g i → KnownWith n points heights table p b q i
known_with_lem e K = record { j = K.j; inside = K.inside; opposite = record { class_is = K.here.class_is; far = let f = K.here.height_is in omega arith }; there = K.there; back = K.back }

pub known_from : {n : ℕ} {points heights table : List ℕ} {a p b q i : ℕ} → i < n → class points i ≡ a → KnownWith n points heights table p b q i → Known n points heights table a p b q
known_from {i = i} h e K = record { i = i; j = K.j; left = h; right = K.inside; at = record { left = e; right = K.opposite.class_is; far = K.opposite.far }; there = K.there; back = K.back }

-- then there is nothing to set
pub known_adds : {n : ℕ} {points heights table : List ℕ} {a p b q : ℕ} → Uniform n points heights table → Known n points heights table a p b q → Adds n (AtEither points heights a p b q) table table
known_adds {n} {points} {heights} {table} {a} {p} {b} {q} U K = adds_already n (AtEither points heights a p b q) table go
  where
    go : (u v : ℕ) → u < n → v < n → AtEither points heights a p b q u v → is_set table (u * n + v) ≡ true
    go u v hu hv (inl d) = U.moves K.left K.right hu hv (K.at.left ∙ sym d.left) (K.at.right ∙ sym d.right) (let e = K.at.far in let f = d.far in omega arith) K.there
    go u v hu hv (inr d) = U.moves K.right K.left hu hv (K.at.right ∙ sym d.right) (K.at.left ∙ sym d.left) (let e = K.at.far in let f = d.far in omega arith) K.back
