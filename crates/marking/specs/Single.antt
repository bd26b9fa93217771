-- The pairs of two classes that have at most one point each.
use Rattle.std.specs.Prelude.{◌≡◌, ℕ, ◌+◌, ◌<◌, ◌≤◌, Bool, true, false, ◌≢◌, List, slice_index, slice_index_or, refl}
use Rattle.std.proofs.Common.{sym, ◌∙◌, inl, inr, ⊎_elim, arith}
use Rattle.lists.specs.Booleans.{false_true}
use Rattle.lists.specs.Filled.{same_or_not}
use Rattle.buckets.specs.Buckets.{Chains, less_or_not}
use Rattle.points.specs.Places.{class, height, At, AtEither}
use Rattle.marking.specs.Marks.{Adds, Both, adds_already, adds_as}

-- the pairs as far apart as (a, p) and (b, q) are set, or nothing was done
pub record Single (n : ℕ) (points heights : List ℕ) (a p b q : ℕ) (r : Bool) (old new : List ℕ) : Type 0 where
  pub set : r ≡ true → Adds n (AtEither points heights a p b q) old new
  pub none : r ≡ false → new ≡ old

module _ {n size : ℕ} {points first next : List ℕ} (C : Chains n size points first next) where
  -- a class whose chain is empty has no point
  empty_class : (a u : ℕ) → a < size → n ≤ slice_index first a → u < n → class points u ≢ a
  empty_class a u ha h hu = (C.starts.from a ha).none u (omega arith) (omega arith)

  -- one whose chain ends at its first point has no other
  only_point : (a u : ℕ) → a < size → slice_index first a < n → n ≤ slice_index next (slice_index first a) → u < n → class points u ≡ a → u ≡ slice_index first a
  only_point a u ha hi h hu e =
      ⊎_elim (λ (l : u < i). absurd ((C.starts.from a ha).none u (omega arith) l e))
      (λ (g : i ≤ u).
      ⊎_elim (λ (s : u ≡ i). s)
      (λ (m : u ≢ i). absurd ((C.links.links i (omega arith) hi).none u (omega arith) (omega arith) (e ∙ sym ((C.starts.from a ha).hit hi))))
      (same_or_not u i))
      (less_or_not u i)
    where
      i : ℕ
      i = slice_index first a

  module _ (heights : List ℕ) (a p b q : ℕ) (ha : a < size) (hb : b < size) where
    -- nothing to set where one of the classes has no point
    pub single_empty_left : (l : List ℕ) → n ≤ slice_index first a → Single n points heights a p b q true l l
    single_empty_left l h = record {
      set = λ _. adds_already n (AtEither points heights a p b q) l (λ x y hx hy d. absurd (⊎_elim (λ (w : At points heights a p b q x y). empty_class a x ha h hx w.left) (λ (w : At points heights a p b q y x). empty_class a y ha h hy w.left) d));
      none = λ e. false_true e refl;
    }

    pub single_empty_right : (l : List ℕ) → n ≤ slice_index first b → Single n points heights a p b q true l l
    single_empty_right l h = record {
      set = λ _. adds_already n (AtEither points heights a p b q) l (λ x y hx hy d. absurd (⊎_elim (λ (w : At points heights a p b q x y). empty_class b y hb h hy w.right) (λ (w : At points heights a p b q y x). empty_class b x hb h hx w.right) d));
      none = λ e. false_true e refl;
    }

    module _ (hi : slice_index_or first a 0 < n) (hj : slice_index_or first b 0 < n) (ei : n ≤ slice_index next (slice_index first a)) (ej : n ≤ slice_index next (slice_index first b)) where
      abbrev i : ℕ
      i = slice_index first a

      abbrev j : ℕ
      j = slice_index first b

      -- such a pair is that of the two points
      pair_is : (x y : ℕ) → x < n → y < n → At points heights a p b q x y → (x ≡ i) × (y ≡ j)
      pair_is x y hx hy w = (only_point a x ha hi ei hx w.left, only_point b y hb hj ej hy w.right)

      -- they are not as far apart
      pub single_far : (l : List ℕ) → height heights i + q ≢ height heights j + p → Single n points heights a p b q true l l
      single_far l m = record {
        set = λ _. adds_already n (AtEither points heights a p b q) l (λ x y hx hy d. absurd (⊎_elim (λ w. off x y hx hy w) (λ w. off y x hy hx w) d));
        none = λ e. false_true e refl;
      }
        where
          off : (x y : ℕ) → x < n → y < n → At points heights a p b q x y → ⊥
          off x y hx hy w = let e = pair_is x y hx hy w in m (rw (e.0, e.1) at w.far)

      -- they are
      pub single_both : {old new : List ℕ} → height heights i + q ≡ height heights j + p → Adds n (Both i j) old new → Single n points heights a p b q true old new
      single_both f A = record {
        set = λ _. adds_as n (Both i j) (AtEither points heights a p b q) A (λ x y hx hy d. ⊎_elim (λ e. inl (rw (e.0, e.1) pair)) (λ e. inr (rw (e.0, e.1) pair)) d) (λ x y hx hy d. ⊎_elim (λ w. inl (pair_is x y hx hy w)) (λ w. inr (let e = pair_is y x hy hx w in (e.1, e.0))) d);
        none = λ e. false_true e refl;
      }
        where
          pair : At points heights a p b q i j
          pair = record { left = (C.starts.from a ha).hit hi; right = (C.starts.from b hb).hit hj; far = f }

pub single_not : {n : ℕ} {points heights : List ℕ} {a p b q : ℕ} (l : List ℕ) → Single n points heights a p b q false l l
single_not l = record { set = λ e. false_true refl e; none = λ _. refl }
