-- Homes: of the terms at one place the first stands for all of them, its own home and theirs.
use Rattle.std.specs.Prelude.{◌≡◌, ℕ, ◌+◌, ◌<◌, ◌≤◌, Bool, true, false, ◌≢◌, ◌⊎◌, List, length, ◌==◌, slice_index, slice_set}
use Rattle.std.proofs.Common.{sym, ◌∙◌, inl, inr, ⊎_elim, arith, get_or-set_same, get_or-set_other, eq-eqb, ne_eqb}
use Rattle.lists.specs.Filled.{Filled, same_or_not}
use Rattle.buckets.specs.Buckets.{NextOf, less_or_not}
use Rattle.points.specs.Places.{class, Column, height, Here, place_slot, slot_of, Terms}

-- what holds of the first k cells, and of a value, holds of one cell more that is set to it
pub set_each :
    (l : List ℕ) (k v : ℕ) (P : ℕ → ℕ → Type 0) → k < length l → P k v → ((t : ℕ) → t < k → P t (slice_index l t)) → (t : ℕ) → t < k + 1 → P t (slice_index (slice_set l k v) t)
set_each l k v P room new old t h =
    ⊎_elim
    (λ (e : t ≡ k). rw (e, get_or-set_same l k v 0 room) new)
    (λ (m : t ≢ k). rw (get_or-set_other l k t v 0 m) (old t (omega arith)))
    (same_or_not t k)

-- the home of term t
abbrev pub home : List ℕ → ℕ → ℕ
home homes t = slice_index homes t

-- the homes of n terms
pub record Homes (n : ℕ) (classes heights homes : List ℕ) : Type 0 where
  pub long : n ≤ length homes
  pub below : (t : ℕ) → t < n → home homes t < n
  pub class_same : (t : ℕ) → t < n → class classes (home homes t) ≡ class classes t
  pub height_same : (t : ℕ) → t < n → height heights (home homes t) ≡ height heights t
  pub own : (t : ℕ) → t < n → home homes (home homes t) ≡ home homes t
  pub unique : (s t : ℕ) → s < n → t < n → class classes s ≡ class classes t → height heights s ≡ height heights t → home homes s ≡ home homes t

-- v is the first term at the place of t
pub record FirstThere (classes heights : List ℕ) (t v : ℕ) : Type 0 where
  pub upto : v ≤ t
  pub here : Here classes heights (class classes t) (height heights t) v
  pub first : (u : ℕ) → u < v → Here classes heights (class classes t) (height heights t) u → ⊥

-- no term before j is at the place (b, h); a walk along the chain of its slot that has come to j
pub record Passed (n : ℕ) (classes heights : List ℕ) (b h j : ℕ) : Type 0 where
  pub here : j < n → place_slot classes heights j ≡ slot_of b h
  pub none : (u : ℕ) → u < j → Here classes heights b h u → ⊥

at_slot : {classes heights : List ℕ} {b h u : ℕ} → Here classes heights b h u → place_slot classes heights u ≡ slot_of b h
at_slot H = rw (H.class_is, H.height_is)

module _ {n : ℕ} {classes heights : List ℕ} {b h : ℕ} where
  pub passed_start : {j : ℕ} → NextOf n (place_slot classes heights) (slot_of b h) 0 j → Passed n classes heights b h j
  passed_start N = record { here = N.hit; none = λ u l H. N.none u (omega arith) l (at_slot H) }

  pub passed_more : {j f : ℕ} → j < n → NextOf n (place_slot classes heights) (place_slot classes heights j) (j + 1) f → (Here classes heights b h j → ⊥) → Passed n classes heights b h j → Passed n classes heights b h f
  passed_more {j} {f} l N empty P = record { here = λ g. N.hit g ∙ P.here l; none = λ u g H. go u g H (less_or_not u j) }
    where
      go : (u : ℕ) → u < f → Here classes heights b h u → (u < j) ⊎ (j ≤ u) → ⊥
      go u g H (inl a) = P.none u a H
      go u g H (inr a) = ⊎_elim (λ (e : u ≡ j). empty (rw e at H)) (λ (m : u ≢ j). N.none u (omega arith) g (at_slot H ∙ sym (P.here l))) (same_or_not u j)

-- the first k terms have their homes
pub record Homed (k : ℕ) (classes heights homes : List ℕ) : Type 0 where
  pub each : (t : ℕ) → t < k → FirstThere classes heights t (home homes t)

pub homed_none : (classes heights homes : List ℕ) → Homed 0 classes heights homes
homed_none classes heights homes = record { each = λ t h. absurd (omega arith) }

pub homed_more : {k v : ℕ} {classes heights homes : List ℕ} → k < length homes → Homed k classes heights homes → FirstThere classes heights k v → Homed (k + 1) classes heights (slice_set homes k v)
homed_more {k} {v} {classes} {heights} {homes} room H F = record { each = set_each homes k v (FirstThere classes heights) room F H.each }

-- the first at one place is one
first_same : {classes heights : List ℕ} {s t u v : ℕ} → class classes s ≡ class classes t → height heights s ≡ height heights t → FirstThere classes heights s u → FirstThere classes heights t v → u ≡ v
first_same {classes} {heights} {s} {t} {u} {v} e f F G = go (less_or_not u v) (less_or_not v u)
  where
    go : (u < v) ⊎ (v ≤ u) → (v < u) ⊎ (u ≤ v) → u ≡ v
    go (inl a) _ = absurd (G.first u a (record { class_is = F.here.class_is ∙ e; height_is = F.here.height_is ∙ f }))
    go (inr a) (inl b) = absurd (F.first v b (record { class_is = G.here.class_is ∙ sym e; height_is = G.here.height_is ∙ sym f }))
    go (inr a) (inr b) = omega arith

pub homes_are : {n : ℕ} {classes heights homes : List ℕ} → n ≤ length homes → Homed n classes heights homes → Homes n classes heights homes
homes_are {n} {classes} {heights} {homes} room H = record {
  long = room;
  below = below;
  class_same = λ t h. (H.each t h).here.class_is;
  height_same = λ t h. (H.each t h).here.height_is;
  own = λ t h. first_same (H.each t h).here.class_is (H.each t h).here.height_is (H.each (home homes t) (below t h)) (H.each t h);
  unique = λ s t hs ht e f. first_same e f (H.each s hs) (H.each t ht);
}
  where
    below : (t : ℕ) → t < n → home homes t < n
    below t h = omega (arith, (H.each t h).upto)

-- the class of a term that is its own home; n, which stands for none, of another
pub record Points (n : ℕ) (classes homes points : List ℕ) : Type 0 where
  pub long : n ≤ length points
  pub own : (t : ℕ) → t < n → home homes t ≡ t → class points t ≡ class classes t
  pub other : (t : ℕ) → t < n → home homes t ≢ t → class points t ≡ n

pub points_column : {n : ℕ} {classes heights homes points : List ℕ} → Terms n classes heights → Points n classes homes points → Column n points heights
points_column {n} {classes} {heights} {homes} {points} T P = record {
  few = T.column.few;
  classes_long = P.long;
  heights_long = T.column.heights_long;
  below = λ t h.
      ⊎_elim
      (λ (e : home homes t ≡ t). rw (P.own t h e) (T.column.below t h))
      (λ (m : home homes t ≢ t). rw (P.other t h m) (omega arith))
      (same_or_not (home homes t) t);
  low = T.column.low;
}

-- no two homes are at one place; the class of what is no home is n
pub record Unique (n : ℕ) (points heights : List ℕ) : Type 0 where
  pub same : (i j : ℕ) → i < n → j < n → class points i < n → class points i ≡ class points j → height heights i ≡ height heights j → i ≡ j

pub points_unique : {n : ℕ} {classes heights homes points : List ℕ} → Homes n classes heights homes → Points n classes homes points → Unique n points heights
points_unique {n} {classes} {heights} {homes} {points} H P = record {
  same = λ i j hi hj l e f.
      let a = own i hi l in
      let b = own j hj (rw (← e) l) in
      sym a ∙ H.unique i j hi hj (sym (P.own i hi a) ∙ e ∙ P.own j hj b) f ∙ b;
}
  where
    own : (t : ℕ) → t < n → class points t < n → home homes t ≡ t
    own t h l = ⊎_elim (λ (e : home homes t ≡ t). e) (λ (m : home homes t ≢ t). absurd (omega (arith, P.other t h m))) (same_or_not (home homes t) t)

-- the first where a term is its own home, else the second
unfoldable pub point_of : Bool → ℕ → ℕ → ℕ
point_of true a n = a
point_of false a n = n

abbrev pub point_at : ℕ → List ℕ → List ℕ → ℕ → ℕ
point_at n classes homes t = point_of (home homes t == t) (class classes t) n

pub points_filled : {n k size : ℕ} {classes homes points : List ℕ} → n ≤ size → n ≤ k → Filled (point_at n classes homes) 0 k size points → Points n classes homes points
unfolding point_of
points_filled room h F = record {
  long = omega (arith, F.long);
  own = λ t l e. F.done t (omega arith) ∙ rw (eq-eqb _ _ e);
  other = λ t l m. F.done t (omega arith) ∙ rw (ne_eqb _ _ m);
}
