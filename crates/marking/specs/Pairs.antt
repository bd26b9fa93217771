-- The pairs of terms that stand as far apart as two places, as they are marked.
use Rattle.std.specs.Prelude.{◌≡◌, ℕ, ◌+◌, ◌*◌, ◌<◌, ◌≤◌, true, false, ◌≢◌, ◌⊎◌, List, length, slice_index, refl}
use Rattle.std.proofs.Common.{sym, inl, inr, ⊎_elim, arith}
use Rattle.lists.specs.Filled.{same_or_not}
use Rattle.pairbits.specs.Bits.{is_set}
use Rattle.points.specs.Places.{class, height, AtEither, Column, Here, Opposite, place_slot, slot_of, top}
use Rattle.distances.specs.Distances.{bucket_of_distance, bucket_same, candidate_of, Indexed, comes_before, Listed}
use Rattle.marking.specs.Marks.{Adds, Both, Upto, adds_none, adds_as, adds_then}

-- the pair (i, j) and its mirror image, if j is at the place (b, h)
abbrev pub PairHere : List ℕ → List ℕ → ℕ → ℕ → ℕ → ℕ → ℕ → ℕ → Type 0
PairHere classes heights b h i j x y = Here classes heights b h j × Both i j x y

-- the pairs of i
abbrev pub PairsWith : ℕ → List ℕ → List ℕ → ℕ → ℕ → ℕ → ℕ → ℕ → ℕ → Type 0
PairsWith n classes heights p b q i x y = Upto n (λ j x y. Opposite classes heights p b q i j × Both i j x y) x y

-- the pairs of i, if it is in class a
abbrev pub PairsFrom : ℕ → List ℕ → List ℕ → ℕ → ℕ → ℕ → ℕ → ℕ → ℕ → ℕ → Type 0
PairsFrom n classes heights a p b q i x y = (class classes i ≡ a) × PairsWith n classes heights p b q i x y

-- who is at a place is in its bucket
pub here_slot : {classes heights : List ℕ} {b h : ℕ} (i j x y : ℕ) → PairHere classes heights b h i j x y → place_slot classes heights j ≡ slot_of b h
here_slot i j x y (e, _) = rw (e.class_is, e.height_is)

-- the pairs from the one class or from the other
from_either : (n : ℕ) (classes heights : List ℕ) (a p b q x y : ℕ) → Upto n (PairsFrom n classes heights a p b q) x y → AtEither classes heights a p b q x y
from_either n classes heights a p b q x y (i, hi, (ea, (j, hj, (o, inl d)))) =
    inl (rw (d.0, d.1) (record { left = ea; right = o.class_is; far = o.far }))
from_either n classes heights a p b q x y (i, hi, (ea, (j, hj, (o, inr d)))) =
    inr (rw (d.0, d.1) (record { left = ea; right = o.class_is; far = o.far }))

either_from : (n : ℕ) (classes heights : List ℕ) (a p b q x y : ℕ) → x < n → y < n → AtEither classes heights a p b q x y → Upto n (PairsFrom n classes heights a p b q) x y
either_from n classes heights a p b q x y hx hy (inl d) =
    (x, hx, (d.left, (y, hy, (record { class_is = d.right; far = d.far }, inl (refl, refl)))))
either_from n classes heights a p b q x y hx hy (inr d) =
    (y, hy, (d.left, (x, hx, (record { class_is = d.right; far = d.far }, inr (refl, refl)))))

pub all_between : (n : ℕ) (classes heights : List ℕ) (a p b q : ℕ) {old new : List ℕ} → Adds n (Upto n (PairsFrom n classes heights a p b q)) old new → Adds n (AtEither classes heights a p b q) old new
all_between n classes heights a p b q M =
    adds_as n (Upto n (PairsFrom n classes heights a p b q)) (AtEither classes heights a p b q) M
    (λ x y hx hy d. from_either n classes heights a p b q x y d)
    (λ x y hx hy d. either_from n classes heights a p b q x y hx hy d)

-- the same pairs, with the classes exchanged
pub exchange : (classes heights : List ℕ) (a p b q x y : ℕ) → AtEither classes heights a p b q x y → AtEither classes heights b q a p x y
exchange classes heights a p b q x y (inl d) = inr (record { left = d.right; right = d.left; far = sym d.far })
exchange classes heights a p b q x y (inr d) = inl (record { left = d.right; right = d.left; far = sym d.far })

-- no term of class b is as far from i as q from p, if that is below or above all heights
pub none_below : {n p b q i : ℕ} (classes heights : List ℕ) (l : List ℕ) → height heights i + q < p → Adds n (PairsWith n classes heights p b q i) l l
none_below {n} {p} {b} {q} {i} classes heights l h =
    adds_none n (PairsWith n classes heights p b q i) l (λ x y (j, hj, (o, d)). let e = o.far in omega arith)

pub none_above : {n p b q i : ℕ} (classes heights : List ℕ) (l : List ℕ) → Column n classes heights → top + p ≤ height heights i + q → Adds n (PairsWith n classes heights p b q i) l l
none_above {n} {p} {b} {q} {i} classes heights l C h =
    adds_none n (PairsWith n classes heights p b q i) l (λ x y (j, hj, (o, d)). let e = o.far in let f = C.low j hj in omega arith)

-- those at the place that is as far from i as q from p
pub all_there : {n p b q i g : ℕ} (classes heights : List ℕ) {old new : List ℕ} → g + p ≡ height heights i + q → Adds n (Upto n (PairHere classes heights b g i)) old new → Adds n (PairsWith n classes heights p b q i) old new
all_there {n} {p} {b} {q} {i} {g} classes heights e M =
    adds_as n (Upto n (PairHere classes heights b g i)) (PairsWith n classes heights p b q i) M
    (λ x y hx hy (j, hj, (h, d)). (j, hj, (record { class_is = h.class_is; far = rw h.height_is (sym e) }, d)))
    (λ x y hx hy (j, hj, (o, d)). let f = o.far in (j, hj, (record { class_is = o.class_is; height_is = omega arith }, d)))

-- the pairs of the candidate that entry c stands for, if it is of class a
abbrev pub Candidate : ℕ → List ℕ → List ℕ → List ℕ → List ℕ → List ℕ → ℕ → ℕ → ℕ → ℕ → ℕ → ℕ → ℕ → Type 0
Candidate n points heights from order entries a p b q c x y =
    (c < length entries) × ((candidate_of from order entries a c < n) × PairsFrom n points heights a p b q (candidate_of from order entries a c) x y)

-- what the relations from s on and before k hold
abbrev pub Span : ℕ → ℕ → (ℕ → ℕ → ℕ → Type 0) → ℕ → ℕ → Type 0
Span s k E x y = (c : ℕ) × (s ≤ c) × (c < k) × E c x y

-- a loop over them
pub record Spanning (n s k : ℕ) (E : ℕ → ℕ → ℕ → Type 0) (old new : List ℕ) : Type 0 where
  pub from_start : s ≤ k
  pub marks : Adds n (Span s k E) old new

pub spanning_start : {n s : ℕ} (E : ℕ → ℕ → ℕ → Type 0) (l : List ℕ) → Spanning n s s E l l
spanning_start {n} {s} E l = record { from_start = omega arith; marks = adds_none n (Span s s E) l (λ x y (c, h, g, e). omega arith) }

pub spanning_more : {n s k : ℕ} (E : ℕ → ℕ → ℕ → Type 0) {old mid new : List ℕ} → Spanning n s k E old mid → Adds n (E k) mid new → Spanning n s (k + 1) E old new
spanning_more {n} {s} {k} E W M = record {
  from_start = omega (arith, W.from_start);
  marks = adds_then n (Span s k E) (E k) (Span s (k + 1) E) W.marks M
      (λ x y hx hy (c, h, g, e). ⊎_elim (λ (o : c ≡ k). inr (rw o at e)) (λ (o : c ≢ k). inl (c, h, omega arith, e)) (same_or_not c k))
      (λ x y hx hy (c, h, g, e). (c, h, omega arith, e))
      (λ x y hx hy e. (k, W.from_start, omega arith, e));
}

-- the loop has come to the end, or there is nothing from the start on
pub spanning_done : {n s k m : ℕ} (E : ℕ → ℕ → ℕ → Type 0) {old new : List ℕ} → m ≤ k → (k ≤ m) ⊎ (k ≡ s) → Spanning n s k E old new → Adds n (Span s m E) old new
spanning_done {n} {s} {k} {m} E h o W =
    adds_as n (Span s k E) (Span s m E) W.marks
    (λ x y hx hy (c, g, l, e). (c, g, ⊎_elim (λ u. omega arith) (λ (u : k ≡ s). absurd (omega arith)) o, e))
    (λ x y hx hy (c, g, l, e). (c, g, omega arith, e))

-- the candidates of a bucket give all pairs at its distance
pub all_indexed :
    {n : ℕ} (points heights apart levels from order starts entries : List ℕ) (a p b q : ℕ) {s m : ℕ} {old new : List ℕ} →
    Column n points heights → Indexed n points heights apart levels from order starts entries →
    a < n → b < n → q < top → comes_before levels a b ≡ true → is_set apart (a * n + b) ≡ false →
    s ≡ slice_index starts (bucket_of_distance a p b q) → m ≡ slice_index starts (bucket_of_distance a p b q + 1) →
    Adds n (Span s m (Candidate n points heights from order entries a p b q)) old new →
    Adds n (AtEither points heights a p b q) old new
all_indexed {n} points heights apart levels from order starts entries a p b q {s} {m} {old} {new} C X ha hb hq before clear es em A =
    all_between n points heights a p b q
    (adds_as n (Span s m (Candidate n points heights from order entries a p b q)) (Upto n (PairsFrom n points heights a p b q)) A
    (λ x y hx hy (c, g, l, (h, (hi, e))). (candidate_of from order entries a c, hi, e))
    (λ x y hx hy (i, hi, (ea, (j, hj, (o, d)))). go x y i j hi hj ea o d))
  where
    go : (x y i j : ℕ) → i < n → j < n → class points i ≡ a → Opposite points heights p b q i j → Both i j x y → Span s m (Candidate n points heights from order entries a p b q) x y
    go x y i j hi hj ea o d = listed (rw (ea, o.class_is) at (X.found i j hi hj (rw ea ha) (rw o.class_is hb) (rw (ea, o.class_is) before) (rw (ea, o.class_is) clear)))
      where
        same : bucket_of_distance a p b q ≡ bucket_of_distance a (height heights i) b (height heights j)
        same = bucket_same a b p q (height heights i) (height heights j) hq (C.low j hj) o.far

        listed : Listed from order starts entries a i (bucket_of_distance a (height heights i) b (height heights j)) → Span s m (Candidate n points heights from order entries a p b q) x y
        listed W =
            let u : s ≤ W.at = rw (es, same) W.after_start in
            let v : W.at < m = rw (em, same) W.before_end in
            (W.at, u, v, (W.inside, (rw W.is hi, rw W.is (ea, (j, hj, (o, d))))))
