-- Pair bits that are set one by one: a table after bits were set, and the pairs whose bits they are.
use Rattle.std.specs.Prelude.{◌≡◌, ℕ, ◌+◌, ◌*◌, ◌/◌, ◌%◌, ◌<◌, ◌≤◌, Bool, true, false, ◌≢◌, ◌⊎◌, List, length, replicate, ◌==◌, nat_lt, slice_index, refl}
use Rattle.std.proofs.Common.{sym, ◌∙◌, ap, inl, inr, ⊎_elim, arith, eqb-true, eq-eqb, ltb-true, ltb-false, mul-le-mul_right, mul-le-mul_left}
use Rattle.std.proofs.Math.Arith.{digits_lt, digits_div, digits_mod}
use Rattle.std.proofs.lemmas.List.{length-replicate, get_or-replicate}
use Rattle.std.proofs.Math.ListN.{get_or-eq_default}
use Rattle.std.proofs.lemmas.Bool.{eqb-false}
use Rattle.lists.specs.Filled.{same_or_not}
use Rattle.buckets.specs.Buckets.{NextOf, less_or_not}
use Rattle.lists.specs.Booleans.{false_true, or_cases, or_second}
use Rattle.tables.specs.Limits.{most}
use Rattle.pairbits.specs.Bits.{is_set, with_bit, is_set_with_bit, is_set_zero, length_with_bit, Bytes, bytes_with_bit}

-- i and j are among n terms, of which there are not too many
pub record Inside (n i j : ℕ) : Type 0 where
  pub few : n ≤ most
  pub left : i < n
  pub right : j < n

pub product_small : (n i : ℕ) → n ≤ most → i < n → i * n ≤ most * most
product_small n i few h = let a : i ≤ most = omega arith in let p = mul-le-mul_right n a in let q = mul-le-mul_left most few in omega arith

pub mirror : {n i j : ℕ} → Inside n i j → Inside n j i
mirror h = record { few = h.few; left = h.right; right = h.left }

-- bit k is that of a pair of terms in the relation D
abbrev pub PairOf : ℕ → (ℕ → ℕ → Type 0) → ℕ → Type 0
PairOf n D k = (i : ℕ) × (j : ℕ) × (i < n) × (j < n) × (k ≡ i * n + j) × D i j

-- `new` is `old` with the bits of the pairs in D set
pub record Adds (n : ℕ) (D : ℕ → ℕ → Type 0) (old new : List ℕ) : Type 0 where
  pub long : length new ≡ length old
  pub bytes : Bytes old → Bytes new
  pub kept : (k : ℕ) → is_set old k ≡ true → is_set new k ≡ true
  pub added : (i j : ℕ) → i < n → j < n → D i j → is_set new (i * n + j) ≡ true
  pub only : (k : ℕ) → is_set new k ≡ true → (is_set old k ≡ true) ⊎ PairOf n D k

-- the table holds a bit for each pair of n terms
abbrev pub Room : ℕ → List ℕ → Type 0
Room n l = n * n ≤ 8 * length l

-- one pair; a pair and its mirror image
abbrev pub One : ℕ → ℕ → ℕ → ℕ → Type 0
One i j x y = (x ≡ i) × (y ≡ j)

abbrev pub Both : ℕ → ℕ → ℕ → ℕ → Type 0
Both i j x y = One i j x y ⊎ One j i x y

-- what the first m of a sequence of relations hold
abbrev pub Upto : ℕ → (ℕ → ℕ → ℕ → Type 0) → ℕ → ℕ → Type 0
Upto m E x y = (k : ℕ) × (k < m) × E k x y

pub pair_below : {n i j : ℕ} (l : List ℕ) → Room n l → i < n → j < n → (i * n + j) / 8 < length l
pair_below {n} {i} {j} l room hi hj = let h : i * n + j < n * n = digits_lt hi hj in omega arith

-- a pair is told by its bit's number
pub pair_told : {n : ℕ} (i j u v : ℕ) → j < n → v < n → i * n + j ≡ u * n + v → (i ≡ u) × (j ≡ v)
pair_told {n} i j u v hj hv e =
    (sym (digits_div i hj) ∙ ap (λ (k : ℕ). k / n) e ∙ digits_div u hv, sym (digits_mod i hj) ∙ ap (λ (k : ℕ). k % n) e ∙ digits_mod u hv)

module _ (n : ℕ) where
  -- nothing is left to set
  pub adds_already : (D : ℕ → ℕ → Type 0) (l : List ℕ) → ((i j : ℕ) → i < n → j < n → D i j → is_set l (i * n + j) ≡ true) → Adds n D l l
  adds_already D l set = record { long = refl; bytes = λ b. b; kept = λ k e. e; added = set; only = λ k e. inl e }

  pub adds_none : (D : ℕ → ℕ → Type 0) (l : List ℕ) → ((x y : ℕ) → D x y → ⊥) → Adds n D l l
  adds_none D l empty = adds_already D l (λ i j hi hj d. absurd (empty i j d))

  pub adds_bit : (i j : ℕ) (l : List ℕ) → i < n → j < n → Room n l → Adds n (One i j) l (with_bit l (i * n + j))
  adds_bit i j l hi hj room =
      let h = pair_below l room hi hj in
      record {
        long = length_with_bit l (i * n + j);
        bytes = bytes_with_bit l (i * n + j);
        kept = λ k e. rw (is_set_with_bit l (i * n + j) k h) (or_second (k == i * n + j) (is_set l k) e);
        added = λ x y hx hy d. rw (d.0, d.1, is_set_with_bit l (i * n + j) (i * n + j) h, eq-eqb (i * n + j) (i * n + j) refl);
        only = λ k e.
            ⊎_elim (λ f. inr (i, j, hi, hj, eqb-true k (i * n + j) f, (refl, refl))) inl
            (or_cases (k == i * n + j) (is_set l k) (rw (is_set_with_bit l (i * n + j) k h) at e));
      }

  pub room_kept : {D : ℕ → ℕ → Type 0} {old new : List ℕ} → Adds n D old new → Room n old → Room n new
  room_kept a h = rw a.long h

  -- one after the other
  pub adds_then :
      (D E F : ℕ → ℕ → Type 0) {old mid new : List ℕ} →
      Adds n D old mid →
      Adds n E mid new →
      ((x y : ℕ) → x < n → y < n → F x y → D x y ⊎ E x y) →
      ((x y : ℕ) → x < n → y < n → D x y → F x y) →
      ((x y : ℕ) → x < n → y < n → E x y → F x y) →
      Adds n F old new
  adds_then D E F {old} {mid} {new} a b split left right = record {
    long = b.long ∙ a.long;
    bytes = λ h. b.bytes (a.bytes h);
    kept = λ k e. b.kept k (a.kept k e);
    added = λ i j hi hj d. ⊎_elim (λ f. b.kept (i * n + j) (a.added i j hi hj f)) (b.added i j hi hj) (split i j hi hj d);
    only = λ k e.
        ⊎_elim
        (λ m. ⊎_elim inl (λ (r : PairOf n D k). inr (r.0, r.1, r.2, r.3, r.4, left r.0 r.1 r.2 r.3 r.5)) (a.only k m))
        (λ (r : PairOf n E k). inr (r.0, r.1, r.2, r.3, r.4, right r.0 r.1 r.2 r.3 r.5))
        (b.only k e);
  }

  -- the same pairs, said otherwise
  pub adds_as :
      (D E : ℕ → ℕ → Type 0) {old new : List ℕ} →
      Adds n D old new →
      ((x y : ℕ) → x < n → y < n → D x y → E x y) →
      ((x y : ℕ) → x < n → y < n → E x y → D x y) →
      Adds n E old new
  adds_as D E a f g = record {
    long = a.long;
    bytes = a.bytes;
    kept = a.kept;
    added = λ i j hi hj e. a.added i j hi hj (g i j hi hj e);
    only = λ k e. ⊎_elim inl (λ (r : PairOf n D k). inr (r.0, r.1, r.2, r.3, r.4, f r.0 r.1 r.2 r.3 r.5)) (a.only k e);
  }

  -- a loop over a sequence of relations
  module _ (E : ℕ → ℕ → ℕ → Type 0) where
    pub upto_none : (l : List ℕ) → Adds n (Upto 0 E) l l
    upto_none l = adds_none (Upto 0 E) l (λ x y d. let h = d.1 in omega arith)

    pub upto_more : (i : ℕ) {old mid new : List ℕ} → Adds n (Upto i E) old mid → Adds n (E i) mid new → Adds n (Upto (i + 1) E) old new
    upto_more i a b =
        adds_then (Upto i E) (E i) (Upto (i + 1) E) a b
        (λ x y hx hy d. last i d.0 d.1 d.2)
        (λ x y hx hy d. let h = d.1 in (d.0, omega arith, d.2))
        (λ x y hx hy d. (i, omega arith, d))
      where
        last : (i k : ℕ) {x y : ℕ} → k < i + 1 → E k x y → Upto i E x y ⊎ E i x y
        last i k {x} {y} h d = go (k == i) refl
          where
            go : (t : Bool) → (k == i) ≡ t → Upto i E x y ⊎ E i x y
            go true e = inr (rw (eqb-true k i e) at d)
            go false e = let m = eqb-false k i e in inl (k, omega arith, d)

  -- a bit that is set was set before, or is that of a pair
  pub bit_cases : (D : ℕ → ℕ → Type 0) {old new : List ℕ} → Adds n D old new → (i j : ℕ) → j < n → is_set new (i * n + j) ≡ true → (is_set old (i * n + j) ≡ true) ⊎ D i j
  bit_cases D {old} {new} a i j hj e =
      ⊎_elim inl
      (λ (r : PairOf n D (i * n + j)).
      let s = pair_told i j r.0 r.1 hj r.3 r.4 in
      inr (rw (s.0, s.1) r.5))
      (a.only (i * n + j) e)

  pub bit_kept : (D : ℕ → ℕ → Type 0) {old new : List ℕ} → Adds n D old new → (i j : ℕ) → j < n → (D i j → ⊥) → is_set new (i * n + j) ≡ true → is_set old (i * n + j) ≡ true
  bit_kept D a i j hj empty e = ⊎_elim (λ h. h) (λ d. absurd (empty d)) (bit_cases D a i j hj e)

  -- a bit past those of the pairs is as it was
  pub past_kept : (D : ℕ → ℕ → Type 0) {old new : List ℕ} → Adds n D old new → (k : ℕ) → n * n ≤ k → is_set new k ≡ true → is_set old k ≡ true
  past_kept D {old} {new} a k h e =
      ⊎_elim (λ o. o)
      (λ (r : PairOf n D k). let b : r.0 * n + r.1 < n * n = digits_lt r.2 r.3 in let s = r.4 in absurd (omega arith))
      (a.only k e)

-- a loop that has set the bits of the first k of m relations
pub record Marking (n m k : ℕ) (E : ℕ → ℕ → ℕ → Type 0) (old new : List ℕ) : Type 0 where
  pub upto : k ≤ m
  pub marks : Adds n (Upto k E) old new

module _ {n m : ℕ} {E : ℕ → ℕ → ℕ → Type 0} where
  pub marking_start : (l : List ℕ) → Marking n m 0 E l l
  marking_start l = record { upto = omega arith; marks = upto_none n E l }

  pub marking_more : {k : ℕ} {old mid new : List ℕ} → k < m → Marking n m k E old mid → Adds n (E k) mid new → Marking n m (k + 1) E old new
  marking_more {k} h a b = record { upto = omega arith; marks = upto_more n E k a.marks b }

  pub marking_skip : {k : ℕ} {old new : List ℕ} → k < m → Marking n m k E old new → ((x y : ℕ) → E k x y → ⊥) → Marking n m (k + 1) E old new
  marking_skip {k} {old} {new} h a empty = marking_more h a (adds_none n (E k) new empty)

  pub marking_done : {k : ℕ} {old new : List ℕ} → m ≤ k → Marking n m k E old new → Adds n (Upto m E) old new
  marking_done {k} {old} {new} h a = let e : k ≡ m = let u = a.upto in omega arith in rw e at a.marks

-- what the first k relations hold, where the next ones up to f hold nothing
pub marking_jump : {n m k f : ℕ} (E : ℕ → ℕ → ℕ → Type 0) {old new : List ℕ} → k ≤ f → f ≤ m → ((j x y : ℕ) → k ≤ j → j < f → E j x y → ⊥) → Marking n m k E old new → Marking n m f E old new
marking_jump {n} {m} {k} {f} E l h empty a = record {
  upto = h;
  marks = adds_as n (Upto k E) (Upto f E) a.marks
      (λ x y hx hy (j, b, e). (j, omega arith, e))
      (λ x y hx hy (j, b, e). lower x y j b e);
}
  where
    lower : (x y j : ℕ) → j < f → E j x y → Upto k E x y
    lower x y j b e = go (nat_lt j k) refl
      where
        go : (t : Bool) → nat_lt j k ≡ t → Upto k E x y
        go true c = (j, ltb-true j k c, e)
        go false c = absurd (empty j x y (ltb-false j k c) b e)

-- a walk along the chain of key k that has set the bits of the relations before t; only those of numbers in the chain hold anything
pub record Walking (n : ℕ) (key : ℕ → ℕ) (k : ℕ) (E : ℕ → ℕ → ℕ → Type 0) (t : ℕ) (old new : List ℕ) : Type 0 where
  pub upto : t ≤ n
  pub here : t < n → key t ≡ k
  pub marks : Adds n (Upto t E) old new

module _ {n : ℕ} {key : ℕ → ℕ} {k : ℕ} (E : ℕ → ℕ → ℕ → Type 0) (chained : (j x y : ℕ) → j < n → E j x y → key j ≡ k) where
  pub walking_start : {f : ℕ} (l : List ℕ) → NextOf n key k 0 f → Walking n key k E f l l
  walking_start {f} l N = record {
    upto = N.inside;
    here = N.hit;
    marks = adds_none n (Upto f E) l (λ i j (u, h, e). let b = N.inside in N.none u (omega arith) h (chained u i j (omega arith) e));
  }

  pub walking_more :
      {t f : ℕ} {old mid new : List ℕ} → t < n → NextOf n key (key t) (t + 1) f → Walking n key k E t old mid → Adds n (E t) mid new → Walking n key k E f old new
  walking_more {t} {f} {old} {mid} {new} h N W M = record {
    upto = N.inside;
    here = λ g. N.hit g ∙ W.here h;
    marks = adds_then n (Upto t E) (E t) (Upto f E) W.marks M
        (λ x y hx hy (u, g, e). last x y u g e (less_or_not u t))
        (λ x y hx hy (u, g, e). (u, omega (arith, N.after), e))
        (λ x y hx hy e. (t, omega (arith, N.after), e));
  }
    where
      last : (x y u : ℕ) → u < f → E u x y → (u < t) ⊎ (t ≤ u) → Upto t E x y ⊎ E t x y
      last x y u g e (inl l) = inl (u, l, e)
      last x y u g e (inr l) = ⊎_elim (λ (s : u ≡ t). inr (rw s at e)) (λ (m : u ≢ t). absurd (let b = N.inside in N.none u (omega arith) g (chained u x y (omega arith) e ∙ sym (W.here h)))) (same_or_not u t)

  pub walking_done : {t : ℕ} {old new : List ℕ} → n ≤ t → Walking n key k E t old new → Adds n (Upto n E) old new
  walking_done {t} {old} {new} h W = let e : t ≡ n = let u = W.upto in omega arith in rw e at W.marks

-- an empty table
abbrev pub zeros : ℕ → List ℕ
zeros size = replicate size 0

past_zeros : (size : ℕ) {k : ℕ} → size ≤ k → length (zeros size) ≤ k
past_zeros size h = omega (arith, length-replicate {A = ℕ} size 0)

pub zero_cells : (size k : ℕ) → slice_index (zeros size) k ≡ 0
zero_cells size k = go (nat_lt k size) refl
  where
    go : (t : Bool) → nat_lt k size ≡ t → slice_index (zeros size) k ≡ 0
    go true e = get_or-replicate size k 0 0 (ltb-true k size e)
    go false e = get_or-eq_default (zeros size) 0 (past_zeros size (ltb-false k size e))

pub zero_bytes : (size : ℕ) → Bytes (zeros size)
zero_bytes size = record { byte = λ k. rw (zero_cells size k) (omega arith) }

-- a table of zero bytes has no bit set
pub no_bits : (size k : ℕ) → is_set (zeros size) k ≢ true
no_bits size k e = false_true (is_set_zero (zeros size) k (zero_cells size (k / 8))) e
