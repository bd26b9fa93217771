-- Rows of the pair table: the pairs of one term, set by words of a mask of terms.
use Rattle.std.specs.Prelude.{◌≡◌, ℕ, ◌+◌, ◌*◌, ◌/◌, ◌%◌, ◌<◌, ◌≤◌, true, false, ◌||◌, ◌≢◌, ◌⊎◌, List, length, ◌==◌, refl}
use Rattle.std.proofs.Math.Path.{sym}
use Rattle.std.proofs.Common.{◌∙◌, ap, inl, inr, arith, eqb-true, eq-eqb, ne_eqb}
use Rattle.std.proofs.Math.Logic.{⊎_elim}
use Rattle.std.proofs.lemmas.List.{length-replicate}
use Rattle.std.proofs.lemmas.Bool.{eqb-false, not-true}
use Rattle.lists.specs.Booleans.{and_true, false_true, or_cases, or_second}
use Rattle.lists.specs.Filled.{same_or_not}
use Rattle.buckets.specs.Buckets.{NextOf, less_or_not}
use Rattle.pairbits.specs.Bits.{is_set}
use Rattle.points.specs.Places.{class, height}
use Rattle.points.specs.Homes.{Unique}
use Rattle.words.specs.Words.{in_mask, is_bit_one, one_past, Ored, Put, Without}
use Rattle.marking.specs.Marks.{Adds, Marking, PairOf, Room, Upto, adds_already, adds_as, marking_done, pair_below, zeros, zero_cells}
use Rattle.marking.specs.Classes.{NoneApart, PointsDiffer, differ_by_classes, other_parts, height_of_other, parts_other}

-- all numbers of a mask are below n
pub record Below (n : ℕ) (mask : List ℕ) : Type 0 where
  pub below : (v : ℕ) → in_mask mask v ≡ true → v < n

-- the pairs of i with the numbers of a mask but j; with those of word w
abbrev pub MaskPair : List ℕ → ℕ → ℕ → ℕ → ℕ → Type 0
MaskPair mask i j x y = (x ≡ i) × ((in_mask mask y ≡ true) × (y ≢ j))

abbrev pub WordPair : List ℕ → ℕ → ℕ → ℕ → ℕ → ℕ → Type 0
WordPair mask i j w x y = (y / 64 ≡ w) × MaskPair mask i j x y

-- one word, set at its place in the row of i
pub word_adds : (n i j w : ℕ) (mask : List ℕ) {r : ℕ} {old new : List ℕ} → i < n → Room n old → Below n mask → Without mask w j r → Ored old (i * n + 64 * w) 64 r new → Adds n (WordPair mask i j w) old new
word_adds n i j w mask {r} {old} {new} hi room B W O = record {
  long = O.long;
  bytes = O.bytes;
  kept = O.kept;
  added = λ x y hx hy (q, (e, (m, d))). rw e (set y hy q m d);
  only = λ k e. ⊎_elim inl (λ (b, hb, s, f). inr (told k b hb s f)) (O.only k e);
}
  where
    set : (y : ℕ) → y < n → y / 64 ≡ w → in_mask mask y ≡ true → y ≢ j → is_set new (i * n + y) ≡ true
    set y hy q m d =
        let z : i * n + 64 * w + y % 64 ≡ i * n + y = omega arith in
        rw z at (O.added (y % 64) (omega arith) (W.bits y q ∙ rw (m, ne_eqb y j d)) (rw z (pair_below old room hi hy)))

    told : (k b : ℕ) → b < 64 → k ≡ i * n + 64 * w + b → is_bit_one r b ≡ true → PairOf n (WordPair mask i j w) k
    told k b hb s f =
        let q : (64 * w + b) / 64 ≡ w = omega arith in
        let m : (64 * w + b) % 64 ≡ b = omega arith in
        let t = and_true (in_mask mask (64 * w + b)) _ (sym (W.bits (64 * w + b) q) ∙ rw m f) in
        (i, 64 * w + b, hi, B.below (64 * w + b) t.0, omega arith, (q, (refl, (t.0, eqb-false (64 * w + b) j (not-true _ t.1)))))

-- all words of the row
pub row_masked : (n i j : ℕ) (mask : List ℕ) {m w : ℕ} {old new : List ℕ} → n ≤ 64 * m → m ≤ w → Marking n m w (WordPair mask i j) old new → Adds n (MaskPair mask i j) old new
row_masked n i j mask {m} h l M =
    adds_as n (Upto m (WordPair mask i j)) (MaskPair mask i j) (marking_done l M)
    (λ x y hx hy (w, hw, (q, d)). d)
    (λ x y hx hy d. (y / 64, omega arith, (refl, d)))

-- the mask holds the homes of class a, and no others
pub record OwnMask (n : ℕ) (points : List ℕ) (a : ℕ) (mask : List ℕ) : Type 0 where
  pub holds : (v : ℕ) → v < n → class points v ≡ a → in_mask mask v ≡ true
  pub only : (v : ℕ) → in_mask mask v ≡ true → (v < n) × (class points v ≡ a)

pub own_below : {n a : ℕ} {points mask : List ℕ} → OwnMask n points a mask → Below n mask
own_below M = record { below = λ v e. (M.only v e).0 }

-- a walk along the chain of class a that has put the homes before t into the mask
pub record Gathering (n : ℕ) (points : List ℕ) (a t size : ℕ) (mask : List ℕ) : Type 0 where
  pub upto : t ≤ n
  pub here : t < n → class points t ≡ a
  pub long : length mask ≡ size
  pub holds : (v : ℕ) → v < t → class points v ≡ a → in_mask mask v ≡ true
  pub only : (v : ℕ) → in_mask mask v ≡ true → (v < n) × (class points v ≡ a)

pub no_numbers : (size v : ℕ) → in_mask (zeros size) v ≡ false
unfolding in_mask
no_numbers size v = rw (zero_cells size (v / 64)) (one_past 0 0 (v % 64) (omega arith) (omega arith))

pub zeros_long : {size : ℕ} {mask : List ℕ} → mask ≡ zeros size → length mask ≡ size
zeros_long {size} e = ap length e ∙ length-replicate size 0

module _ {n : ℕ} {points : List ℕ} {a : ℕ} where
  pub gathering_start : {f size : ℕ} {mask : List ℕ} → mask ≡ zeros size → NextOf n (class points) a 0 f → Gathering n points a f size mask
  gathering_start {f} {size} {mask} e N = record {
    upto = N.inside;
    here = N.hit;
    long = zeros_long e;
    holds = λ v l s. absurd (N.none v (omega arith) l s);
    only = λ v m. false_true (no_numbers size v) (rw e at m);
  }

  pub gathering_more : {t f size : ℕ} {old new : List ℕ} → t < n → NextOf n (class points) (class points t) (t + 1) f → Gathering n points a t size old → Put old t new → Gathering n points a f size new
  gathering_more {t} {f} {size} {old} {new} h N G P = record {
    upto = N.inside;
    here = λ g. N.hit g ∙ G.here h;
    long = P.long ∙ G.long;
    holds = λ v l s. P.bits v ∙ held v l s (less_or_not v t);
    only = λ v m. ⊎_elim (G.only v) (λ e. let s = eqb-true v t e in rw s (h, G.here h)) (or_cases (in_mask old v) (v == t) (sym (P.bits v) ∙ m));
  }
    where
      held : (v : ℕ) → v < f → class points v ≡ a → (v < t) ⊎ (t ≤ v) → (in_mask old v || v == t) ≡ true
      held v l s (inl b) = rw (G.holds v b s)
      held v l s (inr b) =
          ⊎_elim (λ (e : v ≡ t). or_second (in_mask old v) (v == t) (eq-eqb v t e)) (λ (m : v ≢ t). absurd (N.none v (omega arith) l (s ∙ sym (G.here h)))) (same_or_not v t)

  pub gathering_done : {t size : ℕ} {mask : List ℕ} → n ≤ t → Gathering n points a t size mask → OwnMask n points a mask
  gathering_done h G = record { holds = λ v l. G.holds v (omega arith); only = G.only }

-- the pairs of the homes of class a that differ by their classes
abbrev pub ClassRows : ℕ → List ℕ → List ℕ → List ℕ → ℕ → ℕ → ℕ → Type 0
ClassRows n apart points heights a x y = (class points x ≡ a) × PointsDiffer n apart points heights x y

-- the row of i, if it is in class a: its pairs with the homes of a mask but itself
abbrev pub OwnRow : List ℕ → List ℕ → ℕ → ℕ → ℕ → ℕ → Type 0
OwnRow points mask a i x y = (class points i ≡ a) × MaskPair mask i i x y

module _ (n : ℕ) (apart points heights : List ℕ) (a : ℕ) (mask : List ℕ) (M : OwnMask n points a mask) where
  -- the homes of a differ from each other: no two of them are at one height
  pub own_differs : a < n → Unique n points heights → (x y : ℕ) → x < n → y < n → Upto n (OwnRow points mask a) x y → ClassRows n apart points heights a x y
  unfolding differ_by_classes
  own_differs h U x y hx hy (i, hi, (q, (s, (m, d)))) =
      let e : class points x ≡ a = rw s q in
      let c = (M.only y m).1 in
      let l : class points x < n = rw e h in
      let r = e ∙ sym c in
      (e, (l, (rw c h, or_second (is_set apart (class points x * n + class points y)) _ (parts_other (class points x) (height heights x) (class points y) (height heights y) r (λ t. d (sym (U.same x y hx hy l r t) ∙ s))))))

  pub other_own : (x y : ℕ) → x < n → y < n → class points x ≡ a → height_of_other (class points x) (height heights x) (class points y) (height heights y) ≡ true → Upto n (OwnRow points mask a) x y
  other_own x y hx hy e o =
      let r = other_parts (class points x) (height heights x) (class points y) (height heights y) o in
      (x, hx, (e, (refl, (M.holds y hy (sym r.0 ∙ e), λ s. r.1 (rw s)))))

  -- where no class is apart from a, no others differ from them
  pub own_class : {old new : List ℕ} → a < n → Unique n points heights → NoneApart n apart a → Adds n (Upto n (OwnRow points mask a)) old new → Adds n (ClassRows n apart points heights a) old new
  unfolding differ_by_classes
  own_class h U N A =
      adds_as n (Upto n (OwnRow points mask a)) (ClassRows n apart points heights a) A (own_differs h U)
      (λ x y hx hy (e, (l, (g, o))). ⊎_elim (λ t. false_true (rw e (N.none (class points y) g)) t) (other_own x y hx hy e) (or_cases (is_set apart (class points x * n + class points y)) _ o))

-- a class without homes
pub empty_class :
    (n : ℕ) (apart points heights : List ℕ) {a f : ℕ} (l : List ℕ) → n ≤ f → NextOf n (class points) a 0 f → Adds n (ClassRows n apart points heights a) l l
empty_class n apart points heights {a} {f} l h N = adds_already n (ClassRows n apart points heights a) l (λ x y hx hy (e, d). absurd (N.none x (omega arith) (omega arith) e))

-- each home is in a class
pub all_classes :
    (n : ℕ) (apart points heights : List ℕ) {old new : List ℕ} →
    Adds n (Upto n (ClassRows n apart points heights)) old new →
    Adds n (PointsDiffer n apart points heights) old new
all_classes n apart points heights A =
    adds_as n (Upto n (ClassRows n apart points heights)) (PointsDiffer n apart points heights) A
    (λ x y hx hy (a, ha, (e, d)). d)
    (λ x y hx hy d. (class points x, d.0, (refl, d)))
