-- The homes whose classes are apart from a class, as a mask.
use Rattle.std.specs.Prelude.{◌≡◌, ℕ, ◌+◌, ◌*◌, ◌/◌, ◌%◌, ◌<◌, ◌≤◌, Bool, true, false, not, ◌&&◌, ◌≢◌, ◌⊎◌, List, length, ◌==◌, nat_lt, slice_set, refl}
use Rattle.std.proofs.Common.{sym, ◌∙◌, ap, inl, inr, ⊎_elim, arith, length-set, eqb-true, eq-eqb, lt-ltb, ltb-true, ne_eqb}
use Rattle.lists.specs.Booleans.{and_true, false_true, or_cases, or_second}
use Rattle.lists.specs.Filled.{Filled, same_or_not}
use Rattle.outcome.specs.PairBits.{bit_value}
use Rattle.outcome.proofs.PairBits.{bit_value_below}
use Rattle.buckets.specs.Buckets.{Chainable, Chains, key_of, NextOf, less_or_not}
use Rattle.tables.specs.Limits.{most}
use Rattle.pairbits.specs.Bits.{is_set}
use Rattle.points.specs.Places.{class}
use Rattle.words.specs.Words.{Common, in_mask, is_bit_one, mask_others, mask_past, mask_stored, Put}
use Rattle.points.specs.Homes.{Unique}
use Rattle.marking.specs.Marks.{Adds, adds_then, Upto, zeros}
use Rattle.marking.specs.Classes.{differ_by_classes}
use Rattle.marking.specs.Rows.{Below, ClassRows, MaskPair, no_numbers, other_own, own_differs, OwnMask, OwnRow, zeros_long}

-- t is a home, of class a, that does not have the number of its class
unfoldable pub is_other : ℕ → ℕ → ℕ → Bool
is_other n a t = nat_lt a n && not (a == t)

abbrev pub key_of_other : ℕ → List ℕ → ℕ → ℕ
key_of_other n points t = bit_value (is_other n (class points t) t)

pub key_told : (n a t : ℕ) {x y : ℕ} {b : Bool} → x ≡ a → y ≡ a → (nat_lt x n && not (y == t)) ≡ b → bit_value b ≡ bit_value (is_other n a t)
unfolding is_other
key_told n a t e f h = sym (ap bit_value (rw (e, f) at h))

other_one : (n a t : ℕ) → a < n → a ≢ t → bit_value (is_other n a t) ≡ 1
unfolding is_other
other_one n a t h m = rw (lt-ltb a n h, ne_eqb a t m)

one_true : (b : Bool) → bit_value b ≡ 1 → b ≡ true
one_true true e = refl
one_true false e = absurd (omega arith)

pub one_below : (n a t : ℕ) → bit_value (is_other n a t) ≡ 1 → a < n
unfolding is_other
one_below n a t e = ltb-true a n (and_true (nat_lt a n) _ (one_true (nat_lt a n && not (a == t)) e)).0

-- the mask holds those before k that have the number of their class
pub record Selves (n k : ℕ) (points mask : List ℕ) : Type 0 where
  pub long : length mask ≡ 8
  pub upto : k ≤ n
  pub holds : (v : ℕ) → v < k → class points v ≡ v → in_mask mask v ≡ true
  pub only : (v : ℕ) → in_mask mask v ≡ true → (v < n) × (class points v ≡ v)

module _ {n : ℕ} {points : List ℕ} where
  pub selves_none : {mask : List ℕ} → mask ≡ zeros 8 → Selves n 0 points mask
  selves_none e = record {
    long = zeros_long e;
    upto = omega arith;
    holds = λ v h. absurd (omega arith);
    only = λ v m. false_true (no_numbers 8 v) (rw e at m);
  }

  pub selves_more : {k : ℕ} {old new : List ℕ} → k < n → class points k ≡ k → Selves n k points old → Put old k new → Selves n (k + 1) points new
  selves_more {k} {old} {new} h c S P = record {
    long = P.long ∙ S.long;
    upto = omega arith;
    holds = λ v l e. P.bits v ∙ ⊎_elim (λ (s : v ≡ k). or_second (in_mask old v) (v == k) (eq-eqb v k s)) (λ (m : v ≢ k). rw (S.holds v (omega arith) e)) (same_or_not v k);
    only = λ v m. ⊎_elim (S.only v) (λ e. let s = eqb-true v k e in rw s (h, c)) (or_cases (in_mask old v) (v == k) (sym (P.bits v) ∙ m));
  }

  pub selves_skip : {k : ℕ} {mask : List ℕ} → k < n → class points k ≢ k → Selves n k points mask → Selves n (k + 1) points mask
  selves_skip {k} h c S = record {
    long = S.long;
    upto = omega arith;
    holds = λ v l e. ⊎_elim (λ (s : v ≡ k). absurd (c (rw s at e))) (λ (m : v ≢ k). S.holds v (omega arith) e) (same_or_not v k);
    only = S.only;
  }

-- the homes in a mask, if they have the number of their class, and in a chain, if not
pub record Split (n : ℕ) (points selves others first next : List ℕ) : Type 0 where
  pub selves_are : Selves n n points selves
  pub others_are : (t : ℕ) → t < n → key_of others t ≡ key_of_other n points t
  pub chains : Chains n 2 others first next

pub others_chainable : (points : List ℕ) {n size : ℕ} {others next : List ℕ} → n ≤ most → n ≤ size → n ≤ length next → Filled (key_of_other n points) 0 n size others → Chainable n 2 others next
others_chainable points {n} few room long F = record {
  few = few;
  keys_long = omega (arith, F.long);
  links_long = long;
  below = λ t h. rw (F.done t h) (bit_value_below (is_other n (class points t) t));
}

-- the first k words of the mask hold the numbers of the other one whose bits are set from bit `start` on
pub record FarSelves (start : ℕ) (apart selves : List ℕ) (k : ℕ) (mask : List ℕ) : Type 0 where
  pub long : length mask ≡ 8
  pub holds : (v : ℕ) → v / 64 < k → is_set apart (start + v) ≡ true → in_mask selves v ≡ true → in_mask mask v ≡ true
  pub only : (v : ℕ) → v / 64 < k → in_mask mask v ≡ true → (is_set apart (start + v) ≡ true) × (in_mask selves v ≡ true)

pub far_none : {start : ℕ} {apart selves mask : List ℕ} → length mask ≡ 8 → FarSelves start apart selves 0 mask
far_none e = record { long = e; holds = λ v h. absurd (omega arith); only = λ v h. absurd (omega arith) }

pub far_more : {start k : ℕ} {apart selves mask : List ℕ} {x : ℕ} → k < 8 → FarSelves start apart selves k mask → Common start apart selves (64 * k) x → FarSelves start apart selves (k + 1) (slice_set mask k x)
far_more {start} {k} {apart} {selves} {mask} {x} h F C = record {
  long = length-set mask k x ∙ F.long;
  holds = λ v l s i. ⊎_elim (λ (e : v / 64 ≡ k). mask_stored mask k x v (omega (arith, F.long)) e ∙ new v e s i) (λ (m : v / 64 ≢ k). mask_others mask k x v m ∙ F.holds v (omega arith) s i) (same_or_not (v / 64) k);
  only = λ v l i. ⊎_elim (λ (e : v / 64 ≡ k). told v e (sym (mask_stored mask k x v (omega (arith, F.long)) e) ∙ i)) (λ (m : v / 64 ≢ k). F.only v (omega arith) (sym (mask_others mask k x v m) ∙ i)) (same_or_not (v / 64) k);
}
  where
    at_word : (v : ℕ) → v / 64 ≡ k → 64 * k + v % 64 ≡ v
    at_word v e = omega arith

    at_bit : (v : ℕ) → v / 64 ≡ k → start + 64 * k + v % 64 ≡ start + v
    at_bit v e = omega arith

    new : (v : ℕ) → v / 64 ≡ k → is_set apart (start + v) ≡ true → in_mask selves v ≡ true → is_bit_one x (v % 64) ≡ true
    new v e s i = C.all (v % 64) (omega arith) (rw (at_bit v e) s) (rw (at_word v e) i)

    told : (v : ℕ) → v / 64 ≡ k → is_bit_one x (v % 64) ≡ true → (is_set apart (start + v) ≡ true) × (in_mask selves v ≡ true)
    told v e o = let r = (C.both (v % 64) (omega arith) o).1 in (rw (at_bit v e) at r.0, rw (at_word v e) at r.1)

-- `new` is `old` with j in it, if b is true
pub record PutIf (b : Bool) (old : List ℕ) (j : ℕ) (new : List ℕ) : Type 0 where
  pub long : length new ≡ length old
  pub kept : (v : ℕ) → in_mask old v ≡ true → in_mask new v ≡ true
  pub added : b ≡ true → in_mask new j ≡ true
  pub only : (v : ℕ) → in_mask new v ≡ true → (in_mask old v ≡ true) ⊎ ((v ≡ j) × (b ≡ true))

pub put_yes : {b : Bool} {old : List ℕ} {j : ℕ} {new : List ℕ} → b ≡ true → Put old j new → PutIf b old j new
put_yes {b} {old} {j} {new} e P = record {
  long = P.long;
  kept = λ v i. P.bits v ∙ rw i;
  added = λ _. P.bits j ∙ or_second (in_mask old j) (j == j) (eq-eqb j j refl);
  only = λ v i. ⊎_elim inl (λ s. inr (eqb-true v j s, e)) (or_cases (in_mask old v) (v == j) (sym (P.bits v) ∙ i));
}

pub put_no : {b : Bool} (mask : List ℕ) (j : ℕ) → b ≡ false → PutIf b mask j mask
put_no mask j e = record { long = refl; kept = λ v i. i; added = λ f. false_true e f; only = λ v i. inl i }

-- v is a home whose class is apart from a
abbrev pub Away : ℕ → ℕ → List ℕ → List ℕ → ℕ → Type 0
Away n a apart points v = (v < n) × ((class points v < n) × (is_set apart (a * n + class points v) ≡ true))

-- `new` is `old` with the homes before t in it that do not have the number of their class and whose class is apart from a
pub record FarOthers (n a : ℕ) (apart points : List ℕ) (t : ℕ) (old new : List ℕ) : Type 0 where
  pub long : length new ≡ length old
  pub upto : t ≤ n
  pub here : t < n → key_of_other n points t ≡ 1
  pub kept : (v : ℕ) → in_mask old v ≡ true → in_mask new v ≡ true
  pub holds : (v : ℕ) → v < t → key_of_other n points v ≡ 1 → is_set apart (a * n + class points v) ≡ true → in_mask new v ≡ true
  pub only : (v : ℕ) → in_mask new v ≡ true → (in_mask old v ≡ true) ⊎ Away n a apart points v

module _ {n a : ℕ} {apart points selves others first next : List ℕ} (S : Split n points selves others first next) where
  pub others_start : (mask : List ℕ) {f : ℕ} → NextOf n (key_of others) 1 0 f → FarOthers n a apart points f mask mask
  others_start mask {f} N = record {
    long = refl;
    upto = N.inside;
    here = λ h. sym (S.others_are f h) ∙ N.hit h;
    kept = λ v i. i;
    holds = λ v l e s. absurd (N.none v (omega arith) l (S.others_are v (omega (arith, N.inside)) ∙ e));
    only = λ v i. inl i;
  }

  pub others_more : {t f : ℕ} {old mid new : List ℕ} → t < n → NextOf n (key_of others) (key_of others t) (t + 1) f → FarOthers n a apart points t old mid → PutIf (is_set apart (a * n + class points t)) mid t new → FarOthers n a apart points f old new
  others_more {t} {f} {old} {mid} {new} h N F P = record {
    long = P.long ∙ F.long;
    upto = N.inside;
    here = λ g. sym (S.others_are f g) ∙ N.hit g ∙ S.others_are t h ∙ F.here h;
    kept = λ v i. P.kept v (F.kept v i);
    holds = λ v l e s. held v l e s (less_or_not v t);
    only = λ v i. ⊎_elim (F.only v) (λ (e, s). inr (rw e (h, (one_below n (class points t) t (F.here h), s)))) (P.only v i);
  }
    where
      held : (v : ℕ) → v < f → key_of_other n points v ≡ 1 → is_set apart (a * n + class points v) ≡ true → (v < t) ⊎ (t ≤ v) → in_mask new v ≡ true
      held v l e s (inl b) = P.kept v (F.holds v b e s)
      held v l e s (inr b) =
          ⊎_elim (λ (q : v ≡ t). rw q (P.added (rw q at s)))
          (λ (m : v ≢ t). absurd (N.none v (omega arith) l (S.others_are v (omega (arith, N.inside)) ∙ e ∙ sym (S.others_are t h ∙ F.here h))))
          (same_or_not v t)

-- the mask holds the homes whose classes are apart from a, and no others
pub record FarMask (n : ℕ) (apart points : List ℕ) (a : ℕ) (mask : List ℕ) : Type 0 where
  pub holds : (v : ℕ) → Away n a apart points v → in_mask mask v ≡ true
  pub only : (v : ℕ) → in_mask mask v ≡ true → Away n a apart points v

pub far_below : {n a : ℕ} {apart points mask : List ℕ} → FarMask n apart points a mask → Below n mask
far_below M = record { below = λ v e. (M.only v e).0 }

pub others_done : {n a : ℕ} {apart points : List ℕ} {t : ℕ} {old new : List ℕ} → n ≤ t → FarOthers n a apart points t old new → FarOthers n a apart points n old new
others_done {n} {a} {apart} {points} {t} h F = let e : t ≡ n = omega (arith, F.upto) in rw e at F

pub far_all :
    (n a : ℕ) (apart points : List ℕ) {selves others first next mid new : List ℕ} → n ≤ 512 → Split n points selves others first next →
    FarSelves (a * n) apart selves 8 mid → FarOthers n a apart points n mid new → FarMask n apart points a new
far_all n a apart points {selves} {mid = mid} {new = new} few S F O = record { holds = λ v (h, (l, s)). held v h l s; only = λ v i. ⊎_elim (told v) (λ r. r) (O.only v i) }
  where
    held : (v : ℕ) → v < n → class points v < n → is_set apart (a * n + class points v) ≡ true → in_mask new v ≡ true
    held v h l s =
        ⊎_elim
        (λ (e : class points v ≡ v). O.kept v (F.holds v (omega arith) (rw e at s) (S.selves_are.holds v h e)))
        (λ (m : class points v ≢ v). O.holds v h (other_one n (class points v) v l m) s)
        (same_or_not (class points v) v)

    self : (v : ℕ) → v / 64 < 8 → in_mask mid v ≡ true → Away n a apart points v
    self v b i =
        let r = F.only v b i in
        let q = S.selves_are.only v r.1 in
        (q.0, (rw q.1 q.0, rw q.1 r.0))

    told : (v : ℕ) → in_mask mid v ≡ true → Away n a apart points v
    told v i = ⊎_elim (λ b. self v b i) (λ b. false_true (mask_past mid v (omega (arith, F.long))) i) (less_or_not (v / 64) 8)

-- the row of i, if it is in class a: its pairs with the homes of a mask
abbrev pub FarRow : ℕ → List ℕ → List ℕ → ℕ → ℕ → ℕ → ℕ → Type 0
FarRow n points mask a i x y = (class points i ≡ a) × MaskPair mask i n x y

-- homes that differ by their classes are in one class, at different heights, or in classes that are apart
pub class_marked :
    (n : ℕ) (apart points heights : List ℕ) (a : ℕ) (own far : List ℕ) {old mid new : List ℕ} → a < n → Unique n points heights → OwnMask n points a own → FarMask n apart points a far →
    Adds n (Upto n (OwnRow points own a)) old mid → Adds n (Upto n (FarRow n points far a)) mid new → Adds n (ClassRows n apart points heights a) old new
unfolding differ_by_classes
class_marked n apart points heights a own far h U M F A B =
    adds_then n (Upto n (OwnRow points own a)) (Upto n (FarRow n points far a)) (ClassRows n apart points heights a) A B
    (λ x y hx hy (e, (l, (g, o))). ⊎_elim (λ s. inr (x, hx, (e, (refl, (F.holds y (hy, (g, rw e at s)), λ q. absurd (omega arith)))))) (λ s. inl (other_own n apart points heights a own M x y hx hy e s)) (or_cases (is_set apart (class points x * n + class points y)) _ o))
    (own_differs n apart points heights a own M h U)
    (λ x y hx hy (i, hi, (q, (s, (m, d)))). away x y (rw s q) (F.only y m))
  where
    away : (x y : ℕ) → class points x ≡ a → Away n a apart points y → ClassRows n apart points heights a x y
    away x y e (hy, (g, s)) = (e, (rw e h, (g, rw (ap (λ (c : ℕ). is_set apart (c * n + class points y)) e, s))))
