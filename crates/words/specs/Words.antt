-- Words of a byte table: numbers by their bits, and runs of bytes that a number spells.
use Rattle.std.specs.Prelude.{ℕ, ◌+◌, ◌*◌, ◌/◌, ◌%◌, ◌^◌, ◌<◌, ◌≤◌, ◌-◌, max, min, ◌≡◌, refl, ◌≢◌, ◌⊎◌, Bool, true, false, not, ◌&&◌, ◌||◌, List, eqb, leb, ltb, length, get_or, set}
use Rattle.std.proofs.Common.{sym, ◌∙◌, ap, inl, inr, ⊎_elim, mul-le-mul_right, mod-lt, length-set, shl_exact, shr-shr, pow_pos, pow-add, get_or-set_same, get_or-set_other, eqb-true, eq-eqb, ne_eqb, ltb-true, ltb-false, leb-true, leb-false, le-leb}
use Rattle.std.proofs.Math.Nat.{zero-div, div-eq_of_lt}
use native.Mathlib.Omega.{arith}
use Rattle.std.specs.Int.Bits.{bit_or, bit_and, bit_xor, or_step, and_step, xor_step, or_shifted_r}
use Rattle.std.proofs.lemmas.Nat.{or_shr, and_shr, xor_shr, or_lt, and_mask, shr_le}
use Rattle.std.proofs.Math.ListN.{get_or-eq_default}
use Rattle.std.proofs.Math.Pow.{high, low, field, mod-mod-pow}
use Rattle.std.proofs.lemmas.Bool.{eqb-false}
use Rattle.lists.specs.Booleans.{and_true, false_true, or_cases, or_second}
use Rattle.lists.specs.Filled.{same_or_not}
use Rattle.outcome.specs.PairBits.{bit_of, bit_value}
use Rattle.outcome.proofs.PairBits.{bit_value_below}
use Rattle.pairbits.specs.Bits.{is_set, is_set_same, with_bit, is_set_with_bit, length_with_bit, Bytes, bytes_with_bit}

-- bit b of a number is 1
unfoldable pub is_bit_one : ℕ → ℕ → Bool
is_bit_one x b = eqb (x / 2 ^ b % 2) 1

-- a bit of a table is one of its byte
pub set_one : (l : List ℕ) (k : ℕ) → is_set l k ≡ is_bit_one (get_or l (k / 8) 0) (k % 8)
unfolding is_set bit_of is_bit_one
set_one l k = refl

-- a number below 2 is told by whether it is 1
is_one : (x : ℕ) → eqb x 1 ≡ true → x ≡ 1
is_one x e = eqb-true x 1 e

is_zero : (x : ℕ) → x < 2 → eqb x 1 ≡ false → x ≡ 0
is_zero x h e = let n = eqb-false x 1 e in omega arith

module _ (x y : ℕ) (hx : x < 2) (hy : y < 2) where
  one_max : eqb (max x y) 1 ≡ (eqb x 1 || eqb y 1)
  one_max = go (eqb x 1) (eqb y 1) refl refl
    where
      go : (s t : Bool) → eqb x 1 ≡ s → eqb y 1 ≡ t → eqb (max x y) 1 ≡ (s || t)
      go true true e f = rw (is_one x e, is_one y f) refl
      go true false e f = rw (is_one x e, is_zero y hy f) refl
      go false true e f = rw (is_zero x hx e, is_one y f) refl
      go false false e f = rw (is_zero x hx e, is_zero y hy f) refl

  one_min : eqb (min x y) 1 ≡ (eqb x 1 && eqb y 1)
  one_min = go (eqb x 1) (eqb y 1) refl refl
    where
      go : (s t : Bool) → eqb x 1 ≡ s → eqb y 1 ≡ t → eqb (min x y) 1 ≡ (s && t)
      go true true e f = rw (is_one x e, is_one y f) refl
      go true false e f = rw (is_one x e, is_zero y hy f) refl
      go false true e f = rw (is_zero x hx e, is_one y f) refl
      go false false e f = rw (is_zero x hx e, is_zero y hy f) refl

pub one_or : (x y b : ℕ) → is_bit_one (bit_or x y) b ≡ (is_bit_one x b || is_bit_one y b)
unfolding is_bit_one
one_or x y b =
    let e : bit_or x y / 2 ^ b % 2 ≡ max (x / 2 ^ b % 2) (y / 2 ^ b % 2) = rw (or_shr x y b) (omega (arith, or_step (x / 2 ^ b) (y / 2 ^ b))) in
    rw e (one_max (x / 2 ^ b % 2) (y / 2 ^ b % 2) (omega arith) (omega arith))

pub one_and : (x y b : ℕ) → is_bit_one (bit_and x y) b ≡ (is_bit_one x b && is_bit_one y b)
unfolding is_bit_one
one_and x y b =
    let e : bit_and x y / 2 ^ b % 2 ≡ min (x / 2 ^ b % 2) (y / 2 ^ b % 2) = rw (and_shr x y b) (omega (arith, and_step (x / 2 ^ b) (y / 2 ^ b))) in
    rw e (one_min (x / 2 ^ b % 2) (y / 2 ^ b % 2) (omega arith) (omega arith))

-- where the first number has a 1
one_xor : (x y b : ℕ) → is_bit_one x b ≡ true → is_bit_one (bit_xor x y) b ≡ not (is_bit_one y b)
unfolding is_bit_one
one_xor x y b h = go (eqb (Y % 2) 1) refl
  where
    X : ℕ
    X = x / 2 ^ b

    Y : ℕ
    Y = y / 2 ^ b

    go : (t : Bool) → eqb (Y % 2) 1 ≡ t → eqb (bit_xor x y / 2 ^ b % 2) 1 ≡ not t
    go true f =
        let s : bit_xor X Y ≡ bit_xor (X / 2) (Y / 2) * 2 + 0 = rw (is_one (X % 2) h, is_one (Y % 2) f) at (xor_step X Y) in
        let e : bit_xor x y / 2 ^ b % 2 ≡ 0 = rw (xor_shr x y b) (omega (arith, s)) in
        rw e
    go false f =
        let s : bit_xor X Y ≡ bit_xor (X / 2) (Y / 2) * 2 + 1 = rw (is_one (X % 2) h, is_zero (Y % 2) (omega arith) f) at (xor_step X Y) in
        let e : bit_xor x y / 2 ^ b % 2 ≡ 1 = rw (xor_shr x y b) (omega (arith, s)) in
        rw e

-- shifted down
pub one_down : (x s b : ℕ) → is_bit_one (x / 2 ^ s) b ≡ is_bit_one x (s + b)
unfolding is_bit_one
one_down x s b = rw (shr-shr x s b)

-- the low bits of a number
pub one_mod : (x w b : ℕ) → b < w → is_bit_one (x % 2 ^ w) b ≡ is_bit_one x b
unfolding is_bit_one
one_mod x w b h =
    let s : w ≡ (w - (1 + b)) + (1 + b) = omega arith in
    let m : x % 2 ^ w % 2 ^ (1 + b) ≡ x % 2 ^ (1 + b) = rw s (mod-mod-pow x (w - (1 + b)) (1 + b)) in
    let e : x % 2 ^ w / 2 ^ b % 2 ≡ x / 2 ^ b % 2 = sym (field (x % 2 ^ w) 1 b) ∙ (rw m (field x 1 b)) in
    rw e

or_none : (t : Bool) → (t || false) ≡ t
or_none true = refl
or_none false = refl

-- a low part, and a high part
pub one_low : (x y w b : ℕ) → x < 2 ^ w → b < w → is_bit_one (y * 2 ^ w + x) b ≡ is_bit_one x b
one_low x y w b h g = sym (one_mod (y * 2 ^ w + x) w b g) ∙ rw (low y w h)

pub one_high : (x y w b : ℕ) → x < 2 ^ w → is_bit_one (y * 2 ^ w + x) (w + b) ≡ is_bit_one y b
unfolding is_bit_one
one_high x y w b h = rw (← shr-shr (y * 2 ^ w + x) w b, high y w h)

-- a bit past those of a number
pub one_past : (x w b : ℕ) → x < 2 ^ w → w ≤ b → is_bit_one x b ≡ false
unfolding is_bit_one
one_past x w b h g =
    let z : x / 2 ^ w ≡ 0 = div-eq_of_lt h in
    let s : w + (b - w) ≡ b = omega arith in
    let e : x / 2 ^ b ≡ 0 = ap (λ (k : ℕ). x / 2 ^ k) (sym s) ∙ (sym (shr-shr x w (b - w)) ∙ rw z (zero-div (2 ^ (b - w)))) in
    rw e

-- shifted up, by less than there are bits
pub one_up : (x w s b : ℕ) → b < w → is_bit_one (x * 2 ^ s % 2 ^ w) b ≡ (leb s b && is_bit_one x (b - s))
one_up x w s b h = one_mod (x * 2 ^ s) w b h ∙ go (leb s b) refl
  where
    z : x * 2 ^ s + 0 ≡ x * 2 ^ s
    z = omega arith

    go : (t : Bool) → leb s b ≡ t → is_bit_one (x * 2 ^ s) b ≡ (t && is_bit_one x (b - s))
    go true e = let g = leb-true s b e in let k : s + (b - s) ≡ b = omega arith in rw (z, k) at (one_high 0 x s (b - s) (pow_pos s))
    go false e = let g = leb-false s b e in (rw z at (one_low 0 x s b (pow_pos s) (omega arith))) ∙ one_past 0 0 b (omega arith) (omega arith)

-- the w bits of a table from bit `at` on are those of the number x, lowest first
pub record Spells (l : List ℕ) (at w x : ℕ) : Type 0 where
  pub below : x < 2 ^ w
  pub bits : (b : ℕ) → b < w → is_bit_one x b ≡ is_set l (at + b)

pub spells_none : (l : List ℕ) (at : ℕ) → Spells l at 0 0
spells_none l at = record { below = omega arith; bits = λ b h. absurd (omega arith) }

pub spells_byte : (l : List ℕ) (k : ℕ) → get_or l k 0 < 256 → Spells l (8 * k) 8 (get_or l k 0)
spells_byte l k h = record {
  below = h;
  bits = λ b g.
      let q : (8 * k + b) / 8 ≡ k = omega arith in
      let r : (8 * k + b) % 8 ≡ b = omega arith in
      sym (set_one l (8 * k + b) ∙ rw (q, r));
}

-- two runs of bits, one behind the other
pub spells_both : {l : List ℕ} {at w v x y : ℕ} → Spells l at w x → Spells l (at + w) v y → Spells l at (w + v) (y * 2 ^ w + x)
spells_both {l} {at} {w} {v} {x} {y} p q = record {
  below = let a = mul-le-mul_right (2 ^ w) q.below in omega (arith, p.below, pow-add 2 w v);
  bits = λ b h. go b h (ltb b w) refl;
}
  where
    go : (b : ℕ) → b < w + v → (t : Bool) → ltb b w ≡ t → is_bit_one (y * 2 ^ w + x) b ≡ is_set l (at + b)
    go b h true e = let g = ltb-true b w e in one_low x y w b p.below g ∙ p.bits b g
    go b h false e =
        let g = ltb-false b w e in
        let s : w + (b - w) ≡ b = omega arith in
        let z : at + w + (b - w) ≡ at + b = omega arith in
        rw (s, z) at (one_high x y w (b - w) p.below ∙ q.bits (b - w) (omega arith))

-- two runs of v bytes
pub spells_halves : (v k : ℕ) {l : List ℕ} {x y : ℕ} → Spells l (8 * k) (8 * v) x → Spells l (8 * (k + v)) (8 * v) y → Spells l (8 * k) (8 * v + 8 * v) (y * 2 ^ (8 * v) + x)
spells_halves v k p q = let e : 8 * (k + v) ≡ 8 * k + 8 * v = omega arith in spells_both p (rw e at q)

pub spells_bit : (l : List ℕ) (at : ℕ) → Spells l at 1 (bit_value (is_set l at))
unfolding is_bit_one
spells_bit l at = record { below = bit_value_below (is_set l at); bits = λ b h. let z : b ≡ 0 = omega arith in let a : at + 0 ≡ at = omega arith in rw (z, a) (value (is_set l at)) }
  where
    value : (t : Bool) → is_bit_one (bit_value t) 0 ≡ t
    value true = refl
    value false = refl

-- a further bit
pub spells_more : {l : List ℕ} {at w x y : ℕ} → Spells l at w x → y ≡ bit_value (is_set l (at + w)) → w < 64 → Spells l at (w + 1) (bit_or x (y * 2 ^ w % 2 ^ 64))
spells_more {l} {at} {w} {x} {y} p e h =
    let b : y < 2 = rw e (bit_value_below (is_set l (at + w))) in
    let s : y * 2 ^ w % 2 ^ 64 ≡ y * 2 ^ w = shl_exact {a = y} 1 w 64 b (omega arith) in
    rw (s, or_shifted_r y w x p.below) (spells_both p (rw (← e) at (spells_bit l (at + w))))

-- a word that starts inside a byte: the rest of eight bytes, and the start of the next one
pub spells_inside :
    (k s : ℕ) {l : List ℕ} {x y : ℕ} → 0 < s → s < 8 → Spells l (8 * k) 64 x → Spells l (8 * (k + 8)) 8 y →
    Spells l (8 * k + s) 64 (bit_or (x / 2 ^ s) (y * 2 ^ (64 - s) % 2 ^ 64))
spells_inside k s {l} {x} {y} p h S N = record {
  below = or_lt 64 (x / 2 ^ s) _ (let a = S.below in omega (arith, shr_le x s)) (mod-lt (y * 2 ^ (64 - s)) (pow_pos 64));
  bits = λ b hb. one_or (x / 2 ^ s) _ b ∙ go b hb (leb (64 - s) b) refl;
}
  where
    go : (b : ℕ) → b < 64 → (t : Bool) → leb (64 - s) b ≡ t → (is_bit_one (x / 2 ^ s) b || is_bit_one (y * 2 ^ (64 - s) % 2 ^ 64) b) ≡ is_set l (8 * k + s + b)
    go b hb true e =
        let u = leb-true (64 - s) b e in
        let z : 8 * (k + 8) + (b - (64 - s)) ≡ 8 * k + s + b = omega arith in
        rw (one_down x s b, one_past x 64 (s + b) S.below (omega arith), one_up y 64 (64 - s) b hb, e, N.bits (b - (64 - s)) (omega arith), z) refl
    go b hb false e =
        let u = leb-false (64 - s) b e in
        let z : 8 * k + (s + b) ≡ 8 * k + s + b = omega arith in
        rw (one_down x s b, S.bits (s + b) (omega arith), z, one_up y 64 (64 - s) b hb, e) (or_none (is_set l (8 * k + s + b)))

-- `new` is `old` with the bits of x set from bit `at` on, as far as the table reaches
pub record Ored (old : List ℕ) (at w x : ℕ) (new : List ℕ) : Type 0 where
  pub long : length new ≡ length old
  pub bytes : Bytes old → Bytes new
  pub kept : (i : ℕ) → is_set old i ≡ true → is_set new i ≡ true
  pub added : (b : ℕ) → b < w → is_bit_one x b ≡ true → (at + b) / 8 < length old → is_set new (at + b) ≡ true
  pub only : (i : ℕ) → is_set new i ≡ true → (is_set old i ≡ true) ⊎ ((b : ℕ) × (b < w) × (i ≡ at + b) × (is_bit_one x b ≡ true))

pub ored_none : (l : List ℕ) (at x : ℕ) → Ored l at 0 x l
ored_none l at x = record { long = refl; bytes = λ h. h; kept = λ i e. e; added = λ b h. absurd (omega arith); only = λ i e. inl e }

-- one bit more
pub ored_bit : {old mid : List ℕ} {at w x : ℕ} → Ored old at w x mid → (at + w) / 8 < length mid → is_bit_one x w ≡ true → Ored old at (w + 1) x (with_bit mid (at + w))
ored_bit {old} {mid} {at} {w} {x} p h e = record {
  long = length_with_bit mid (at + w) ∙ p.long;
  bytes = λ a. bytes_with_bit mid (at + w) (p.bytes a);
  kept = λ i o. rw (is_set_with_bit mid (at + w) i h) (or_second (eqb i (at + w)) (is_set mid i) (p.kept i o));
  added = λ b hb o r.
      ⊎_elim
      (λ (s : b ≡ w). rw (s, is_set_with_bit mid (at + w) (at + w) h, eq-eqb (at + w) (at + w) refl))
      (λ (m : b ≢ w). rw (is_set_with_bit mid (at + w) (at + b) h) (or_second (eqb (at + b) (at + w)) (is_set mid (at + b)) (p.added b (omega arith) o r)))
      (same_or_not b w);
  only = λ i o.
      ⊎_elim
      (λ f. inr (w, omega arith, eqb-true i (at + w) f, e))
      (λ f. ⊎_elim inl (λ (b, hb, r, o). inr (b, omega arith, r, o)) (p.only i f))
      (or_cases (eqb i (at + w)) (is_set mid i) (rw (is_set_with_bit mid (at + w) i h) at o));
}

pub ored_skip : {old mid : List ℕ} {at w x : ℕ} → Ored old at w x mid → (is_bit_one x w ≡ true → (at + w) / 8 < length old → ⊥) → Ored old at (w + 1) x mid
ored_skip {old} {mid} {at} {w} {x} p past = record {
  long = p.long;
  bytes = p.bytes;
  kept = p.kept;
  added = λ b h e r. ⊎_elim (λ (s : b ≡ w). absurd (past (rw s at e) (rw s at r))) (λ (m : b ≢ w). p.added b (omega arith) e r) (same_or_not b w);
  only = λ i e. ⊎_elim inl (λ (b, h, r, o). inr (b, omega arith, r, o)) (p.only i e);
}

-- the lowest bit alone
module _ (l : List ℕ) (at x : ℕ) where
  lowest : is_bit_one x 0 ≡ eqb (x % 2) 1
  unfolding is_bit_one
  lowest = let e : x / 1 % 2 ≡ x % 2 = omega arith in rw e

  z : at + 0 ≡ at
  z = omega arith

  pub ored_even : x % 2 ≡ 0 → Ored l at 1 x l
  ored_even e = ored_skip (ored_none l at x) (λ o _. false_true (lowest ∙ rw e) o)

  pub ored_past : length l ≤ at / 8 → Ored l at 1 x l
  ored_past h = ored_skip (ored_none l at x) (λ _ r. let g : at / 8 < length l = rw z at r in omega arith)

  pub ored_odd : x % 2 ≢ 0 → at / 8 < length l → Ored l at 1 x (with_bit l at)
  ored_odd m h =
      let o : x % 2 ≡ 1 = omega arith in
      rw z at (ored_bit (ored_none l at x) (rw z h) (lowest ∙ rw o))

-- a byte with the bits of another set
pub ored_byte : (l : List ℕ) (k x : ℕ) → k < length l → x < 256 → Ored l (8 * k) 8 x (set l k (bit_or (get_or l k 0) x))
ored_byte l k x h hx = record {
  long = length-set l k _;
  bytes = λ a. record { byte = λ j. below a j (eqb j k) refl };
  kept = λ i e. here i (eqb (i / 8) k) refl e;
  added = λ b hb e r.
      let q : (8 * k + b) / 8 ≡ k = omega arith in
      let m : (8 * k + b) % 8 ≡ b = omega arith in
      rw (set_one new (8 * k + b), q, m, get_or-set_same l k _ 0 h, one_or (get_or l k 0) x b, e) (or_all (is_bit_one (get_or l k 0) b));
  only = λ i e. from i (eqb (i / 8) k) refl e;
}
  where
    new : List ℕ
    new = set l k (bit_or (get_or l k 0) x)

    or_all : (t : Bool) → (t || true) ≡ true
    or_all true = refl
    or_all false = refl

    below : Bytes l → (j : ℕ) (t : Bool) → eqb j k ≡ t → get_or new j 0 < 256
    below a j true e = rw (eqb-true j k e, get_or-set_same l k (bit_or (get_or l k 0) x) 0 h) (or_lt 8 (get_or l k 0) x (a.byte k) hx)
    below a j false e = rw (get_or-set_other l k j (bit_or (get_or l k 0) x) 0 (eqb-false j k e)) (a.byte j)

    here : (i : ℕ) (t : Bool) → eqb (i / 8) k ≡ t → is_set l i ≡ true → is_set new i ≡ true
    here i true e f =
        let s = eqb-true (i / 8) k e in
        let g : is_bit_one (get_or l k 0) (i % 8) ≡ true = rw s at (sym (set_one l i) ∙ f) in
        rw (set_one new i, s, get_or-set_same l k (bit_or (get_or l k 0) x) 0 h, one_or (get_or l k 0) x (i % 8), g)
    here i false e f = is_set_same new l i (get_or-set_other l k (i / 8) (bit_or (get_or l k 0) x) 0 (eqb-false (i / 8) k e)) ∙ f

    from : (i : ℕ) (t : Bool) → eqb (i / 8) k ≡ t → is_set new i ≡ true → (is_set l i ≡ true) ⊎ ((b : ℕ) × (b < 8) × (i ≡ 8 * k + b) × (is_bit_one x b ≡ true))
    from i true e f =
        let s = eqb-true (i / 8) k e in
        ⊎_elim
        (λ o. inl (set_one l i ∙ rw s o))
        (λ o. inr (i % 8, omega arith, omega arith, o))
        (or_cases (is_bit_one (get_or l k 0) (i % 8)) (is_bit_one x (i % 8)) (rw (set_one new i, s, get_or-set_same l k (bit_or (get_or l k 0) x) 0 h, one_or (get_or l k 0) x (i % 8)) at f))
    from i false e f = inl (sym (is_set_same new l i (get_or-set_other l k (i / 8) (bit_or (get_or l k 0) x) 0 (eqb-false (i / 8) k e))) ∙ f)

-- the bits of a number past the width do not count
pub ored_low : {old new : List ℕ} {at w x : ℕ} → Ored old at w (x % 2 ^ w) new → Ored old at w x new
ored_low {w = w} {x = x} p = record {
  long = p.long;
  bytes = p.bytes;
  kept = p.kept;
  added = λ b h e r. p.added b h (one_mod x w b h ∙ e) r;
  only = λ i e. ⊎_elim inl (λ (b, h, s, f). inr (b, h, s, sym (one_mod x w b h) ∙ f)) (p.only i e);
}

-- two parts of a number, one behind the other
pub ored_both : {old mid new : List ℕ} {at w v x : ℕ} → Ored old at w x mid → Ored mid (at + w) v (x / 2 ^ w) new → Ored old at (w + v) x new
ored_both {old} {mid} {new} {at} {w} {v} {x} p q = record {
  long = q.long ∙ p.long;
  bytes = λ a. q.bytes (p.bytes a);
  kept = λ i e. q.kept i (p.kept i e);
  added = λ b h e r. add b h e r (ltb b w) refl;
  only = λ i e.
      ⊎_elim
      (λ o. ⊎_elim inl (λ (b, hb, s, f). inr (b, omega arith, s, f)) (p.only i o))
      (λ (b, hb, s, f). inr (w + b, omega arith, (let z : at + w + b ≡ at + (w + b) = omega arith in s ∙ z), sym (one_down x w b) ∙ f))
      (q.only i e);
}
  where
    add : (b : ℕ) → b < w + v → is_bit_one x b ≡ true → (at + b) / 8 < length old → (t : Bool) → ltb b w ≡ t → is_set new (at + b) ≡ true
    add b h e r true t = let g = ltb-true b w t in q.kept (at + b) (p.added b g e r)
    add b h e r false t =
        let g = ltb-false b w t in
        let s : w + (b - w) ≡ b = omega arith in
        let z : at + w + (b - w) ≡ at + b = omega arith in
        rw z at (q.added (b - w) (omega arith) (one_down x w (b - w) ∙ (rw s e)) (rw (z, p.long) r))

-- two parts of v bytes
pub ored_halves : (v k : ℕ) {old mid new : List ℕ} {x : ℕ} → Ored old (8 * k) (8 * v) x mid → Ored mid (8 * (k + v)) (8 * v) (x / 2 ^ (8 * v)) new → Ored old (8 * k) (8 * v + 8 * v) x new
ored_halves v k p q = let e : 8 * (k + v) ≡ 8 * k + 8 * v = omega arith in ored_both p (rw e at q)

-- a word that starts inside a byte: its low bits into eight bytes, the others into the next one
pub ored_inside :
    {old mid new : List ℕ} (k s x : ℕ) → 0 < s → s < 8 → Ored old (8 * k) 64 (x * 2 ^ s % 2 ^ 64) mid → Ored mid (8 * (k + 8)) 8 (x / 2 ^ (64 - s)) new → x < 2 ^ 64 →
    Ored old (8 * k + s) 64 x new
ored_inside {old} {mid} {new} k s x p h A B hx = record {
  long = B.long ∙ A.long;
  bytes = λ a. B.bytes (A.bytes a);
  kept = λ i e. B.kept i (A.kept i e);
  added = λ b hb e r. add b hb e r (ltb (s + b) 64) refl;
  only = λ i e.
      ⊎_elim
      (λ o. ⊎_elim inl (λ (b, hb, z, f). inr (low_bit i b hb z (rw (one_up x 64 s b hb) at f))) (A.only i o))
      (λ (b, hb, z, f). inr (high_bit i b hb z f))
      (B.only i e);
}
  where
    add : (b : ℕ) → b < 64 → is_bit_one x b ≡ true → (8 * k + s + b) / 8 < length old → (t : Bool) → ltb (s + b) 64 ≡ t → is_set new (8 * k + s + b) ≡ true
    add b hb e r true t =
        let g = ltb-true (s + b) 64 t in
        let z : 8 * k + (s + b) ≡ 8 * k + s + b = omega arith in
        let m : s + b - s ≡ b = omega arith in
        B.kept (8 * k + s + b) (rw z at (A.added (s + b) g (one_up x 64 s (s + b) g ∙ rw (le-leb s (s + b) (omega arith), m) e) (rw z r)))
    add b hb e r false t =
        let g = ltb-false (s + b) 64 t in
        let z : 8 * (k + 8) + (s + b - 64) ≡ 8 * k + s + b = omega arith in
        let m : 64 - s + (s + b - 64) ≡ b = omega arith in
        rw z at (B.added (s + b - 64) (omega arith) (one_down x (64 - s) (s + b - 64) ∙ rw m e) (rw (z, A.long) r))

    low_bit : (i b : ℕ) → b < 64 → i ≡ 8 * k + b → (leb s b && is_bit_one x (b - s)) ≡ true → (c : ℕ) × (c < 64) × (i ≡ 8 * k + s + c) × (is_bit_one x c ≡ true)
    low_bit i b hb z f = let r = and_true (leb s b) _ f in let g = leb-true s b r.0 in (b - s, omega arith, omega arith, r.1)

    high_bit : (i b : ℕ) → b < 8 → i ≡ 8 * (k + 8) + b → is_bit_one (x / 2 ^ (64 - s)) b ≡ true → (c : ℕ) × (c < 64) × (i ≡ 8 * k + s + c) × (is_bit_one x c ≡ true)
    high_bit i b hb z f =
        let e : is_bit_one x (64 - s + b) ≡ true = sym (one_down x (64 - s) b) ∙ f in
        (64 - s + b, inside e (ltb (64 - s + b) 64) refl, omega arith, e)
      where
        inside : is_bit_one x (64 - s + b) ≡ true → (t : Bool) → ltb (64 - s + b) 64 ≡ t → 64 - s + b < 64
        inside e true t = ltb-true (64 - s + b) 64 t
        inside e false t = false_true (one_past x 64 (64 - s + b) hx (ltb-false (64 - s + b) 64 t)) e

-- bit j of a mask, a list of words
unfoldable pub in_mask : List ℕ → ℕ → Bool
in_mask mask j = is_bit_one (get_or mask (j / 64) 0) (j % 64)

one_bit : (s b : ℕ) → s < 64 → b < 64 → is_bit_one (1 * 2 ^ s % 2 ^ 64) b ≡ eqb b s
unfolding is_bit_one
one_bit s b hs hb = one_up 1 64 s b hb ∙ go (leb s b) (eqb b s) refl refl
  where
    unit : (c : ℕ) → is_bit_one 1 c ≡ eqb c 0
    unit c = at_zero c (eqb c 0) refl
      where
        at_zero : (c : ℕ) (t : Bool) → eqb c 0 ≡ t → is_bit_one 1 c ≡ t
        at_zero c true e = rw (eqb-true c 0 e)
        at_zero c false e = let m = eqb-false c 0 e in one_past 1 1 c (omega arith) (omega arith)

    go : (t u : Bool) → leb s b ≡ t → eqb b s ≡ u → (t && is_bit_one 1 (b - s)) ≡ u
    go true true e f = let m = eqb-true b s f in rw (unit (b - s), eq-eqb (b - s) 0 (omega arith))
    go true false e f = let m = eqb-false b s f in let g = leb-true s b e in rw (unit (b - s)) (ne_eqb (b - s) 0 (λ z. m (omega arith)))
    go false true e f = let m = eqb-true b s f in let g = leb-false s b e in absurd (omega arith)
    go false false e f = refl

-- one bit more in a mask
pub mask_more : (mask : List ℕ) (j v : ℕ) → j / 64 < length mask → in_mask (set mask (j / 64) (bit_or (get_or mask (j / 64) 0) (1 * 2 ^ (j % 64) % 2 ^ 64))) v ≡ (in_mask mask v || eqb v j)
unfolding in_mask
mask_more mask j v h = go (eqb (v / 64) (j / 64)) refl
  where
    x : ℕ
    x = bit_or (get_or mask (j / 64) 0) (1 * 2 ^ (j % 64) % 2 ^ 64)

    same : v / 64 ≡ j / 64 → (t : Bool) → eqb (v % 64) (j % 64) ≡ t → eqb v j ≡ t
    same s true e = eq-eqb v j (omega (arith, eqb-true (v % 64) (j % 64) e))
    same s false e = let n = eqb-false (v % 64) (j % 64) e in ne_eqb v j (λ f. n (ap (λ (x : ℕ). x % 64) f))

    go : (t : Bool) → eqb (v / 64) (j / 64) ≡ t → is_bit_one (get_or (set mask (j / 64) x) (v / 64) 0) (v % 64) ≡ (is_bit_one (get_or mask (v / 64) 0) (v % 64) || eqb v j)
    go true e =
        let s = eqb-true (v / 64) (j / 64) e in
        rw (s, get_or-set_same mask (j / 64) x 0 h, one_or (get_or mask (j / 64) 0) (1 * 2 ^ (j % 64) % 2 ^ 64) (v % 64), one_bit (j % 64) (v % 64) (omega arith) (omega arith), same s (eqb (v % 64) (j % 64)) refl) refl
    go false e =
        let n = eqb-false (v / 64) (j / 64) e in
        rw (get_or-set_other mask (j / 64) (v / 64) x 0 n, ne_eqb v j (λ f. n (ap (λ (x : ℕ). x / 64) f))) (sym (or_none (is_bit_one (get_or mask (v / 64) 0) (v % 64))))

-- `new` is `old` with j in it
pub record Put (old : List ℕ) (j : ℕ) (new : List ℕ) : Type 0 where
  pub long : length new ≡ length old
  pub bits : (v : ℕ) → in_mask new v ≡ (in_mask old v || eqb v j)

pub put_bit : (mask : List ℕ) (j : ℕ) → j / 64 < length mask → Put mask j (set mask (j / 64) (bit_or (get_or mask (j / 64) 0) (1 * 2 ^ (j % 64) % 2 ^ 64)))
put_bit mask j h = record { long = length-set mask (j / 64) _; bits = λ v. mask_more mask j v h }

-- word w of a mask, stored anew
pub mask_stored : (mask : List ℕ) (w x v : ℕ) → w < length mask → v / 64 ≡ w → in_mask (set mask w x) v ≡ is_bit_one x (v % 64)
unfolding in_mask
mask_stored mask w x v h e = rw (e, get_or-set_same mask w x 0 h)

pub mask_others : (mask : List ℕ) (w x v : ℕ) → v / 64 ≢ w → in_mask (set mask w x) v ≡ in_mask mask v
unfolding in_mask
mask_others mask w x v m = rw (get_or-set_other mask w (v / 64) x 0 m)

-- a mask holds no number past its words
pub mask_past : (mask : List ℕ) (v : ℕ) → length mask ≤ v / 64 → in_mask mask v ≡ false
unfolding in_mask
mask_past mask v h = rw (get_or-eq_default mask 0 h) (one_past 0 0 (v % 64) (omega arith) (omega arith))

-- r is word w of a mask, without number j
pub record Without (mask : List ℕ) (w j r : ℕ) : Type 0 where
  pub bits : (v : ℕ) → v / 64 ≡ w → is_bit_one r (v % 64) ≡ (in_mask mask v && not (eqb v j))

and_all : (t : Bool) → (t && true) ≡ t
and_all true = refl
and_all false = refl

pub without_other : (mask : List ℕ) (w j : ℕ) → j / 64 ≢ w → Without mask w j (get_or mask w 0)
unfolding in_mask
without_other mask w j m = record {
  bits = λ v e. rw (e, ne_eqb v j (λ f. m (rw f at e))) (sym (and_all (is_bit_one (get_or mask w 0) (v % 64))));
}

pub without_bit : (mask : List ℕ) (w j x : ℕ) → j / 64 ≡ w → x ≡ get_or mask w 0 → Without mask w j (bit_and x (bit_xor x (1 * 2 ^ (j % 64) % 2 ^ 64)))
unfolding in_mask
without_bit mask w j x s g = record {
  bits = λ v e. rw (e, ← g, same v e) (one_and x (bit_xor x (1 * 2 ^ (j % 64) % 2 ^ 64)) (v % 64) ∙ go v (is_bit_one x (v % 64)) refl);
}
  where
    same : (v : ℕ) → v / 64 ≡ w → eqb v j ≡ eqb (v % 64) (j % 64)
    same v e = at_both (eqb (v % 64) (j % 64)) refl
      where
        at_both : (t : Bool) → eqb (v % 64) (j % 64) ≡ t → eqb v j ≡ t
        at_both true f = eq-eqb v j (omega (arith, eqb-true (v % 64) (j % 64) f))
        at_both false f = let n = eqb-false (v % 64) (j % 64) f in ne_eqb v j (λ h. n (ap (λ (x : ℕ). x % 64) h))

    go : (c : ℕ) (t : Bool) → is_bit_one x (c % 64) ≡ t → (t && is_bit_one (bit_xor x (1 * 2 ^ (j % 64) % 2 ^ 64)) (c % 64)) ≡ (t && not (eqb (c % 64) (j % 64)))
    go c true h = one_xor x (1 * 2 ^ (j % 64) % 2 ^ 64) (c % 64) h ∙ rw (one_bit (j % 64) (c % 64) (omega arith) (omega arith))
    go c false h = refl

-- r is the number of the lowest bit of x that is 1
pub record Lowest (x r : ℕ) : Type 0 where
  pub below : (b : ℕ) → b < r → b < 64 → is_bit_one x b ≡ false
  pub hit : r < 64 → is_bit_one x r ≡ true
  pub few : r ≤ 64

parity : (x b : ℕ) → is_bit_one x b ≡ eqb (x / 2 ^ b % 2) 1
unfolding is_bit_one
parity x b = refl

pub lowest_none : Lowest 0 64
lowest_none = record { below = λ b _ _. one_past 0 0 b (omega arith) (omega arith); hit = λ h. absurd (omega arith); few = omega arith }

-- a search along the bits
pub record Above (x r : ℕ) : Type 0 where
  pub below : (b : ℕ) → b < r → is_bit_one x b ≡ false
  pub few : r ≤ 64

pub above_none : (x : ℕ) → Above x 0
above_none x = record { below = λ b h. absurd (omega arith); few = omega arith }

pub above_more : {x r : ℕ} → Above x r → r < 64 → x / 2 ^ r % 2 ≡ 0 → Above x (r + 1)
above_more {x} {r} a h e = record {
  below = λ b g. ⊎_elim (λ (s : b ≡ r). rw s (parity x r ∙ rw e)) (λ (m : b ≢ r). a.below b (omega arith)) (same_or_not b r);
  few = omega arith;
}

pub lowest_hit : {x r : ℕ} → Above x r → r < 64 → x / 2 ^ r % 2 ≢ 0 → Lowest x r
lowest_hit {x} {r} a h m =
    let o : x / 2 ^ r % 2 ≡ 1 = omega arith in
    record { below = λ b g _. a.below b g; hit = λ _. parity x r ∙ rw o; few = omega arith }

pub lowest_past : {x r : ℕ} → Above x r → 64 ≤ r → Lowest x 64
lowest_past {x} {r} a h = record { below = λ b g _. a.below b (omega arith); hit = λ g. absurd (omega arith); few = omega arith }

-- a number whose r lowest bits, as a number, are 0
pub above_zero : {x r : ℕ} → r < 64 → bit_and x (2 ^ r - 1) ≡ 0 → Above x r
above_zero {x} {r} h e =
    let z : x % 2 ^ r ≡ 0 = sym (and_mask x r) ∙ e in
    record { below = λ b g. sym (one_mod x r b g) ∙ (rw z (one_past 0 0 b (omega arith) (omega arith))); few = omega arith }

-- r is the first bit of a word from `from` on that is 1, if it is below 64
pub record NextOne (x from r : ℕ) : Type 0 where
  pub after : from ≤ r
  pub few : r ≤ 128
  pub hit : r < 64 → is_bit_one x r ≡ true
  pub none : (b : ℕ) → from ≤ b → b < r → b < 64 → is_bit_one x b ≡ false

pub next_none : (x : ℕ) {from : ℕ} → from ≡ 64 → NextOne x from 64
next_none x e = record { after = omega arith; few = omega arith; hit = λ h. absurd (omega arith); none = λ b h g. absurd (omega arith) }

pub next_lowest : (x from : ℕ) {r : ℕ} → from ≤ 64 → Lowest (x / 2 ^ from) r → NextOne x from (from + r)
next_lowest x from {r} h L = record {
  after = omega arith;
  few = omega (arith, L.few);
  hit = λ g. sym (one_down x from r) ∙ L.hit (omega arith);
  none = λ b l g k. let e : from + (b - from) ≡ b = omega arith in rw e at (sym (one_down x from (b - from)) ∙ L.below (b - from) (omega arith) (omega arith));
}

-- the bits of a row and of a mask from number v on, up to the end of the mask's word
pub record Common (start : ℕ) (table mask : List ℕ) (v r : ℕ) : Type 0 where
  pub both : (b : ℕ) → b < 64 → is_bit_one r b ≡ true → (v % 64 + b < 64) × ((is_set table (start + v + b) ≡ true) × (in_mask mask (v + b) ≡ true))
  pub all : (b : ℕ) → v % 64 + b < 64 → is_set table (start + v + b) ≡ true → in_mask mask (v + b) ≡ true → is_bit_one r b ≡ true

mask_at : (mask : List ℕ) (v b : ℕ) → v % 64 + b < 64 → in_mask mask (v + b) ≡ is_bit_one (get_or mask (v / 64) 0) (v % 64 + b)
unfolding in_mask
mask_at mask v b h =
    let q : (v + b) / 64 ≡ v / 64 = omega arith in
    let r : (v + b) % 64 ≡ v % 64 + b = omega arith in
    rw (q, r)

pub common_is : {start v x m : ℕ} {table mask : List ℕ} → Spells table (start + v) 64 x → m ≡ get_or mask (v / 64) 0 → m < 2 ^ 64 → Common start table mask v (bit_and x (m / 2 ^ (v % 64)))
common_is {start} {v} {x} {m} {table} {mask} S e h = record {
  both = λ b hb o. let r = and_true (is_bit_one x b) _ (sym (one_and x (m / 2 ^ (v % 64)) b) ∙ o) in part b hb r.0 (sym (one_down m (v % 64) b) ∙ r.1) (ltb (v % 64 + b) 64) refl;
  all = λ b hb s i. one_and x (m / 2 ^ (v % 64)) b ∙ rw (S.bits b (omega arith), s, one_down m (v % 64) b, e) (sym (mask_at mask v b hb) ∙ i);
}
  where
    part : (b : ℕ) → b < 64 → is_bit_one x b ≡ true → is_bit_one m (v % 64 + b) ≡ true → (t : Bool) → ltb (v % 64 + b) 64 ≡ t → (v % 64 + b < 64) × ((is_set table (start + v + b) ≡ true) × (in_mask mask (v + b) ≡ true))
    part b hb s i true t = let g = ltb-true (v % 64 + b) 64 t in (g, (sym (S.bits b hb) ∙ s, mask_at mask v b g ∙ rw (← e) i))
    part b hb s i false t = false_true (one_past m 64 (v % 64 + b) h (ltb-false (v % 64 + b) 64 t)) i

-- the first w words of a mask are those of x without the numbers of y
pub record Rest (x y : List ℕ) (w : ℕ) (rest : List ℕ) : Type 0 where
  pub long : length rest ≡ 8
  pub bits : (v : ℕ) → v / 64 < w → in_mask rest v ≡ (in_mask x v && not (in_mask y v))

pub rest_start : {x y rest : List ℕ} → length rest ≡ 8 → Rest x y 0 rest
rest_start e = record { long = e; bits = λ v h. absurd (omega arith) }

one_minus : (x y b : ℕ) → is_bit_one (bit_and x (bit_xor x y)) b ≡ (is_bit_one x b && not (is_bit_one y b))
one_minus x y b = one_and x (bit_xor x y) b ∙ go (is_bit_one x b) refl
  where
    go : (t : Bool) → is_bit_one x b ≡ t → (t && is_bit_one (bit_xor x y) b) ≡ (t && not (is_bit_one y b))
    go true e = one_xor x y b e
    go false e = refl

pub rest_more : {x y rest : List ℕ} {w p q : ℕ} → w < 8 → p ≡ get_or x w 0 → q ≡ get_or y w 0 → Rest x y w rest → Rest x y (w + 1) (set rest w (bit_and p (bit_xor p q)))
unfolding in_mask
rest_more {x} {y} {rest} {w} {p} {q} h e f R = record {
  long = length-set rest w _ ∙ R.long;
  bits = λ v g.
      ⊎_elim
      (λ (s : v / 64 ≡ w). rw (s, get_or-set_same rest w (bit_and p (bit_xor p q)) 0 (omega (arith, R.long)), one_minus p q (v % 64), e, f))
      (λ (m : v / 64 ≢ w). rw (get_or-set_other rest w (v / 64) (bit_and p (bit_xor p q)) 0 m) (R.bits v (omega arith)))
      (same_or_not (v / 64) w);
}

-- a word of 0 sets nothing
pub ored_zero : (l : List ℕ) (at w : ℕ) → Ored l at w 0 l
ored_zero l at w = record { long = refl; bytes = λ h. h; kept = λ i e. e; added = λ b h e. false_true (one_past 0 0 b (omega arith) (omega arith)) e; only = λ i e. inl e }
