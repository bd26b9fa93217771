-- The bits of a byte table: one bit set, and a table told by its bits.
use Rattle.std.specs.Prelude.{ℕ, zero, suc, ◌+◌, ◌*◌, ◌/◌, ◌%◌, ◌^◌, ◌<◌, ◌≤◌, ◌-◌, max, ◌≡◌, refl, Bool, true, false, ◌&&◌, ◌||◌, List, ◌++◌, eqb, ltb, length, get_or, set, drop}
use Rattle.std.proofs.Common.{sym, ◌∙◌, ap, pow-suc, div-add-mod', div-lt_iff_lt-mul, mod-lt, arith, lit<, length-set, length-append, length-drop, shl_exact, shr-shr, pow-add, get_or-set_same, get_or-set_other, get_or-append-add, get_or-drop, ext_get_or, eqb-true, eq-eqb, ne_eqb, ltb-true, ltb-false, le-ltb}
use Rattle.std.proofs.Math.Nat.{zero-div, div-eq_of_lt}
use Rattle.std.specs.Int.Bits.{bit_or, or_step, or_zero_r}
use Rattle.std.proofs.lemmas.Nat.{or_shr, or_lt, shl-shr}
use Rattle.std.proofs.Math.ListN.{get_or-append, get_or-eq_default}
use Rattle.std.proofs.Math.Pow.{pow-lt}
use Rattle.std.proofs.lemmas.List.{set-get_or}
use Rattle.std.proofs.lemmas.Bool.{eqb-false}
use Rattle.lists.specs.Tabulate.{tabulate, length_tabulate, tabulate_at}
use Rattle.outcome.specs.PairBits.{bit_of, bit_value, number, pair_bit, pair_bits, pair_bytes}
use Rattle.outcome.proofs.PairBits.{number_bit, pair_bit_lem, bit_value_below}

-- the table with bit i set to 1
unfoldable pub with_bit : List ℕ → ℕ → List ℕ
with_bit bytes i = set bytes (i / 8) (bit_or (get_or bytes (i / 8) 0) (2 ^ (i % 8)))

-- the same if b is true
abbrev pub with_bit_if : Bool → List ℕ → ℕ → List ℕ
with_bit_if true bytes i = with_bit bytes i
with_bit_if false bytes i = bytes

-- bit i is 1
unfoldable pub is_set : List ℕ → ℕ → Bool
is_set bytes i = eqb (bit_of bytes i) 1

-- a byte with a bit shifted into it, at bit i: the shift loses nothing
pub shifted_in : (b : Bool) (l : List ℕ) (i : ℕ) → set l (i / 8) (bit_or (get_or l (i / 8) 0) (bit_value b * 2 ^ (i % 8) % 256)) ≡ with_bit_if b l i
unfolding with_bit
shifted_in true l i =
    let k = i % 8 in
    let shift : 1 * 2 ^ k % 256 ≡ 2 ^ k = omega (arith, shl_exact {a = 1} 1 k 8 (lit< tt) (omega arith)) in
    ap (λ (v : ℕ). set l (i / 8) (bit_or (get_or l (i / 8) 0) v)) shift
shifted_in false l i =
    let none : 0 * 2 ^ (i % 8) % 256 ≡ 0 = omega arith in
    ap (λ (v : ℕ). set l (i / 8) (bit_or (get_or l (i / 8) 0) v)) none ∙ ap (set l (i / 8)) (or_zero_r (get_or l (i / 8) 0)) ∙ set-get_or l (i / 8) 0

-- every entry is a byte
pub record Bytes (l : List ℕ) : Type 0 where
  pub byte : (k : ℕ) → get_or l k 0 < 256

bit_value_lem : (x : ℕ) → x < 2 → x ≡ bit_value (eqb x 1)
bit_value_lem x h = go (eqb x 1) refl
  where
    go : (b : Bool) → eqb x 1 ≡ b → x ≡ bit_value b
    go true e = eqb-true x 1 e
    go false e = let n = eqb-false x 1 e in omega arith

pub bit_of_is_set : (l : List ℕ) (i : ℕ) → bit_of l i ≡ bit_value (is_set l i)
unfolding bit_of is_set
bit_of_is_set l i = bit_value_lem (get_or l (i / 8) 0 / 2 ^ (i % 8) % 2) (omega arith)

pub is_set_value : (l : List ℕ) (i : ℕ) (b : Bool) → bit_of l i ≡ bit_value b → is_set l i ≡ b
unfolding is_set
is_set_value l i true e = rw e
is_set_value l i false e = rw e

pub length_with_bit : (l : List ℕ) (i : ℕ) → length (with_bit l i) ≡ length l
unfolding with_bit
length_with_bit l i = length-set l (i / 8) (bit_or (get_or l (i / 8) 0) (2 ^ (i % 8)))

-- bit a of 2 ^ b
power_bit : (a b : ℕ) → 2 ^ b / 2 ^ a % 2 ≡ bit_value (eqb a b)
power_bit a b = go (ltb a b) (ltb b a) refl refl
  where
    go : (t u : Bool) → ltb a b ≡ t → ltb b a ≡ u → 2 ^ b / 2 ^ a % 2 ≡ bit_value (eqb a b)
    go true u e f =
        let h = ltb-true a b e in
        let whole : 2 ^ b / 2 ^ a ≡ 2 ^ suc (b - suc a) =
        let split : 2 ^ b ≡ 2 ^ suc (b - suc a) * 2 ^ a = ap (λ (k : ℕ). 2 ^ k) (omega arith) ∙ pow-add 2 (suc (b - suc a)) a in
        ap (λ (x : ℕ). x / 2 ^ a) split ∙ shl-shr (2 ^ suc (b - suc a)) a in
        rw (whole, ne_eqb a b (λ s. omega arith), pow-suc) (omega arith)
    go false true e f =
        let h = ltb-true b a f in
        rw (div-eq_of_lt (pow-lt h), ne_eqb a b (λ s. omega arith))
    go false false e f =
        let s : a ≡ b = omega (arith, ltb-false a b e, ltb-false b a f) in
        let one : 2 ^ b ≡ 1 * 2 ^ b = omega arith in
        rw (s, eq-eqb b b refl) (ap (λ (x : ℕ). x % 2) (ap (λ (x : ℕ). x / 2 ^ b) one ∙ shl-shr 1 b))

or_low : (x y : ℕ) → bit_or x y % 2 ≡ max (x % 2) (y % 2)
or_low x y = omega (arith, or_step x y)

max_value : (a b : Bool) → max (bit_value a) (bit_value b) ≡ bit_value (b || a)
max_value true true = refl
max_value true false = refl
max_value false true = refl
max_value false false = refl

-- bit a of a byte with bit b set
byte_bit : (x a b : ℕ) → bit_or x (2 ^ b) / 2 ^ a % 2 ≡ bit_value (eqb a b || eqb (x / 2 ^ a % 2) 1)
byte_bit x a b =
    let v = bit_value_lem (x / 2 ^ a % 2) (omega arith) in
    rw (or_shr x (2 ^ b) a, or_low (x / 2 ^ a) (2 ^ b / 2 ^ a), power_bit a b) (ap (λ (m : ℕ). max m (bit_value (eqb a b))) v ∙ max_value (eqb (x / 2 ^ a % 2) 1) (eqb a b))

-- which bits a set changes: bit i is 1, and any other as it was
pub is_set_with_bit : (l : List ℕ) (i j : ℕ) → i / 8 < length l → is_set (with_bit l i) j ≡ (eqb j i || is_set l j)
unfolding with_bit is_set bit_of
is_set_with_bit l i j h = go (eqb (j / 8) (i / 8)) refl
  where
    same_place : j / 8 ≡ i / 8 → (t : Bool) → eqb (j % 8) (i % 8) ≡ t → eqb j i ≡ t
    same_place s true e = eq-eqb j i (omega (arith, eqb-true (j % 8) (i % 8) e))
    same_place s false e = let n = eqb-false (j % 8) (i % 8) e in ne_eqb j i (λ f. n (ap (λ (x : ℕ). x % 8) f))

    value_test : (t : Bool) → eqb (bit_value t) 1 ≡ t
    value_test true = refl
    value_test false = refl

    go : (t : Bool) → eqb (j / 8) (i / 8) ≡ t → eqb (get_or (set l (i / 8) (bit_or (get_or l (i / 8) 0) (2 ^ (i % 8)))) (j / 8) 0 / 2 ^ (j % 8) % 2) 1 ≡ (eqb j i || eqb (get_or l (j / 8) 0 / 2 ^ (j % 8) % 2) 1)
    go true e =
        let s = eqb-true (j / 8) (i / 8) e in
        rw (s, get_or-set_same l (i / 8) (bit_or (get_or l (i / 8) 0) (2 ^ (i % 8))) 0 h, byte_bit (get_or l (i / 8) 0) (j % 8) (i % 8), same_place s (eqb (j % 8) (i % 8)) refl) (value_test _)
    go false e =
        let n = eqb-false (j / 8) (i / 8) e in
        rw (get_or-set_other l (i / 8) (j / 8) (bit_or (get_or l (i / 8) 0) (2 ^ (i % 8))) 0 n, ne_eqb j i (λ f. n (ap (λ (x : ℕ). x / 8) f)))

pub bytes_with_bit : (l : List ℕ) (i : ℕ) → Bytes l → Bytes (with_bit l i)
unfolding with_bit
bytes_with_bit l i b = record { byte = λ k. go k (eqb k (i / 8)) (ltb k (length l)) refl refl }
  where
    go : (k : ℕ) (t u : Bool) → eqb k (i / 8) ≡ t → ltb k (length l) ≡ u → get_or (set l (i / 8) (bit_or (get_or l (i / 8) 0) (2 ^ (i % 8)))) k 0 < 256
    go k false u e f = rw (get_or-set_other l (i / 8) k (bit_or (get_or l (i / 8) 0) (2 ^ (i % 8))) 0 (eqb-false k (i / 8) e)) (b.byte k)
    go k true false e f = rw (get_or-eq_default (set l (i / 8) (bit_or (get_or l (i / 8) 0) (2 ^ (i % 8)))) 0 {n = k} (simp length-set (ltb-false k (length l) f))) (omega arith)
    go k true true e f =
        let s = eqb-true k (i / 8) e in
        let h : i / 8 < length l = omega (arith, ltb-true k (length l) f) in
        rw (s, get_or-set_same l (i / 8) (bit_or (get_or l (i / 8) 0) (2 ^ (i % 8))) 0 h) (or_lt 8 (get_or l (i / 8) 0) (2 ^ (i % 8)) (b.byte (i / 8)) (pow-lt {j = 8} (omega arith)))

-- a number of k bits is told by them
number_told : (k x y : ℕ) → x < 2 ^ k → y < 2 ^ k → ((b : ℕ) → b < k → x / 2 ^ b % 2 ≡ y / 2 ^ b % 2) → x ≡ y
number_told zero x y hx hy e = omega arith
number_told (suc k) x y hx hy e =
    let p = pow-suc 2 k in
    let low : x % 2 ≡ y % 2 = let f = e 0 (omega arith) in omega arith in
    let shift : (v b : ℕ) → v / 2 ^ suc b ≡ v / 2 / 2 ^ b = λ v b. let q : 1 + b ≡ suc b = omega arith in rw (← q) (sym (shr-shr v 1 b)) in
    let half : x / 2 ≡ y / 2 = number_told k (x / 2) (y / 2) (omega arith) (omega arith) (λ b h. rw (← shift x b, ← shift y b) (e (suc b) (omega arith))) in
    omega arith

-- a table of bytes is told by its bits
pub bits_told : (l m : List ℕ) → Bytes l → Bytes m → length l ≡ length m → ((i : ℕ) → i / 8 < length l → is_set l i ≡ is_set m i) → l ≡ m
unfolding bit_of
bits_told l m bl bm n e = ext_get_or 0 l m n (λ k h. number_told 8 (get_or l k 0) (get_or m k 0) (bl.byte k) (bm.byte k) (same k h))
  where
    same : (k : ℕ) → k < length l → (b : ℕ) → b < 8 → get_or l k 0 / 2 ^ b % 2 ≡ get_or m k 0 / 2 ^ b % 2
    same k h b hb =
        let q : (8 * k + b) / 8 ≡ k = omega arith in
        let r : (8 * k + b) % 8 ≡ b = omega arith in
        rw (q, r) at (bit_of_is_set l (8 * k + b) ∙ ap bit_value (e (8 * k + b) (omega arith)) ∙ sym (bit_of_is_set m (8 * k + b)))

-- the bits of the table of pair bits
pub is_set_pair_bits : (f : ℕ → ℕ → Bool) (n k : ℕ) → k / 8 < pair_bytes n → is_set (pair_bits f n) k ≡ pair_bit f n k
unfolding bit_of pair_bits
is_set_pair_bits f n k h =
    let byte = tabulate_at (λ y. number (λ b. pair_bit f n (8 * y + b)) 8) 0 (pair_bytes n) (k / 8) 0 h in
    let start : 0 + k / 8 ≡ k / 8 = omega arith in
    let whole : 8 * (k / 8) + k % 8 ≡ k = omega arith in
    is_set_value (pair_bits f n) k (pair_bit f n k) (rw (byte, start, number_bit (λ b. pair_bit f n (8 * (k / 8) + b)) 8 (k % 8) (omega arith), whole))

pub length_pair_bits : (f : ℕ → ℕ → Bool) (n : ℕ) → length (pair_bits f n) ≡ pair_bytes n
unfolding pair_bits
length_pair_bits f n = length_tabulate (λ k. number (λ b. pair_bit f n (8 * k + b)) 8) 0 (pair_bytes n)

number_below : (g : ℕ → Bool) (k : ℕ) → number g k < 2 ^ k
unfolding number
number_below g zero = omega arith
number_below g (suc k) = omega (arith, pow-suc 2 k, number_below (λ b. g (suc b)) k, bit_value_below (g 0))

bytes_pair_bits : (f : ℕ → ℕ → Bool) (n : ℕ) → Bytes (pair_bits f n)
unfolding pair_bits
bytes_pair_bits f n = record { byte = λ k. go k (ltb k (pair_bytes n)) refl }
  where
    go : (k : ℕ) (t : Bool) → ltb k (pair_bytes n) ≡ t → get_or (tabulate (λ k. number (λ b. pair_bit f n (8 * k + b)) 8) 0 (pair_bytes n)) k 0 < 256
    go k true e = rw (tabulate_at (λ k. number (λ b. pair_bit f n (8 * k + b)) 8) 0 (pair_bytes n) k 0 (ltb-true k (pair_bytes n) e)) (number_below (λ b. pair_bit f n (8 * (0 + k) + b)) 8)
    go k false e =
        let past : length (tabulate (λ k. number (λ b. pair_bit f n (8 * k + b)) 8) 0 (pair_bytes n)) ≤ k = omega (arith, length_pair_bits f n, ltb-false k (pair_bytes n) e) in
        rw (get_or-eq_default (tabulate (λ k. number (λ b. pair_bit f n (8 * k + b)) 8) 0 (pair_bytes n)) 0 past) (omega arith)

-- bits that agree with f on the pairs, and are 0 from there on
pub record Agree (f : ℕ → ℕ → Bool) (n : ℕ) (l : List ℕ) : Type 0 where
  pub pair : (i j : ℕ) → i < n → j < n → is_set l (i * n + j) ≡ f i j
  pub unused : (k : ℕ) → n * n ≤ k → k / 8 < pair_bytes n → is_set l k ≡ false

positive_factor : (n : ℕ) {k : ℕ} → k < n * n → 0 < n
positive_factor zero h = absurd (omega arith)
positive_factor (suc n) h = omega arith

agree_bit : (f : ℕ → ℕ → Bool) (n : ℕ) (l : List ℕ) → Agree f n l → (k : ℕ) → k / 8 < pair_bytes n → is_set l k ≡ pair_bit f n k
unfolding pair_bit
agree_bit f n l a k h = go (ltb k (n * n)) refl
  where
    go : (t : Bool) → ltb k (n * n) ≡ t → is_set l k ≡ (t && f (k / n) (k % n))
    go false e = a.unused k (ltb-false k (n * n) e) h
    go true e =
        let inside = ltb-true k (n * n) e in
        let positive : 0 < n = positive_factor n inside in
        let whole : k / n * n + k % n ≡ k = div-add-mod' k n in
        rw (← a.pair (k / n) (k % n) ((div-lt_iff_lt-mul positive).1 inside) (mod-lt k positive), whole)

-- the cells of a list whose front is written over
module _ {A : Type 0} (new old : List A) (d : A) where
  pub front_at : (k : ℕ) → k < length new → get_or (new ++ drop (length new) old) k d ≡ get_or new k d
  front_at k h = get_or-append new (drop (length new) old) d k h

  pub rest_at : (k : ℕ) → length new ≤ k → get_or (new ++ drop (length new) old) k d ≡ get_or old k d
  rest_at k h =
      let s : length new + (k - length new) ≡ k = omega arith in
      rw s at (get_or-append-add new (drop (length new) old) (k - length new) d ∙ get_or-drop (length new) old (k - length new) d)

  pub length_over : length new ≤ length old → length (new ++ drop (length new) old) ≡ length old
  length_over h = simp (length-append, length-drop) (omega arith)

-- a bit is told by its byte
pub is_set_same : (l m : List ℕ) (k : ℕ) → get_or l (k / 8) 0 ≡ get_or m (k / 8) 0 → is_set l k ≡ is_set m k
unfolding is_set bit_of
is_set_same l m k e = rw e

pub is_set_zero : (l : List ℕ) (k : ℕ) → get_or l (k / 8) 0 ≡ 0 → is_set l k ≡ false
unfolding is_set bit_of
is_set_zero l k e = let z : 0 / 2 ^ (k % 8) ≡ 0 = zero-div (2 ^ (k % 8)) in rw (e, z)

pub bytes_over : (new old : List ℕ) → Bytes new → Bytes old → Bytes (new ++ drop (length new) old)
bytes_over new old b c = record { byte = λ k. go k (ltb k (length new)) refl }
  where
    go : (k : ℕ) (t : Bool) → ltb k (length new) ≡ t → get_or (new ++ drop (length new) old) k 0 < 256
    go k true e = rw (front_at new old 0 k (ltb-true k (length new) e)) (b.byte k)
    go k false e = rw (rest_at new old 0 k (ltb-false k (length new) e)) (c.byte k)

-- so a table that agrees, and is otherwise as another, is the pair table over it
pub table_told :
    (f : ℕ → ℕ → Bool) (n : ℕ) (l old : List ℕ) →
    Bytes l →
    Bytes old →
    length l ≡ length old →
    pair_bytes n ≤ length old →
    Agree f n l →
    ((k : ℕ) → pair_bytes n ≤ k / 8 → is_set l k ≡ is_set old k) →
    l ≡ pair_bits f n ++ drop (length (pair_bits f n)) old
table_told f n l old bl bo same room a past =
    let size = length_pair_bits f n in
    let m = pair_bits f n ++ drop (length (pair_bits f n)) old in
    bits_told l m bl (bytes_over (pair_bits f n) old (bytes_pair_bits f n) bo) (same ∙ sym (length_over (pair_bits f n) old 0 (omega arith)))
    (λ k h. go k (ltb (k / 8) (pair_bytes n)) refl)
  where
    go : (k : ℕ) (t : Bool) → ltb (k / 8) (pair_bytes n) ≡ t → is_set l k ≡ is_set (pair_bits f n ++ drop (length (pair_bits f n)) old) k
    go k true e =
        let h = ltb-true (k / 8) (pair_bytes n) e in
        agree_bit f n l a k h ∙ sym (is_set_pair_bits f n k h)
        ∙ sym (is_set_same (pair_bits f n ++ drop (length (pair_bits f n)) old) (pair_bits f n) k (front_at (pair_bits f n) old 0 (k / 8) (omega (arith, length_pair_bits f n))))
    go k false e =
        let h = ltb-false (k / 8) (pair_bytes n) e in
        past k h ∙ sym (is_set_same (pair_bits f n ++ drop (length (pair_bits f n)) old) old k (rest_at (pair_bits f n) old 0 (k / 8) (omega (arith, length_pair_bits f n))))

-- in particular a table of just the bytes that the pairs need
pub pair_bits_told : (f : ℕ → ℕ → Bool) (n : ℕ) (l : List ℕ) → Bytes l → length l ≡ pair_bytes n → Agree f n l → l ≡ pair_bits f n
pair_bits_told f n l b size a =
    bits_told l (pair_bits f n) b (bytes_pair_bits f n) (size ∙ sym (length_pair_bits f n))
    (λ k h. let g : k / 8 < pair_bytes n = omega arith in agree_bit f n l a k g ∙ sym (is_set_pair_bits f n k g))

-- tables of two functions that agree on the pairs are equal
pub pair_bits_same : (f g : ℕ → ℕ → Bool) (n : ℕ) → ((i j : ℕ) → i < n → j < n → f i j ≡ g i j) → pair_bits f n ≡ pair_bits g n
unfolding pair_bit
pair_bits_same f g n e =
    pair_bits_told g n (pair_bits f n) (bytes_pair_bits f n) (length_pair_bits f n)
    (record {
      pair = λ i j hi hj. is_set_value (pair_bits f n) (i * n + j) (f i j) (pair_bit_lem f n i j hi hj) ∙ e i j hi hj;
      unused = λ k h l. let out = le-ltb k (n * n) h in is_set_pair_bits f n k l ∙ rw out;
    })
