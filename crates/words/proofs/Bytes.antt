-- Eight bytes of a table as one number, and the lowest 1 of a number.
use Rattle.std.specs.Prelude.{ℕ, zero, suc, ◌+◌, ◌*◌, ◌/◌, ◌^◌, ◌<◌, ◌≤◌, ◌-◌, ◌≡◌, refl, ◌⊎◌, Bool, true, false, List, ◌++◌, ltb, length, take, drop, get_or}
use Rattle.std.proofs.Common.{sym, ◌∙◌, ap, inl, inr, ⊎_elim, arith, pow-suc, pow-add, ltb-true, ltb-false, mod-lt, length-append, length-drop, length-take-le, get_or-drop, get_or-take, get_or-append-add}
use Rattle.std.proofs.Math.ListN.{get_or-append}
use Rattle.std.specs.Int.{w64, byte_at, byte_worth, bytes_low_first, sum_through, to_le_bytes}
use Rattle.std.specs.Int.Bits.{bit_or}
use Rattle.std.proofs.lemmas.Nat.{from_le_bytes-to_le_bytes_8, or_lt}
use Rattle.std.proofs.lemmas.Nat.Bits.{bit_at-trailing_zeros}
use lib.Count.{count_trailing_zeros}
use borrow.Rule.Slice.PartMut.{put_mid}
use Rattle.lists.specs.Booleans.{or_cases, or_first, or_second}
use Rattle.pairbits.specs.Bits.{is_set, is_set_same, Bytes}
use Rattle.words.specs.Words.{is_bit_one, one_or, Spells, spells_byte, spells_both, Ored, Lowest, lowest_none}

pow_256 : (n : ℕ) → 256 ^ n ≡ 2 ^ (8 * n)
pow_256 zero = refl
pow_256 (suc n) =
    let e : 8 * suc n ≡ 8 * n + 8 = omega arith in
    let i = pow_256 n in
    let p = pow-suc 256 n in
    let q = pow-add 2 (8 * n) 8 in
    rw e (omega arith)

-- n + 1 bytes of a table, taken into a part
pub spells_bytes : (l part : List ℕ) (k n : ℕ)
    → ((i : ℕ) → i ≤ n → get_or part i 0 ≡ get_or l (k + i) 0)
    → ((i : ℕ) → i ≤ n → get_or part i 0 < 256)
    → Spells l (8 * k) (8 * (n + 1)) (sum_through (λ i. byte_worth i (get_or part i 0)) n)
spells_bytes l part k zero same below =
    let z : k + 0 ≡ k = omega arith in
    let e : get_or part 0 0 ≡ get_or l k 0 = rw z at (same 0 (omega arith)) in
    rw e (spells_byte l k (rw (← e) (below 0 (omega arith))))
spells_bytes l part k (suc n) same below =
    let e : get_or part (suc n) 0 ≡ get_or l (k + suc n) 0 = same (suc n) (omega arith) in
    let a : 8 * (k + suc n) ≡ 8 * k + 8 * (n + 1) = omega arith in
    let p = spells_bytes l part k n (λ i h. same i (omega arith)) (λ i h. below i (omega arith)) in
    let q : Spells l (8 * k + 8 * (n + 1)) 8 (get_or part (suc n) 0) = rw (e, ← a) (spells_byte l (k + suc n) (rw (← e) (below (suc n) (omega arith)))) in
    let w : 8 * (suc n + 1) ≡ 8 * (n + 1) + 8 = omega arith in
    let s : 8 * suc n ≡ 8 * (n + 1) = omega arith in
    let v : sum_through (λ i. byte_worth i (get_or part i 0)) n + get_or part (suc n) 0 * 256 ^ suc n ≡ get_or part (suc n) 0 * 2 ^ (8 * (n + 1)) + sum_through (λ i. byte_worth i (get_or part i 0)) n = rw (pow_256 (suc n), s) (omega arith) in
    rw (w, v) (spells_both p q)

-- no byte of a number is above 255
byte_below : (i n : ℕ) → byte_at i n < 256
byte_below zero n = mod-lt n (omega arith)
byte_below (suc i) n = mod-lt (n / 256 ^ suc i) (omega arith)

bytes_below : (j k n i : ℕ) → get_or (bytes_low_first j k n) i 0 < 256
bytes_below j zero n i = omega arith
bytes_below j (suc k) n zero = byte_below j n
bytes_below j (suc k) n (suc i) = bytes_below (suc j) k n i

-- eight bytes of a table written
module _ (l ys : List ℕ) (k : ℕ) (room : k + 8 ≤ length l) (long : length ys ≡ 8) where
  abbrev pub written : List ℕ
  written = put_mid k 8 l ys

  front : length (take k l) ≡ k
  front = length-take-le k l (omega arith)

  pub written_long : length written ≡ length l
  written_long = simp (length-append, length-drop) (omega (arith, front))

  pub written_before : (j : ℕ) → j < k → get_or written j 0 ≡ get_or l j 0
  written_before j h = get_or-append (take k l) _ 0 j (omega (arith, front)) ∙ get_or-take k l j 0 h

  pub written_in : (i : ℕ) → i < 8 → get_or written (k + i) 0 ≡ get_or ys i 0
  written_in i h = (rw front at (get_or-append-add (take k l) (ys ++ drop 8 (drop k l)) i 0)) ∙ get_or-append ys (drop 8 (drop k l)) 0 i (omega arith)

  pub written_after : (i : ℕ) → get_or written (k + (8 + i)) 0 ≡ get_or l (k + (8 + i)) 0
  written_after i =
      (rw front at (get_or-append-add (take k l) (ys ++ drop 8 (drop k l)) (8 + i) 0))
      ∙ (rw long at (get_or-append-add ys (drop 8 (drop k l)) i 0))
      ∙ get_or-drop 8 (drop k l) i 0
      ∙ get_or-drop k l (8 + i) 0

  -- a byte past or before those written
  pub written_other : (j : ℕ) → (j < k) ⊎ (k + 8 ≤ j) → get_or written j 0 ≡ get_or l j 0
  written_other j o =
      ⊎_elim
      (written_before j)
      (λ h. let e : k + (8 + (j - (k + 8))) ≡ j = omega arith in rw e at (written_after (j - (k + 8))))
      o

-- a table whose w bits from bit `at` on were the number a, and are now a | x
pub ored_spelled : {old new : List ℕ} {at w a x : ℕ}
    → length new ≡ length old
    → (Bytes old → Bytes new)
    → Spells old at w a
    → Spells new at w (bit_or a x)
    → ((i : ℕ) → (i < at) ⊎ (at + w ≤ i) → is_set new i ≡ is_set old i)
    → Ored old at w x new
ored_spelled {old} {new} {at} {w} {a} {x} long bytes was is others = record {
  long = long;
  bytes = bytes;
  kept = λ i e. keep i e (where_is i);
  added = λ b h e r. sym (is.bits b h) ∙ one_or a x b ∙ or_second (is_bit_one a b) (is_bit_one x b) e;
  only = λ i e. from i e (where_is i);
}
  where
    Place : ℕ → Type 0
    Place i = ((b : ℕ) × (b < w) × (i ≡ at + b)) ⊎ ((i < at) ⊎ (at + w ≤ i))

    where_is : (i : ℕ) → Place i
    where_is i = go (ltb i at) (ltb i (at + w)) refl refl
      where
        go : (s t : Bool) → ltb i at ≡ s → ltb i (at + w) ≡ t → Place i
        go true t e f = inr (inl (ltb-true i at e))
        go false true e f = let g = ltb-false i at e in let h = ltb-true i (at + w) f in inl (i - at, omega arith, omega arith)
        go false false e f = inr (inr (ltb-false i (at + w) f))

    keep : (i : ℕ) → is_set old i ≡ true → Place i → is_set new i ≡ true
    keep i e (inl (b, h, s)) = rw s (sym (is.bits b h) ∙ one_or a x b ∙ or_first (is_bit_one a b) (is_bit_one x b) (was.bits b h ∙ (rw s at e)))
    keep i e (inr o) = others i o ∙ e

    from : (i : ℕ) → is_set new i ≡ true → Place i → (is_set old i ≡ true) ⊎ ((b : ℕ) × (b < w) × (i ≡ at + b) × (is_bit_one x b ≡ true))
    from i e (inl (b, h, s)) =
        ⊎_elim
        (λ f. inl (rw s (sym (was.bits b h) ∙ f)))
        (λ f. inr (b, h, s, f))
        (or_cases (is_bit_one a b) (is_bit_one x b) (sym (one_or a x b) ∙ is.bits b h ∙ (rw s at e)))
    from i e (inr o) = inl (sym (others i o) ∙ e)

-- eight bytes that spell a, written as those of a | x
pub ored_eight : (l : List ℕ) (k x a : ℕ)
    → k + 8 ≤ length l
    → x < 2 ^ 64
    → Spells l (8 * k) 64 a
    → Ored l (8 * k) 64 x (put_mid k (k + 8 - k) l (to_le_bytes w64 (bit_or a x)))
ored_eight l k x a room small was =
    let eight : k + 8 - k ≡ 8 = omega arith in
    rw eight (ored_spelled (written_long l ys k room refl) bytes was is others)
  where
    v : ℕ
    v = bit_or a x

    ys : List ℕ
    ys = to_le_bytes w64 (bit_or a x)

    new : List ℕ
    new = put_mid k 8 l (to_le_bytes w64 (bit_or a x))

    bytes : Bytes l → Bytes new
    bytes B = record { byte = λ j. at_byte j (ltb j k) (ltb j (k + 8)) refl refl }
      where
        at_byte : (j : ℕ) (s t : Bool) → ltb j k ≡ s → ltb j (k + 8) ≡ t → get_or new j 0 < 256
        at_byte j true t e f = rw (written_other l ys k room refl j (inl (ltb-true j k e))) (B.byte j)
        at_byte j false true e f =
            let g = ltb-false j k e in
            let h = ltb-true j (k + 8) f in
            let m : k + (j - k) ≡ j = omega arith in
            let r : get_or new j 0 ≡ get_or ys (j - k) 0 = rw m at (written_in l ys k room refl (j - k) (omega arith)) in
            rw r (bytes_below 0 8 v (j - k))
        at_byte j false false e f = rw (written_other l ys k room refl j (inr (ltb-false j (k + 8) f))) (B.byte j)

    is : Spells new (8 * k) 64 (bit_or a x)
    is =
        let b : v < 2 ^ 64 = or_lt 64 a x was.below small in
        let r = spells_bytes new ys k 7 (λ i h. sym (written_in l ys k room refl i (omega arith))) (λ i h. bytes_below 0 8 v i) in
        rw (from_le_bytes-to_le_bytes_8 v b) at r

    others : (i : ℕ) → (i < 8 * k) ⊎ (8 * k + 64 ≤ i) → is_set new i ≡ is_set l i
    others i o = is_set_same new l i (written_other l ys k room refl (i / 8) (⊎_elim (λ h. inl (omega arith)) (λ h. inr (omega arith)) o))

all_zeros : (k : ℕ) → count_trailing_zeros k 0 ≡ k
unfolding count_trailing_zeros
all_zeros zero = refl
all_zeros (suc k) = ap (λ n. suc n) (all_zeros k)

pub lowest_trailing : (x : ℕ) → x < 2 ^ 64 → Lowest x (count_trailing_zeros 64 x)
unfolding is_bit_one
lowest_trailing zero h = rw (all_zeros 64) lowest_none
lowest_trailing (suc x) h =
    let t = bit_at-trailing_zeros w64 (suc x) (omega arith) h in
    record {
      below = λ b g _. rw (t.2 b g);
      hit = λ _. rw t.1;
      few = omega arith;
    }
