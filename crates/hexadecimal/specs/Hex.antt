-- Laws of digits, of the bytes that a line spells, and of the numbers that bytes spell.
use Rattle.std.specs.Prelude.{ℕ, zero, suc, ◌+◌, ◌*◌, ◌-◌, ◌^◌, ◌≤◌, ◌<◌, ◌≡◌, refl, pos, negsuc, ◌-ℤ◌, length, set, get_or, Some, None}
use Rattle.std.proofs.Math.Path.{ap}
use Rattle.std.proofs.Common.{sym, ◌∙◌, arith, pow-suc, mul_assoc, lt-ltb, le-ltb, to_z, add-one, length-append, drop-cons, take-suc, take-suc-set}
use mathlib.Core.List.{List, [], ◌∷◌, ◌++◌, append_assoc, append-nil}
use Rattle.std.proofs.Math.Option.{Option, none, some}
use Rattle.std.proofs.Math.Nat.{pow-le-pow_right}
use Rattle.std.specs.Int.{w64}
use Rattle.std.proofs.Math.ListN.{take, drop, drop_of_length-le}
use Rattle.text.specs.Lines.{digit, cons_byte, bytes_of, big, signed}
use Rattle.text.proofs.Digits.{digit_only}
use Rattle.hexadecimal.specs.Spelling.{spelled, pair_byte}

pub spelled_value : (o : Option ℕ) (v : ℕ) → spelled o ≡ Some v → o ≡ some v
spelled_value none v e = let z : ◌≡◌ {A = ℕ} 0 1 = cc in absurd (omega arith)
spelled_value (some w) v e = cc

pub spelled_bad : (o : Option ℕ) → spelled o ≡ None → o ≡ none
spelled_bad none e = refl
spelled_bad (some w) e = let z : ◌≡◌ {A = ℕ} 0 1 = cc in absurd (omega arith)

-- a digit's value is below 16
pub digit_below : (c v : ℕ) → digit c ≡ some v → v < 16
digit_below c v e = (digit_only c v e).0

-- bytes before those that the rest of a line spells
abbrev pub prefixed : List ℕ → Option (List ℕ) → Option (List ℕ)
prefixed bs none = none
prefixed bs (some cs) = some (bs ++ cs)

pub cons_byte_none : (h l : Option ℕ) (r : Option (List ℕ)) → pair_byte h l ≡ none → cons_byte h l r ≡ none
cons_byte_none none l r e = refl
cons_byte_none (some h) none r e = refl
cons_byte_none (some h) (some l) r e = let z : ◌≡◌ {A = ℕ} 0 1 = cc in absurd (omega arith)

pub prefixed_more : (bs : List ℕ) (h l : Option ℕ) (r : Option (List ℕ)) (b : ℕ) → pair_byte h l ≡ some b → prefixed bs (cons_byte h l r) ≡ prefixed (bs ++ (b ∷ [])) r
prefixed_more bs none l r b e = let z : ◌≡◌ {A = ℕ} 0 1 = cc in absurd (omega arith)
prefixed_more bs (some h) none r b e = let z : ◌≡◌ {A = ℕ} 0 1 = cc in absurd (omega arith)
prefixed_more bs (some h) (some l) none b e = refl
prefixed_more bs (some h) (some l) (some cs) b e = let f : 16 * h + l ≡ b = cc in rw (append_assoc, f)

-- the characters from number 2 * k on
pub bytes_of_pair : (cs : List ℕ) (k : ℕ)
    → 2 * k + 1 < length cs
    → bytes_of (drop (2 * k) cs) ≡ cons_byte (digit (get_or cs (2 * k) 0)) (digit (get_or cs (2 * k + 1) 0)) (bytes_of (drop (2 * (k + 1)) cs))
unfolding bytes_of
bytes_of_pair cs k h =
    let e : 2 * (k + 1) ≡ suc (suc (2 * k)) = omega arith in
    let f : 2 * k + 1 ≡ suc (2 * k) = omega arith in
    rw (drop-cons cs (2 * k) 0 (omega arith), drop-cons cs (suc (2 * k)) 0 (omega arith), e, f)

-- The bytes written so far, and those that the rest of the line spells.
module _ (line bytes : List ℕ) (k : ℕ) (so_far : bytes_of line ≡ prefixed (take k bytes) (bytes_of (drop (2 * k) line))) where
  pub decode_all : length line ≤ 2 * k → bytes_of line ≡ some (take k bytes)
  unfolding bytes_of
  decode_all h =
      let e : drop (2 * k) line ≡ [] = drop_of_length-le line h in
      let f : prefixed (take k bytes) (bytes_of (drop (2 * k) line)) ≡ some (take k bytes) = rw (e, append-nil) in
      so_far ∙ f

  module _ (within : 2 * k + 1 < length line) where
    high : Option ℕ
    high = digit (get_or line (2 * k) 0)

    low : Option ℕ
    low = digit (get_or line (2 * k + 1) 0)

    rest : Option (List ℕ)
    rest = bytes_of (drop (2 * (k + 1)) line)

    pub decode_none : spelled (pair_byte (digit (get_or line (2 * k) 0)) (digit (get_or line (2 * k + 1) 0))) ≡ None → bytes_of line ≡ none
    unfolding high low rest
    decode_none e =
        let f : bytes_of (drop (2 * k) line) ≡ none = bytes_of_pair line k within ∙ cons_byte_none high low rest (spelled_bad (pair_byte high low) e) in
        rw f at so_far

    pub decode_more : (b : ℕ)
        → spelled (pair_byte (digit (get_or line (2 * k) 0)) (digit (get_or line (2 * k + 1) 0))) ≡ Some b
        → k < length bytes
        → bytes_of line ≡ prefixed (take (k + 1) (set bytes k b)) (bytes_of (drop (2 * (k + 1)) line))
    unfolding high low rest
    decode_more b e h =
        let t : take (k + 1) (set bytes k b) ≡ take k bytes ++ (b ∷ []) = rw (add-one k) (take-suc-set bytes k b h) in
        so_far
        ∙ ap (prefixed (take k bytes)) (bytes_of_pair line k within)
        ∙ prefixed_more (take k bytes) high low rest b (spelled_value (pair_byte high low) b e)
        ∙ ap (λ (p : List ℕ). prefixed p rest) (sym t)

pub prefixed_nil : (o : Option (List ℕ)) → o ≡ prefixed [] o
prefixed_nil none = refl
prefixed_nil (some bs) = refl

pub bytes_of_odd : (n : ℕ) (cs : List ℕ) → length cs ≡ 2 * n + 1 → bytes_of cs ≡ none
unfolding bytes_of
bytes_of_odd n [] e = absurd (omega arith)
bytes_of_odd n (h ∷ []) e = refl
bytes_of_odd zero (h ∷ l ∷ cs) e = absurd (omega arith)
bytes_of_odd (suc n) (h ∷ l ∷ cs) e = rw (bytes_of_odd n cs (omega arith)) (without (digit h) (digit l))
  where
    without : (a b : Option ℕ) → cons_byte a b none ≡ none
    without none b = refl
    without (some a) none = refl
    without (some a) (some b) = refl

-- one byte more
pub big_more : (bs : List ℕ) (b : ℕ) → big (bs ++ (b ∷ [])) ≡ big bs * 256 + b
unfolding big
big_more [] b = omega arith
big_more (a ∷ bs) b =
    let p : 256 ^ suc (length bs) ≡ 256 ^ length bs * 256 = pow-suc 256 (length bs) in
    let l : length (bs ++ (b ∷ [])) ≡ suc (length bs) = omega (arith, length-append bs (b ∷ [])) in
    let m : a * (256 ^ length bs * 256) ≡ a * 256 ^ length bs * 256 = sym (mul_assoc a (256 ^ length bs) 256) in
    let i = big_more bs b in
    rw (l, p, m) (omega arith)

pub big_take : (bs : List ℕ) (k : ℕ) → k < length bs → big (take k bs) * 256 + get_or bs k 0 ≡ big (take (k + 1) bs)
big_take bs k h = rw (add-one k, take-suc bs k 0 h) (sym (big_more (take k bs) (get_or bs k 0)))

pub more_below : (n k b : ℕ) → n < 256 ^ k → b < 256 → n * 256 + b < 256 ^ (k + 1)
more_below n k b h g = let p = pow-suc 256 k in rw (add-one k, p) (omega arith)

pub below_four : (n k : ℕ) → n < 256 ^ k → k ≤ 4 → n < 2 ^ 32
below_four n k h g = let p : 256 ^ k ≤ 256 ^ 4 = pow-le-pow_right (omega arith) g in omega arith

-- a number below 2 ^ 31 stands for itself, one from there on for itself less 2 ^ 32
pub signed_low : (n : ℕ) → n < 2 ^ 31 → signed 32 n ≡ pos n
unfolding signed
signed_low n h = rw (lt-ltb n (2 ^ 31) h)

pub signed_high : (n : ℕ) → 2 ^ 31 ≤ n → signed 32 n ≡ negsuc (2 ^ 32 - suc n)
unfolding signed
signed_high n h = rw (le-ltb n (2 ^ 31) h)

pub less_whole : (n : ℕ) → n < 2 ^ 32 → to_z w64 n -ℤ pos (2 ^ 32) ≡ negsuc (2 ^ 32 - suc n)
less_whole n h = rw (lt-ltb n (2 ^ 63) (omega arith), lt-ltb n (2 ^ 32) h)
