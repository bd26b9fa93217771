-- Laws of specs/PairBits.
use Rattle.std.specs.Prelude.{ℕ, zero, suc, ◌+◌, ◌*◌, ◌/◌, ◌%◌, ◌^◌, ◌<◌, ◌≤◌, ◌≡◌, Bool, true, false}
use Rattle.std.proofs.Common.{◌∙◌, arith, shr-shr, lt-ltb, le-ltb}
use Rattle.std.proofs.Math.Arith.{digits_lt, digits_div, digits_mod}
use Rattle.lists.specs.Tabulate.{tabulate_at}
use Rattle.outcome.specs.PairBits.{bit_value, number, pair_bytes, pair_bit, pair_bits, bit_of}

pub bit_value_below : (b : Bool) → bit_value b < 2
bit_value_below true = omega arith
bit_value_below false = omega arith

pub number_bit : (g : ℕ → Bool) (k b : ℕ) → b < k → number g k / 2 ^ b % 2 ≡ bit_value (g b)
unfolding number
number_bit g zero b h = absurd (omega arith)
number_bit g (suc k) zero h = omega (arith, bit_value_below (g 0))
number_bit g (suc k) (suc b) h =
    let n = bit_value (g 0) + 2 * number (λ c. g (suc c)) k in
    let half : n / 2 ≡ number (λ c. g (suc c)) k = omega (arith, bit_value_below (g 0)) in
    let e : n / 2 ^ 1 / 2 ^ b ≡ n / 2 ^ (1 + b) = shr-shr n 1 b in
    let p : 1 + b ≡ suc b = omega arith in
    let q : n / 2 ^ suc b ≡ number (λ c. g (suc c)) k / 2 ^ b = rw (← p, ← e, half) in
    rw q (number_bit (λ c. g (suc c)) k b (omega arith))

-- a bit of the table's bytes
table_bit : (f : ℕ → ℕ → Bool) (n i : ℕ) → i < 8 * pair_bytes n → bit_of (pair_bits f n) i ≡ bit_value (pair_bit f n i)
unfolding bit_of pair_bits
table_bit f n i h =
    let whole : 8 * (i / 8) + i % 8 ≡ i = omega arith in
    let start : 0 + i / 8 ≡ i / 8 = omega arith in
    let byte = tabulate_at (λ y. number (λ b. pair_bit f n (8 * y + b)) 8) 0 (pair_bytes n) (i / 8) 0 (omega arith) in
    rw (byte, start, number_bit (λ b. pair_bit f n (8 * (i / 8) + b)) 8 (i % 8) (omega arith), whole)

-- the bit of a pair is what the table was made from
pub pair_bit_lem : (f : ℕ → ℕ → Bool) (n i j : ℕ) → i < n → j < n → bit_of (pair_bits f n) (i * n + j) ≡ bit_value (f i j)
unfolding pair_bit
pair_bit_lem f n i j hi hj =
    let inside : i * n + j < n * n = digits_lt hi hj in
    table_bit f n (i * n + j) (omega arith) ∙ rw (lt-ltb (i * n + j) (n * n) inside, digits_div i hj, digits_mod i hj)

-- a bit that is no pair's is 0
pub unused_bit : (f : ℕ → ℕ → Bool) (n i : ℕ) → n * n ≤ i → i < 8 * pair_bytes n → bit_of (pair_bits f n) i ≡ 0
unfolding pair_bit
unused_bit f n i h g = table_bit f n i g ∙ rw (le-ltb i (n * n) h)
