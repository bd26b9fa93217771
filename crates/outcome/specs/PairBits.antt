-- The table of pair bits: bit i × n + j for the pair (i, j) of n terms, lowest bit of a byte first, unused bits 0.
use Rattle.std.specs.Prelude.{ℕ, zero, suc, ◌+◌, ◌*◌, ◌/◌, ◌%◌, ◌^◌, Bool, true, false, ◌&&◌, List, ltb, get_or}
use Rattle.lists.specs.Tabulate.{tabulate}

abbrev pub bit_value : Bool → ℕ
bit_value true = 1
bit_value false = 0

-- the number of k bits whose bit b is g b
unfoldable pub number : (ℕ → Bool) → ℕ → ℕ
number g zero = 0
number g (suc k) = bit_value (g 0) + 2 * number (λ b. g (suc b)) k

-- the least number of bytes that holds n × n bits
abbrev pub pair_bytes : ℕ → ℕ
pair_bytes n = (n * n + 7) / 8

-- bit i of the table
unfoldable pub pair_bit : (ℕ → ℕ → Bool) → ℕ → ℕ → Bool
pair_bit f n i = ltb i (n * n) && f (i / n) (i % n)

unfoldable pub pair_bits : (ℕ → ℕ → Bool) → ℕ → List ℕ
pair_bits f n = tabulate (λ k. number (λ b. pair_bit f n (8 * k + b)) 8) 0 (pair_bytes n)

-- bit i of a table of bytes
unfoldable pub bit_of : List ℕ → ℕ → ℕ
bit_of bytes i = get_or bytes (i / 8) 0 / 2 ^ (i % 8) % 2
