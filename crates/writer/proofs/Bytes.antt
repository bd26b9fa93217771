-- The bytes of a number, by std's `to_be_bytes`.
use Rattle.std.specs.Prelude.{ℕ, ◌/◌, ◌%◌, ◌≡◌, List, [], ◌∷◌, ℤ, get_or}
use Rattle.std.proofs.Common.{arith, of_z}
use Rattle.std.specs.Int.{w32, w64, to_be_bytes}
use Rattle.text.specs.Lines.{bytes, unsigned}
use Rattle.writer.specs.Frames.{bits_unsigned}

last : (n : ℕ) → n / 1 % 256 ≡ n % 256
last n = omega arith

pub two_of_eight : (n : ℕ) (r : List ℕ) → r ≡ to_be_bytes w64 n → bytes 2 n ≡ get_or r 6 0 ∷ get_or r 7 0 ∷ []
unfolding bytes
two_of_eight n r e = rw (e, last n)

pub two_of_four : (n : ℕ) (r : List ℕ) → r ≡ to_be_bytes w32 n → bytes 2 n ≡ get_or r 2 0 ∷ get_or r 3 0 ∷ []
unfolding bytes
two_of_four n r e = rw (e, last n)

pub all_eight : (z : ℤ) (r : List ℕ)
    → r ≡ to_be_bytes w64 (of_z w64 z)
    → bytes 8 (unsigned 64 z) ≡ get_or r 0 0 ∷ get_or r 1 0 ∷ get_or r 2 0 ∷ get_or r 3 0 ∷ get_or r 4 0 ∷ get_or r 5 0 ∷ get_or r 6 0 ∷ get_or r 7 0 ∷ []
unfolding bytes
all_eight z r e = rw (e, ← bits_unsigned z, last (of_z w64 z))
