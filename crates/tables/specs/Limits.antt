-- The limits of paper 01.
use Rattle.std.specs.Prelude.{ℕ, ◌*◌, ◌^◌, ◌≤◌}
use Rattle.std.proofs.Common.{arith, mul-le-mul_right}

-- the most terms, propositions and questions
abbrev pub most : ℕ
most = 512

-- atoms are numbered below this
abbrev pub atom_limit : ℕ
atom_limit = 2 ^ 16

-- offsets go from the negation of this up to one less than this
abbrev pub offset_limit : ℕ
offset_limit = 2 ^ 31

-- how many pairs there are of the most terms
pub square_small : (n : ℕ) → n ≤ most → n * n ≤ most * most
square_small n h = omega (arith, mul-le-mul_right n h)
