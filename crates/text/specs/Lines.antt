-- A text as lines, each ended by one LF; and digits of hexadecimal.
use Prim.Native.Char.{code}
use Rattle.std.specs.Prelude.{ℕ, zero, suc, ◌+◌, ◌*◌, ◌-◌, ◌/◌, ◌%◌, ◌^◌, Bool, true, false, List, [], ◌∷◌, eqb, ltb, ℤ, pos, negsuc, length}
use Prim.Native.String.{char_at}
use Rattle.std.proofs.Math.Option.{Option, none, some}
use Rattle.lists.specs.Search.{choose, find}
use Rattle.lists.specs.Tabulate.{tabulate}

abbrev pub lf : ℕ
lf = 10

-- the characters of a line without its LF, and whether an LF ends it
pub record Line : Type 0 where
  pub characters : List ℕ
  pub ended : Bool

abbrev pub before : ℕ → List Line → List Line
before c [] = record { characters = c ∷ []; ended = false } ∷ []
before c (l ∷ ls) = record { characters = c ∷ l.characters; ended = l.ended } ∷ ls

-- only the last line can lack its LF
unfoldable pub lines_of : List ℕ → List Line
lines_of [] = []
lines_of (c ∷ text) = choose (eqb c lf) (record { characters = []; ended = true } ∷ lines_of text) (before c (lines_of text))

-- the digit of a value below 16
unfoldable pub digit_of_value : ℕ → ℕ
digit_of_value v = code (char_at "0123456789ABCDEF" v)

-- the value whose digit a character is; no other character has one
unfoldable pub digit : ℕ → Option ℕ
digit c = find (λ (v : ℕ). eqb c (digit_of_value v)) (tabulate (λ (v : ℕ). v) 0 16)

abbrev pub cons_byte : Option ℕ → Option ℕ → Option (List ℕ) → Option (List ℕ)
cons_byte none l r = none
cons_byte (some h) none r = none
cons_byte (some h) (some l) none = none
cons_byte (some h) (some l) (some bytes) = some ((16 * h + l) ∷ bytes)

-- the bytes that pairs of digits spell, high digit first
unfoldable pub bytes_of : List ℕ → Option (List ℕ)
bytes_of [] = some []
bytes_of (h ∷ []) = none
bytes_of (h ∷ l ∷ cs) = cons_byte (digit h) (digit l) (bytes_of cs)

-- the number that bytes spell, high byte first
unfoldable pub big : List ℕ → ℕ
big [] = 0
big (b ∷ bs) = b * 256 ^ length bs + big bs

-- the number that k bits spell in two's complement
unfoldable pub signed : ℕ → ℕ → ℤ
signed k n = choose (ltb n (2 ^ (k - 1))) (pos n) (negsuc (2 ^ k - suc n))

-- and back
unfoldable pub unsigned : ℕ → ℤ → ℕ
unsigned k (pos n) = n
unsigned k (negsuc n) = 2 ^ k - suc n

-- the two digits of each byte
unfoldable pub hex_of : List ℕ → List ℕ
hex_of [] = []
hex_of (b ∷ bs) = digit_of_value (b / 16) ∷ digit_of_value (b % 16) ∷ hex_of bs

-- k bytes of a number, high byte first
unfoldable pub bytes : ℕ → ℕ → List ℕ
bytes zero n = []
bytes (suc k) n = (n / 256 ^ k % 256) ∷ bytes k n
