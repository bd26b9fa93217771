-- What the values of the code stand for.
use Rattle.std.specs.Prelude.{ℕ, ◌+◌, ◌*◌, Some, None}
use Rattle.std.specs.Prelude as rust
use Rattle.std.proofs.Math.Option.{Option, none, some}

-- the code's Option of a value, or of none
abbrev pub spelled : Option ℕ → rust.Option ℕ
spelled none = None
spelled (some v) = Some v

-- the byte of a high and a low digit
abbrev pub pair_byte : Option ℕ → Option ℕ → Option ℕ
pair_byte none l = none
pair_byte (some h) none = none
pair_byte (some h) (some l) = some (16 * h + l)
