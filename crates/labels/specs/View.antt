-- The labelling that two columns hold: representatives and offsets, by the terms' numbers.
use Rattle.std.specs.Prelude.{ℕ, List, ℤ, pos, get_or}
use Rattle.rules.specs.Assignments.{Placement}

abbrev pub view : List ℕ → List ℤ → Placement
view reps offs = record { block = λ t. get_or reps t 0; position = λ t. get_or offs t (pos 0) }
