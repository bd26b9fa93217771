-- How long the output is at most, and that it is not empty.
use Rattle.std.specs.Prelude.{ℕ, ◌+◌, ◌*◌}
use Rattle.tables.specs.Limits.{most}

-- a verdict, 512 terms of 27 bytes and 512 questions of 9
abbrev pub largest_output : ℕ
largest_output = 5 + most * 27 + most * 9
