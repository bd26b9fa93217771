-- What a run of the program writes.
use Rattle.std.specs.Prelude.{List, ℕ, Option, Result, Ok, Err}
use Rattle.std.specs.Io.KnownBytes.{Appends, Keeps}
use Rattle.bucketmonk.specs.Calls.{WritesFirst}
use Rattle.bucketmonk.specs.declared.failure.Failure.{Failure}
use Rattle.bucketmonk.specs.declared.failure.Failure.TheVariants.{Input, Output}

-- the whole answer, its first bytes where writing failed, or nothing where the text could not be read
abbrev pub WritesAnswer : {A : Type 0} → Result A Failure → Option (List ℕ) → Option (List ℕ) → List ℕ → Type 0
WritesAnswer (Ok _) old new answer = Appends old new answer
WritesAnswer (Err (Output _)) old new answer = WritesFirst old new answer
WritesAnswer (Err (Input _)) old new answer = Keeps old new
