-- How many bytes a call moved, and which bytes are written.
use Rattle.std.specs.Prelude.{ℕ, ◌-◌, ◌≤◌, ◌≡◌, List, length, take, drop, Option, Result, Ok, Err}
use Rattle.std.proofs.Common.{arith, length-take, length-drop}
use Rattle.std.specs.Io.KnownBytes.{Appends}

abbrev pub Within : {E : Type 0} → Result ℕ E → ℕ → Type 0
Within (Ok n) room = n ≤ room
Within (Err _) room = Unit {0}

-- the bytes that a call moved in the rest of a buffer
pub moved_rest :
    {E : Type 0} (at : ℕ) (buffer : List ℕ) {moved : Result ℕ E} {n room : ℕ} →
    room ≡ length (take (length buffer - at) (drop at buffer)) →
    moved ≡ Ok n →
    Within moved room →
    n ≤ length buffer - at
moved_rest at buffer {n = n} {room = room} e is within =
    let fits : n ≤ room = rw is at within in
    omega (arith, fits, e, length-take (length buffer - at) (drop at buffer), length-drop at buffer)

-- the first of these bytes are written, and nothing else
abbrev pub WritesFirst : Option (List ℕ) → Option (List ℕ) → List ℕ → Type 0
WritesFirst old new bytes = (n : ℕ) × (n ≤ length bytes) × Appends old new (take n bytes)

-- all of these bytes are written at `Ok`, and the first of them at `Err`
abbrev pub PutsBytes : {A E : Type 0} → Result A E → Option (List ℕ) → Option (List ℕ) → List ℕ → Type 0
PutsBytes (Ok _) old new bytes = Appends old new bytes
PutsBytes (Err _) old new bytes = WritesFirst old new bytes
