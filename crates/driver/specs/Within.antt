-- What `write_output` leaves.
use Rattle.std.specs.Prelude.{ℕ, ◌+◌, ◌<◌, ◌≤◌, ◌≡◌, Bool, true, false, List, [], leb, length, take}
use Rattle.std.proofs.Math.Path.{refl}
use Rattle.std.proofs.Common.{◌∙◌, arith, leb-true, le-leb}
use Rattle.std.proofs.lemmas.Bool.{lt-leb}
use Rattle.std.proofs.lemmas.List.Edits.{sets-eq}
use Rattle.lists.specs.Search.{choose}
use Rattle.lists.specs.Overwrite.{overwrite}
use Rattle.text.specs.Reading.{reading}
use Rattle.text.specs.Output.{judged, reading_frames, output}
use Rattle.text.specs.OutputSize.{largest_output}
use Rattle.text.proofs.OutputSize.{output_size}
use Rattle.writer.specs.Appended.{Appended}

-- what is written to a buffer of so many bytes: the output, if there is room for the largest, else nothing
unfoldable pub output_within : List ℕ → ℕ → List ℕ
output_within text room = choose (leb largest_output room) (output text) []

-- the output is written whole if there is room for the largest one, else not at all
pub written_whole : (text : List ℕ) (room : ℕ) → largest_output ≤ room → output_within text room ≡ output text
unfolding output_within
written_whole text room h = rw (le-leb largest_output room h)

pub written_not : (text : List ℕ) (room : ℕ) → room < largest_output → output_within text room ≡ []
unfolding output_within
written_not text room h = rw (lt-leb largest_output room h)

-- the answer n and the buffer afterwards
abbrev pub WritesOutput : List ℕ → List ℕ → ℕ → List ℕ → Type 0
WritesOutput text old n new = (n ≡ length (output_within text (length old))) × (new ≡ overwrite (output_within text (length old)) old)

pub written_all : (text old : List ℕ) (n : ℕ) (new : List ℕ) → WritesOutput text old n new → largest_output ≤ length old → (n ≡ length (output text)) × (new ≡ overwrite (output text) old)
written_all text old n new w h = rw (written_whole text (length old) h) at w

pub written_none : (text old : List ℕ) (n : ℕ) (new : List ℕ) → WritesOutput text old n new → length old < largest_output → (n ≡ 0) × (new ≡ old)
written_none text old n new w h = rw (written_not text (length old) h) at w

appended_overwrite : (old bytes new : List ℕ) (n : ℕ) → Appended old 0 bytes new n → length bytes ≤ length old → (n ≡ length bytes) × (new ≡ overwrite bytes old)
appended_overwrite old bytes new n a h =
    let z : 0 + length bytes ≡ length bytes = omega arith in
    (a.place ∙ z, a.cells ∙ rw z at (sets-eq bytes old 0 (omega arith)))

module _ (text old : List ℕ) where
  pub writes_nothing : length old < largest_output → WritesOutput text old 0 old
  writes_nothing h = rw (written_not text (length old) h) (refl, refl)

  output_is : output text ≡ reading_frames (reading (take judged text))
  unfolding output
  output_is = refl

  pub writes_all : largest_output ≤ length old
      → (part : List ℕ)
      → part ≡ take judged text
      → (n : ℕ) (new : List ℕ)
      → Appended old 0 (reading_frames (reading part)) new n
      → WritesOutput text old n new
  writes_all h part e n new a =
      rw (written_whole text (length old) h)
      (appended_overwrite old (output text) new n (rw (output_is, ← e) a) (omega (arith, output_size text)))

-- never more than there is room for
pub output_within_lem : (text : List ℕ) (room : ℕ) → length (output_within text room) ≤ room
unfolding output_within
output_within_lem text room = go (leb largest_output room) refl
  where
    go : (b : Bool) → leb largest_output room ≡ b → length (choose b (output text) []) ≤ room
    go true e = omega (arith, leb-true largest_output room e, output_size text)
    go false e = omega arith
