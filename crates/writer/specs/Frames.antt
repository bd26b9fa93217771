-- Laws of frames as lines, and of the frames from a number on.
use Rattle.std.specs.Prelude.{ℕ, zero, suc, ◌+◌, ◌-◌, ◌*◌, ◌/◌, ◌%◌, ◌^◌, ◌<◌, ◌≤◌, ◌≡◌, refl, Bool, true, false, List, [], ◌∷◌, ◌++◌, ℤ, pos, negsuc, length, drop, get_or}
use Rattle.std.proofs.Common.{sym, arith, pow-add, of_z, length-drop, drop_of_length-le}
use Rattle.std.proofs.Math.Nat.{pow-succ'}
use Rattle.std.specs.Int.{w64}
use Rattle.std.proofs.Math.Numerals.{add-one}
use Rattle.std.proofs.Math.Seq.{drop-cons}
use Rattle.types.specs.declared.Verdict.{Verdict}
use Rattle.text.specs.Lines.{lf, digit_of_value, hex_of, unsigned}
use Rattle.text.proofs.OutputSize.{length_line}
use Rattle.text.specs.Output.{line_of, verdict_frame, label_frame, label_frames, blame_frame, blame_if, cell_frames, answer_frame, answer_frames}

-- the line of a frame's bytes from number k on, with byte k's digits taken off
pub line_next : (bs : List ℕ) (k : ℕ)
    → k < length bs
    → line_of (drop k bs) ≡ (digit_of_value (get_or bs k 0 / 16) ∷ digit_of_value (get_or bs k 0 % 16) ∷ []) ++ line_of (drop (k + 1) bs)
unfolding hex_of
line_next bs k h = rw (drop-cons bs k 0 h, add-one k)

pub line_end_lem : (bs : List ℕ) (k : ℕ) → length bs ≤ k → line_of (drop k bs) ≡ lf ∷ []
unfolding hex_of
line_end_lem bs k h = rw (drop_of_length-le bs h)

pub length_line_from : (bs : List ℕ) (k : ℕ) → length (line_of (drop k bs)) ≡ 2 * (length bs - k) + 1
length_line_from bs k = omega (arith, length_line (drop k bs), length-drop k bs)

-- The frames from number k on, with that of k taken off; and the end.
module _ (rs : List ℕ) (os : List ℤ) (k : ℕ) (same : length rs ≡ length os) where
  pub labels_next : k < length rs
      → label_frames k (drop k rs) (drop k os) ≡ label_frame k (get_or rs k 0) (get_or os k (pos 0)) ++ label_frames (k + 1) (drop (k + 1) rs) (drop (k + 1) os)
  unfolding label_frames
  labels_next h = rw (drop-cons rs k 0 h, drop-cons os k (pos 0) (omega arith), add-one k)

  pub labels_end : length rs ≤ k → label_frames k (drop k rs) (drop k os) ≡ []
  unfolding label_frames
  labels_end h = rw (drop_of_length-le rs h)

module _ (f : ℕ → ℕ → List ℕ) (cells : List ℕ) (k : ℕ) where
  pub cells_next : k < length cells → cell_frames f k (drop k cells) ≡ f k (get_or cells k 0) ++ cell_frames f (k + 1) (drop (k + 1) cells)
  unfolding cell_frames
  cells_next h = rw (drop-cons cells k 0 h, add-one k)

  pub cells_end : length cells ≤ k → cell_frames f k (drop k cells) ≡ []
  unfolding cell_frames
  cells_end h = rw (drop_of_length-le cells h)

-- what is written for a mark, or for an answer
abbrev pub cell_frame : Bool → ℕ → ℕ → List ℕ
cell_frame true = blame_if
cell_frame false = answer_frame

pub blame_marked : (p m : ℕ) → (m ≡ 0 → ⊥) → blame_if p m ≡ blame_frame p
blame_marked p zero n = absurd (n refl)
blame_marked p (suc m) n = refl

-- the bits of a number, in the code's definition and in the text's
pub bits_unsigned : (z : ℤ) → of_z w64 z ≡ unsigned 64 z
unfolding unsigned
bits_unsigned (pos n) = refl
bits_unsigned (negsuc n) = refl

-- byte k by a shift
pub byte_shift : (k : ℕ) → 2 ^ (8 * k) ≡ 256 ^ k
byte_shift zero = refl
byte_shift (suc k) =
    let e : 8 * suc k ≡ 8 + 8 * k = omega arith in
    rw (e, pow-add 2 8 (8 * k), byte_shift k) (sym (pow-succ' 256 k))

pub blame_unmarked : (p m : ℕ) → m ≡ 0 → blame_if p m ≡ []
blame_unmarked p m e = rw e

-- the frames of a set: its verdict, what the verdict asks for, and the answers
abbrev pub set_frames : Verdict → List ℕ → List ℕ → List ℕ
set_frames v middle answers = verdict_frame v ++ (middle ++ answer_frames answers)
