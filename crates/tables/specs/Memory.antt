-- The lent memory of a call: the refusals with it, and every cell afterwards.
use Rattle.std.specs.Prelude.{ℕ, ◌≤◌, Bool, ◌||◌, List, ltb, ℤ, length}
use Rattle.std.proofs.Math.Option.{Option}
use Rattle.lists.specs.Overwrite.{overwrite, Keeps}
use Rattle.types.specs.declared.Refusal.TheVariants.{TooShort}
use Rattle.outcome.specs.PairBits.{pair_bytes}
use Rattle.outcome.specs.Outcome.{Outcome}
use Rattle.tables.specs.Limits.{most}
use Rattle.tables.specs.Refusals.{Fault, or_else, fault_if}
use Rattle.tables.specs.TableFaults.{Tables, sizes_fault, records_fault}

pub record Memory : Type 0 where
  pub representatives : List ℕ
  pub offsets : List ℤ
  pub marks : List ℕ
  pub pairs : List ℕ
  pub answers : List ℕ

abbrev pub memory_of : List ℕ → List ℤ → List ℕ → List ℕ → List ℕ → Memory
memory_of r o m p a = record { representatives = r; offsets = o; marks = m; pairs = p; answers = a }

-- lent memory has fewer cells than n terms, m propositions and q questions need
abbrev pub too_short : (n m q : ℕ) → (representatives offsets marks pairs answers : ℕ) → Bool
too_short n m q representatives offsets marks pairs answers =
    ltb representatives n || (ltb offsets n || (ltb marks m || (ltb pairs (pair_bytes n) || ltb answers q)))

-- 8
unfoldable pub room_fault : (n m q : ℕ) → (representatives offsets marks pairs answers : ℕ) → Option Fault
room_fault n m q representatives offsets marks pairs answers =
    fault_if (too_short n m q representatives offsets marks pairs answers) TooShort 0

abbrev pub memory_fault : Tables → Memory → Option Fault
memory_fault T M =
    room_fault T.terms.count T.propositions.count T.questions.count (length M.representatives) (length M.offsets)
    (length M.marks) (length M.pairs) (length M.answers)

-- the refusals of a call in their order: the tables' sizes, the memory, the records
unfoldable pub call_fault : Tables → Memory → Option Fault
call_fault T M = or_else (sizes_fault most T) (or_else (memory_fault T M) (records_fault T))

-- as many cells as the counts need, or more
pub record Enough (n m q : ℕ) (M : Memory) : Type 0 where
  pub representatives : n ≤ length M.representatives
  pub offsets : n ≤ length M.offsets
  pub marks : m ≤ length M.marks
  pub pairs : pair_bytes n ≤ length M.pairs
  pub answers : q ≤ length M.answers

abbrev pub EnoughFor : Tables → Memory → Type 0
EnoughFor T M = Enough T.terms.count T.propositions.count T.questions.count M

-- the memory N after a call has M's lengths, and its cells beyond those that the counts need
pub record Beyond (T : Tables) (M N : Memory) : Type 0 where
  pub representatives : Keeps T.terms.count M.representatives N.representatives
  pub offsets : Keeps T.terms.count M.offsets N.offsets
  pub marks : Keeps T.propositions.count M.marks N.marks
  pub pairs : Keeps (pair_bytes T.terms.count) M.pairs N.pairs
  pub answers : Keeps T.questions.count M.answers N.answers

-- the memory with an outcome in its first cells
unfoldable pub memory_with : Outcome → Memory → Memory
memory_with o M = record {
  representatives = overwrite o.representatives M.representatives;
  offsets = overwrite o.offsets M.offsets;
  marks = overwrite o.marks M.marks;
  pairs = overwrite o.pairs M.pairs;
  answers = overwrite o.answers M.answers;
}
