-- The marks while propositions are tried, a run at a time, from the highest number down.
use Rattle.std.specs.Prelude.{ℕ, ◌+◌, ◌<◌, ◌≤◌, ◌≡◌, Bool, true, ℤ}
use Rattle.std.proofs.Math.Bool.{false}
use mathlib.Core.List.{List, map}
use Rattle.std.proofs.Math.ListN.{length, get_or}
use Rattle.lists.specs.Search.{choose}
use Rattle.outcome.specs.Blame.{drop_below, blame}
use Rattle.outcome.specs.PairBits.{bit_value}
use Rattle.tables.specs.Sets.{Set, AcceptedSet, terms_in, propositions_in}
use Rattle.consistency.specs.Live.{is_kept, kept_of}
use Rattle.blame.specs.Kept.{AllKept, kept_is_contradictory}
use Rattle.blame.specs.Runs.{set_run}

-- an accepted set, with a mark for each proposition and a label for each term
pub record MarkedSet (S : Set) (marks reps : List ℕ) (offs : List ℤ) : Type 0 where
  pub good : AcceptedSet S
  pub marks_count : length marks ≡ S.propositions
  pub reps_count : length reps ≡ S.terms
  pub offs_count : length offs ≡ S.terms

-- the marks of the blamed propositions
abbrev pub marks_of_blame : Set → List ℕ
marks_of_blame S = map bit_value (blame (terms_in S) (propositions_in S))

-- those that are kept without the run from..to are contradictory
unfoldable pub is_droppable : Set → List ℕ → ℕ → ℕ → Bool
is_droppable S marks from to = kept_is_contradictory S (set_run marks from to 0)

-- the marks after the run was tried: cleared if it can be dropped
unfoldable pub tried_run : Set → List ℕ → ℕ → ℕ → List ℕ
tried_run S marks from to = choose (is_droppable S marks from to) (set_run marks from to 0) marks

-- the propositions below k are still to be tried
pub record Trying (S : Set) (marks : List ℕ) (k : ℕ) : Type 0 where
  pub within : k ≤ S.propositions
  pub count : length marks ≡ S.propositions
  pub bits : (j : ℕ) → j < S.propositions → get_or marks j 0 ≡ bit_value (is_kept marks j)
  pub ones : AllKept marks k
  pub rest : drop_below (terms_in S) (propositions_in S) k (kept_of S marks) ≡ blame (terms_in S) (propositions_in S)

-- with the labels that the verdict works in, and the length of the next run
pub record Turn (S : Set) (marks reps : List ℕ) (offs : List ℤ) (k run : ℕ) : Type 0 where
  pub trying : Trying S marks k
  pub reps_count : length reps ≡ S.terms
  pub offs_count : length offs ≡ S.terms
  pub run_least : 0 < run
  pub run_most : run + k ≤ S.propositions + 1

-- the run high..to is dropped from the marks `old`, and the run low..to can't be: the highest blamed proposition below `to` is in low..high
pub record BlamedIn (S : Set) (old : List ℕ) (to : ℕ) (marks : List ℕ) (low high : ℕ) : Type 0 where
  pub nonempty : low < high
  pub below : high ≤ to
  pub are : marks ≡ set_run old high to 0
  pub dropped : high < to → is_droppable S old high to ≡ true
  pub stays : is_droppable S old low to ≡ false

-- with the labels that the verdict works in
pub record Halving (S : Set) (old : List ℕ) (to : ℕ) (marks reps : List ℕ) (offs : List ℤ) (low high : ℕ) : Type 0 where
  pub blamed : BlamedIn S old to marks low high
  pub reps_count : length reps ≡ S.terms
  pub offs_count : length offs ≡ S.terms
