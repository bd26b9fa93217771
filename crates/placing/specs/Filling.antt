-- Columns of places that are filled from the rows of a set and its labels. A place is a class and a height: an offset, lifted to a
-- number that is not negative.
use Rattle.std.specs.Prelude.{ℕ, ◌^◌, ◌<◌, ◌≡◌, ◌≢◌, List, ℤ, pos, ◌+ℤ◌, length, get_or}
use Rattle.tables.specs.Limits.{most}
use Rattle.tables.specs.Records.{TermRecord, PropositionRecord, deref_kind, disequality_kind}
use Rattle.points.specs.Places.{class, height, top}

-- offsets are lifted by this
abbrev pub level : ℕ
level = 2 ^ 47

-- h is the offset z, lifted
pub record Lifted (h : ℕ) (z : ℤ) : Type 0 where
  pub is : pos h ≡ z +ℤ pos level
  pub low : h < top

-- the heights of n terms
pub record TermPlaces (n : ℕ) (offs : List ℤ) (heights : List ℕ) : Type 0 where
  pub long : length heights ≡ most
  pub at : (t : ℕ) → t < n → Lifted (height heights t) (get_or offs t (pos 0))

-- the place that term t reads, if it is a dereference; else its class is n
pub record ReadPlace (n : ℕ) (r : TermRecord) (reps : List ℕ) (offs : List ℤ) (a h : ℕ) : Type 0 where
  pub deref_class : r.kind ≡ deref_kind → a ≡ get_or reps r.number 0
  pub deref_height : r.kind ≡ deref_kind → Lifted h (r.offset +ℤ get_or offs r.number (pos 0))
  pub other : r.kind ≢ deref_kind → a ≡ n
  pub low : h < top

pub record ReadPlaces (n : ℕ) (rec : ℕ → TermRecord) (reps : List ℕ) (offs : List ℤ) (k : ℕ) (reads read_heights : List ℕ) : Type 0 where
  pub classes_long : length reads ≡ most
  pub heights_long : length read_heights ≡ most
  pub at : (t : ℕ) → t < k → ReadPlace n (rec t) reps offs (class reads t) (height read_heights t)

-- the places of the sides of proposition k, if it is a disequality; else the left class is n
pub record SidePlace (n : ℕ) (r : PropositionRecord) (reps : List ℕ) (offs : List ℤ) (a p b q : ℕ) : Type 0 where
  pub left_class : r.kind ≡ disequality_kind → a ≡ get_or reps r.left 0
  pub left_height : Lifted p (get_or offs r.left (pos 0))
  pub right_class : b ≡ get_or reps r.right 0
  pub right_height : Lifted q (r.offset +ℤ get_or offs r.right (pos 0))
  pub other : r.kind ≢ disequality_kind → a ≡ n

pub record SidePlaces (n : ℕ) (rec : ℕ → PropositionRecord) (reps : List ℕ) (offs : List ℤ) (k : ℕ) (leftClasses leftHeights rightClasses rightHeights : List ℕ) : Type 0 where
  pub left_long : length leftClasses ≡ most
  pub left_heights_long : length leftHeights ≡ most
  pub right_long : length rightClasses ≡ most
  pub right_heights_long : length rightHeights ≡ most
  pub at : (j : ℕ) → j < k → SidePlace n (rec j) reps offs (class leftClasses j) (height leftHeights j) (class rightClasses j) (height rightHeights j)
