-- The answer to a question about two places, from the table of apart classes, the disequalities and the pair table.
use Rattle.std.specs.Prelude.{ℕ, ◌+◌, ◌*◌, ◌<◌, ◌≡◌, true, List}
use Rattle.types.specs.declared.Answer.{Answer}
use Rattle.types.specs.declared.Answer.TheVariants.{Neither, Equal, Different}
use Rattle.pairbits.specs.Bits.{is_set}
use Rattle.marking.specs.Marks.{Room}
use Rattle.points.specs.Places.{class, height, At, Chained}
use Rattle.marking.specs.Classes.{differ_by_classes, Sides}
use Rattle.questions.specs.Sides.{SideChains}

-- proposition k is a disequality between the classes a and b whose sides are as far apart as p and q
pub record Shows (n : ℕ) (leftClasses leftHeights rightClasses rightHeights : List ℕ) (a p b q k : ℕ) : Type 0 where
  pub listed : class leftClasses k < n
  pub left : class leftClasses k ≡ a
  pub right : class rightClasses k ≡ b
  pub far : height leftHeights k + q ≡ height rightHeights k + p

module _ (n m : ℕ) (reads read_heights leftClasses leftHeights rightClasses rightHeights apart pairs : List ℕ) (a p b q : ℕ) where
  -- the ways in which the places (a, p) and (b, q) are different
  pub data Differ : Type 0 where
    by_classes : differ_by_classes n apart a p b q ≡ true → Differ
    by_listed : (k : ℕ) → k < m → Shows n leftClasses leftHeights rightClasses rightHeights a p b q k → Differ
    by_mirrored : (k : ℕ) → k < m → Shows n leftClasses leftHeights rightClasses rightHeights b q a p k → Differ
    by_values : (x y : ℕ) → x < n → y < n → At reads read_heights a p b q x y → is_set pairs (x * n + y) ≡ true → Differ

  abbrev pub Same : Type 0
  Same = (a ≡ b) × (p ≡ q)

  -- the answer r
  pub data Judged (r : Answer) : Type 0 where
    says_equal : r ≡ Equal → Same → Judged r
    says_different : r ≡ Different → (Same → ⊥) → Differ → Judged r
    says_neither : r ≡ Neither → (Same → ⊥) → (Differ → ⊥) → Judged r

-- what the answers are made from: the places that are read and those of the disequalities' sides, both in chains, and the two tables
pub record Judging (n m : ℕ) (reads read_heights classFirst classNext slotFirst slotNext leftClasses leftHeights rightClasses rightHeights sideFirst sideNext apart pairs : List ℕ) : Type 0 where
  pub chained : Chained n reads read_heights classFirst classNext slotFirst slotNext
  pub sides : Sides n m leftClasses leftHeights rightClasses rightHeights
  pub by_distance : SideChains m leftClasses leftHeights rightHeights sideFirst sideNext
  pub apart_room : Room n apart
  pub pairs_room : Room n pairs
