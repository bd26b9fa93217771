-- The definitions of the pair table, of the places of a set.
use Rattle.std.specs.Prelude.{ℕ, List}
use Rattle.differences.specs.declared.set.SetPlaces.{SetPlaces}
use Rattle.differences.specs.Table.{Placed, Told}

abbrev pub ToldOf : SetPlaces → ℕ → List ℕ → Type 0
ToldOf S = Told S.n S.m S.classes.now S.heights.now S.reads.now S.read_heights.now S.sides.left_classes.now S.sides.left_heights.now S.sides.right_classes.now S.sides.right_heights.now S.apart.now

abbrev pub PlacedOf : SetPlaces → ℕ → List ℕ → List ℕ → List ℕ → Type 0
PlacedOf S count homes points leads = Placed S.n count S.classes.now S.heights.now homes points leads S.reads.now S.read_heights.now
