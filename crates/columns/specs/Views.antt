-- The definitions of the answers, of the records that questions are judged by.
use Rattle.std.specs.Prelude.{ℕ, List}
use Rattle.types.specs.declared.Answer.{Answer}
use Rattle.rules.specs.Terms.{Comparison}
use Rattle.tables.specs.Rows.{Row}
use Rattle.differences.specs.declared.set.SetPlaces.{SetPlaces}
use Rattle.questions.specs.declared.facts.Facts.{Facts}
use Rattle.columns.specs.declared.answering.LabelledTerms.{LabelledTerms}
use Rattle.columns.specs.Asked.{RowJudged, RowsTold}

abbrev pub RowJudgedBy : Facts → LabelledTerms → Comparison → Answer → Type 0
RowJudgedBy F T = RowJudged F.reads.n F.m T.reps.now T.offs.now F.reads.classes.now F.reads.heights.now F.sides.left_classes.now F.sides.left_heights.now F.sides.right_classes.now F.sides.right_heights.now F.apart.now F.pairs.now

abbrev pub RowsToldBy : Facts → LabelledTerms → List Row → ℕ → List ℕ → Type 0
RowsToldBy F T = RowsTold F.reads.n F.m T.reps.now T.offs.now F.reads.classes.now F.reads.heights.now F.sides.left_classes.now F.sides.left_heights.now F.sides.right_classes.now F.sides.right_heights.now F.apart.now F.pairs.now

abbrev pub RowsToldOf : SetPlaces → LabelledTerms → List ℕ → List Row → ℕ → List ℕ → Type 0
RowsToldOf S T pairs = RowsTold S.n S.m T.reps.now T.offs.now S.reads.now S.read_heights.now S.sides.left_classes.now S.sides.left_heights.now S.sides.right_classes.now S.sides.right_heights.now S.apart.now pairs
