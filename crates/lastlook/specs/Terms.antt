-- What a clause reads of labelled terms: how many they are, their records, and their labels.
use Rattle.std.specs.Prelude.{ℕ, length}
use Rattle.rules.specs.Assignments.{Placement}
use Rattle.labels.specs.View.{view}
use Rattle.tables.specs.Records.{TermRecord}
use Rattle.tables.specs.Rows.{term_in}
use Rattle.lastlook.specs.declared.LabelledTerms.{LabelledTerms}

abbrev pub count : LabelledTerms → ℕ
count L = length L.terms.now

abbrev pub records : LabelledTerms → ℕ → TermRecord
records L = term_in L.terms.now

abbrev pub labels : LabelledTerms → Placement
labels L = view L.representatives.now L.offsets.now
