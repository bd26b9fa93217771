-- `columns::tell_differences` meets its contract.
use Rattle.std.proofs.Common.{arith, length}
use Rattle.tables.specs.Limits.{square_small}
use Rattle.placing.specs.Placed.{labelled_terms, labelled_sides, labelled_classes}
use Rattle.columns.specs.Answered.{labelled}
use Rattle.columns.proofs.tell_differences.Goals as goal

pub fill_reads-requires-clause-labelled_terms : goal.fill_reads-requires-clause-labelled_terms
fill_reads-requires-clause-labelled_terms c = let s = c.args in labelled_terms (labelled s.terms.now s.propositions.now s.reps.now s.offs.now c.requires.labelling)

pub fill_sides-requires : goal.fill_sides-requires
fill_sides-requires c = let s = c.args in labelled_sides (labelled s.terms.now s.propositions.now s.reps.now s.offs.now c.requires.labelling)

pub apart_classes-requires : goal.apart_classes-requires
apart_classes-requires c =
    let s = c.args in
    (labelled_classes (labelled s.terms.now s.propositions.now s.reps.now s.offs.now c.requires.labelling), omega (arith, square_small (length s.terms.now) c.requires.labelling.accepted.few_terms))
