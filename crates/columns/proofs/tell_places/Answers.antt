-- `columns::tell_places` meets its contract.
use Rattle.tables.specs.Sets.{set_of}
use Rattle.columns.specs.Meaning.{pairs_told, side_columns, table_given}
use Rattle.columns.specs.Answered.{answers_told}
use Rattle.columns.proofs.tell_places.Goals as goal

pub invariant_of-set : goal.invariant_of-set
invariant_of-set c =
    let s = c.args in
    let F = c.requires.filled in
    record { given = table_given (set_of s.terms.now s.propositions.now) s.reps.now s.offs.now c.requires.labelling F.terms F.reading F.sides F.apart_classes }

pub answer_all-requires-clause-side_columns : goal.answer_all-requires-clause-side_columns
answer_all-requires-clause-side_columns c =
    let s = c.args in
    let F = c.requires.filled in
    side_columns (set_of s.terms.now s.propositions.now) s.reps.now s.offs.now c.requires.labelling F.terms F.reading F.sides F.apart_classes

pub returns-clause-pairs_value : goal.returns-clause-pairs_value
returns-clause-pairs_value c =
    let s = c.args in
    let F = c.requires.filled in
    pairs_told (set_of s.terms.now s.propositions.now) s.reps.now s.offs.now c.requires.labelling F.terms F.reading F.sides F.apart_classes c.pair_table.ensures c.requires.asking.pairs_count

pub returns-clause-answers_value : goal.returns-clause-answers_value
returns-clause-answers_value c =
    let s = c.args in
    answers_told (set_of s.terms.now s.propositions.now) s.reps.now s.offs.now c.requires.labelling c.requires.filled c.pair_table.ensures s.questions.now c.requires.asking.accepted c.answer_all.ensures
