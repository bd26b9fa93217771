use Rattle.std.proofs.Common.{refl, pos}
use Rattle.integers.specs.Within.{within_zero}
use Rattle.unionfind.specs.Uniting.{found_both, pair_joinable, pair_equated}
use Rattle.joins.specs.Labels.{labels_near, unchanged_labels}
use Rattle.joins.specs.Meeting.{found_unchanged}
use Rattle.joins.proofs.merge.Goals as goal

pub find-a-requires-clause-none_far : goal.find-a-requires-clause-none_far
find-a-requires-clause-none_far c = labels_near c.requires.labels

pub find-b-requires-clause-none_far : goal.find-b-requires-clause-none_far
find-b-requires-clause-none_far c = labels_near (unchanged_labels (found_unchanged c.find-a.ensures.found) c.requires.labels)

pub join_found-requires-clause-in_bounds : goal.join_found-requires-clause-in_bounds
join_found-requires-clause-in_bounds c =
    let r = c.requires in
    let b = found_both c.find-a.ensures.found c.find-b.ensures.found in
    (pair_joinable b (labels_near r.labels) r.in_bounds.0 r.in_bounds.1 within_zero).0.1

pub join_found-requires-clause-roots : goal.join_found-requires-clause-roots
join_found-requires-clause-roots c =
    let r = c.requires in
    let b = found_both c.find-a.ensures.found c.find-b.ensures.found in
    (pair_joinable b (labels_near r.labels) r.in_bounds.0 r.in_bounds.1 within_zero).1.0

pub join_found-requires-clause-within : goal.join_found-requires-clause-within
join_found-requires-clause-within c =
    let r = c.requires in
    let b = found_both c.find-a.ensures.found c.find-b.ensures.found in
    (pair_joinable b (labels_near r.labels) r.in_bounds.0 r.in_bounds.1 within_zero).1.1

pub returns-clause-equated : goal.returns-clause-equated
returns-clause-equated c =
    let b = found_both c.find-a.ensures.found c.find-b.ensures.found in
    pair_equated b (pos 0) refl c.join_found.ensures.equated
