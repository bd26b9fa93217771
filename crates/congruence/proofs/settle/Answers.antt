use Rattle.std.proofs.Common.{◌∙◌, refl, length}
use Rattle.integers.specs.Within.{within_zero}
use Rattle.tables.specs.Rows.{term_in}
use Rattle.joins.specs.Labels.{labels_near}
use Rattle.joins.specs.Meeting.{chased_start, chased_labels}
use Rattle.congruence.specs.Settling.{flattened_chased, flattened_view, labelled, looked_pair, settled, pair_joined, pair_lighter, pair_held, pair_clashed}
use Rattle.congruence.proofs.settle.Goals as goal

pub loop-x-init : goal.loop-x-init
loop-x-init c = record {
  same_columns = (refl, refl);
  chased = chased_start (length c.args.terms.now) (term_in c.args.terms.now) c.requires.labels;
}

pub flatten-requires : goal.flatten-requires
flatten-requires c = labels_near (chased_labels _ _ c.loop-x.invariant.chased)

pub look-found-requires : goal.look-found-requires
look-found-requires c =
    let f = c.flatten.ensures.flattened in
    labelled c.args.terms.now c.requires.accepted (chased_labels _ _ (flattened_chased f c.loop-x.invariant.chased)) (flattened_view f)

pub returns-in_default-clause-closing : goal.returns-in_default-clause-closing
returns-in_default-clause-closing c =
    let f = c.flatten.ensures.flattened in
    settled _ _ (flattened_chased f c.loop-x.invariant.chased) (flattened_view f) (rw c.in_default.is at c.look-found.ensures)

pub join-requires-clause-none_far : goal.join-requires-clause-none_far
join-requires-clause-none_far c = labels_near (chased_labels _ _ (flattened_chased c.flatten.ensures.flattened c.loop-x.invariant.chased))

pub join-requires-clause-in_bounds : goal.join-requires-clause-in_bounds
join-requires-clause-in_bounds c =
    let L = chased_labels _ _ (flattened_chased c.flatten.ensures.flattened c.loop-x.invariant.chased) in
    let a = looked_pair _ _ c.in-Some.ensures in
    (rw L.count a.below_x, rw L.count a.below_y)

pub join-requires-clause-z_within : goal.join-requires-clause-z_within
join-requires-clause-z_within c = within_zero

pub loop-x-smaller : goal.loop-x-smaller
loop-x-smaller c =
    let f = c.flatten.ensures.flattened in
    let a = rw (flattened_view f) at (looked_pair _ _ c.in-Some.ensures) in
    rw (← f.same) (pair_lighter _ _ (flattened_chased f c.loop-x.invariant.chased) a (rw c.in-Joined.is at c.join.ensures.equated))

pub loop-x-preserved : goal.loop-x-preserved
loop-x-preserved c =
    let f = c.flatten.ensures in
    let j = c.join.ensures in
    let i = c.loop-x.invariant in
    let a = rw (flattened_view f.flattened) at (looked_pair _ _ c.in-Some.ensures) in
    record {
      same_columns = (j.same_columns.0 ∙ f.same_columns.0 ∙ i.same_columns.0, j.same_columns.1 ∙ f.same_columns.1 ∙ i.same_columns.1);
      chased = pair_joined _ _ (flattened_chased f.flattened i.chased) a (rw c.in-Joined.is at j.equated);
    }

pub returns-in-Held-clause-closing : goal.returns-in-Held-clause-closing
returns-in-Held-clause-closing c =
    let a = rw (flattened_view c.flatten.ensures.flattened) at (looked_pair _ _ c.in-Some.ensures) in
    pair_held _ _ a (rw c.in-Held.is at c.join.ensures.equated)

pub returns-in-Clashed-clause-closing : goal.returns-in-Clashed-clause-closing
returns-in-Clashed-clause-closing c =
    let f = c.flatten.ensures.flattened in
    let a = rw (flattened_view f) at (looked_pair _ _ c.in-Some.ensures) in
    pair_clashed _ _ (flattened_chased f c.loop-x.invariant.chased) a (rw c.in-Clashed.is at c.join.ensures.equated)
