use Rattle.std.proofs.Common.{◌∙◌, refl, arith, w64}
use Rattle.std.proofs.lemmas.Int.{to_z-of_z}
use borrow.Author.Rules.{sfits_of}
use Rattle.offsets.specs.Fits.{within_fits}
use Rattle.unionfind.specs.Turns.{finding_start, finding_within, finding_next, finding_found, below_root_within, below_root_found}
use Rattle.unionfind.proofs.Forest.find.Goals as goal

pub loop-at-init : goal.loop-at-init
loop-at-init c = record {
  same_columns = (refl, refl);
  finding = finding_start c.args.self.now.links c.requires.t_in_bounds;
}

pub returns-then-up-at-clause-found : goal.returns-then-up-at-clause-found
returns-then-up-at-clause-found c = finding_found c.loop-at.invariant.finding _ c.if-up-at.true refl refl

pub sum-requires : goal.sum-requires
sum-requires c =
    rw (to_z-of_z w64 _ (sfits_of c.sum-arg-1.given))
    (within_fits (omega arith) (below_root_within c.loop-at.invariant.finding c.if-self-up.true c.requires.none_far c.requires.t_in_bounds))

pub returns-then-self-up-clause-found : goal.returns-then-self-up-clause-found
returns-then-self-up-clause-found c =
    let e = rw (to_z-of_z w64 _ (sfits_of c.sum-arg-1.given)) at c.sum.ensures in
    below_root_found c.loop-at.invariant.finding c.if-self-up.true _ refl (to_z-of_z w64 _ (sfits_of c.sum.type_inv) ∙ e)

pub halve-top-requires-clause-none_far : goal.halve-top-requires-clause-none_far
halve-top-requires-clause-none_far c =
    let i = c.loop-at.invariant.finding in
    rw (i.long, i.same) c.requires.none_far

pub halve-top-requires-clause-t_in_bounds : goal.halve-top-requires-clause-t_in_bounds
halve-top-requires-clause-t_in_bounds c = (c.loop-at.invariant.finding.below, c.if-up-at.false)

pub sum-offset-requires : goal.sum-offset-requires
sum-offset-requires c =
    rw (to_z-of_z w64 _ (sfits_of c.sum-arg-in-loop-at-1.given))
    (within_fits (omega arith) (finding_within c.loop-at.invariant.finding c.halve-top.ensures.halved c.requires.none_far c.requires.t_in_bounds))

pub loop-at-preserved : goal.loop-at-preserved
loop-at-preserved c =
    let h = c.halve-top.ensures in
    let i = c.loop-at.invariant in
    let e = rw (to_z-of_z w64 _ (sfits_of c.sum-arg-in-loop-at-1.given)) at c.sum-offset.ensures in
    record {
      same_columns = (h.same_columns.0 ∙ i.same_columns.0, h.same_columns.1 ∙ i.same_columns.1);
      finding = finding_next i.finding h.halved (to_z-of_z w64 _ (sfits_of c.sum-offset.type_inv) ∙ e);
    }
