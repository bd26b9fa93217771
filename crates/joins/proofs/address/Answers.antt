use Rattle.std.proofs.Common.{◌∙◌, refl, w64}
use Rattle.std.proofs.lemmas.Int.{to_z-of_z}
use borrow.Author.Rules.{sfits_of}
use Rattle.integers.specs.Within.{Within}
use Rattle.labels.specs.Spread.{far}
use Rattle.joins.specs.Labels.{labels_near}
use Rattle.joins.specs.Meeting.{address_fits, offset_fits, far_fits}
use Rattle.joins.proofs.address.Goals as goal

pub find-inner-requires-clause-none_far : goal.find-inner-requires-clause-none_far
find-inner-requires-clause-none_far c = labels_near c.requires.labels

pub sum-requires : goal.sum-requires
sum-requires c =
    let f = c.find-inner.ensures.found in
    let w = c.requires.in_bounds.1 in
    let b : Within far c.find-inner.result.offset = rw f.offset ((labels_near c.requires.labels).near c.requires.in_bounds.0) in
    rw (to_z-of_z w64 c.args.r.offset (offset_fits w), to_z-of_z w64 c.find-inner.result.offset (far_fits b)) (address_fits w b)

pub returns-clause-addressed : goal.returns-clause-addressed
returns-clause-addressed c =
    let f = c.find-inner.ensures.found in
    let w = c.requires.in_bounds.1 in
    let b : Within far c.find-inner.result.offset = rw f.offset ((labels_near c.requires.labels).near c.requires.in_bounds.0) in
    let e = rw (to_z-of_z w64 c.args.r.offset (offset_fits w), to_z-of_z w64 c.find-inner.result.offset (far_fits b)) at c.sum.ensures in
    record {
      unchanged = record { links = f.links; same = f.same; long = f.long };
      class = f.root;
      address = to_z-of_z w64 c.sum.result (sfits_of c.sum.type_inv) ∙ e ∙ rw f.offset refl;
    }
