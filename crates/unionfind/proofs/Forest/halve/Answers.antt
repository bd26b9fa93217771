use Rattle.std.proofs.Common.{◌∙◌, refl, arith, get_or, w64, to_z, of_z}
use Rattle.std.proofs.lemmas.Int.{to_z-of_z}
use borrow.Author.Rules.{sfits_of}
use Rattle.offsets.specs.Fits.{within_fits}
use Rattle.unionfind.specs.Hanging.{hung_links}
use Rattle.unionfind.specs.Turns.{halved_within, halved}
use Rattle.unionfind.proofs.Forest.halve.Goals as goal

pub sum-requires : goal.sum-requires
sum-requires c =
    let r = c.requires in
    rw (to_z-of_z w64 _ (sfits_of c.sum-arg-1.given), to_z-of_z w64 _ (sfits_of c.sum-arg-2-1.given))
    (within_fits (omega arith) (halved_within c.args.self.now.links c.args.t r.t_in_bounds.0 r.none_far))

pub invariant_of-self-2 : goal.invariant_of-self-2
invariant_of-self-2 c =
    let l = c.args.self.now.links in
    record { links = hung_links l c.args.t _ _ c.requires.t_in_bounds.0 (omega (arith, l.falls c.args.t, l.falls (get_or c.args.self.now.parents.now c.args.t 0))) }

pub returns-clause-halved : goal.returns-clause-halved
returns-clause-halved c =
    let r = c.requires in
    let e = rw (to_z-of_z w64 _ (sfits_of c.sum-arg-1.given), to_z-of_z w64 _ (sfits_of c.sum-arg-2-1.given)) at c.sum.ensures in
    halved c.args.self.now.links c.args.t r.t_in_bounds.0 _ (to_z w64 (of_z w64 c.sum.result)) r.t_in_bounds.1 refl (to_z-of_z w64 _ (sfits_of c.sum.type_inv) ∙ e)
