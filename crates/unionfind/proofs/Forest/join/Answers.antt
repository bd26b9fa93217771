use Rattle.std.proofs.Common.{refl, w64}
use Rattle.std.proofs.lemmas.Int.{to_z-of_z}
use Rattle.unionfind.specs.Uniting.{found_both, pair_joinable, pair_equated}
use Rattle.unionfind.proofs.Forest.join.Goals as goal

pub join_found-requires-clause-in_bounds : goal.join_found-requires-clause-in_bounds
join_found-requires-clause-in_bounds c =
    let r = c.requires in
    let b = found_both c.find-x.ensures.found c.find-y.ensures.found in
    (pair_joinable b r.none_far r.in_bounds.0 r.in_bounds.1 r.z_within).0.1

pub join_found-requires-clause-roots : goal.join_found-requires-clause-roots
join_found-requires-clause-roots c =
    let r = c.requires in
    let b = found_both c.find-x.ensures.found c.find-y.ensures.found in
    (pair_joinable b r.none_far r.in_bounds.0 r.in_bounds.1 r.z_within).1.0

pub returns-clause-equated : goal.returns-clause-equated
returns-clause-equated c =
    let b = found_both c.find-x.ensures.found c.find-y.ensures.found in
    pair_equated b c.args.z refl (rw (to_z-of_z w64 c.args.z c.ranges.z) at c.join_found.ensures.equated)
