use Rattle.std.proofs.Common.{◌≡◌, ◌∙◌, refl, arith, ℤ, ◌+ℤ◌, ◌-ℤ◌, w64}
use Rattle.std.proofs.lemmas.Int.{to_z-of_z}
use borrow.Author.Rules.{sfits_of}
use Rattle.integers.specs.Within.{within_sum, within_difference}
use Rattle.offsets.specs.Fits.{within_fits}
use Rattle.unionfind.proofs.Forest.join_found.Goals as goal

-- the distance of numbers that are read back as they were
read : {z y x z1 y1 x1 : ℤ} → z1 ≡ z → y1 ≡ y → x1 ≡ x → z1 +ℤ y1 -ℤ x1 ≡ z +ℤ y -ℤ x
read ez ey ex = rw (ez, ey, ex) refl

pub join_roots-requires-clause-d_within : goal.join_roots-requires-clause-d_within
join_roots-requires-clause-d_within c =
    let w = c.requires.within in
    let ex = to_z-of_z w64 c.args.x.offset (within_fits (omega arith) w.0) in
    let ey = to_z-of_z w64 c.args.y.offset (within_fits (omega arith) w.1.1) in
    let ez = to_z-of_z w64 c.args.z c.ranges.z in
    let e = to_z-of_z w64 _ (sfits_of c.distance.type_inv) ∙ (c.distance.ensures ∙ read ez ey ex) in
    rw e (within_difference (within_sum w.1.0 w.1.1) w.0)
