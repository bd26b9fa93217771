use Rattle.std.proofs.Common.{arith, w64}
use Rattle.std.proofs.lemmas.Int.{to_z-of_z}
use borrow.Author.Rules.{sfits_of}
use Rattle.integers.specs.Within.{within_sum, within_difference}
use Rattle.offsets.specs.Fits.{within_fits}
use Rattle.unionfind.proofs.distance.Goals as goal

pub sum-requires : goal.sum-requires
sum-requires c =
    rw (to_z-of_z w64 c.args.z c.ranges.z, to_z-of_z w64 c.args.y c.ranges.y)
    (within_fits (omega arith) (within_sum c.requires.1.0 c.requires.1.1))

pub difference-requires : goal.difference-requires
difference-requires c =
    let e = rw (to_z-of_z w64 c.args.z c.ranges.z, to_z-of_z w64 c.args.y c.ranges.y) at c.sum.ensures in
    rw (to_z-of_z w64 c.sum.result (sfits_of c.sum.type_inv), to_z-of_z w64 c.args.x c.ranges.x, e)
    (within_fits (omega arith) (within_difference (within_sum c.requires.1.0 c.requires.1.1) c.requires.0))
