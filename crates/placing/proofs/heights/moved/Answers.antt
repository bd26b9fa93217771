-- `placing::heights::moved` meets its contract.
use mir.Syntax.{w64}
use mir.ValLaws.{to_z-of_z}
use borrow.Author.Rules.{sfits_of}
use Rattle.placing.specs.Placed.{moved_within, moved_fits}
use Rattle.placing.proofs.heights.moved.Goals as goal

pub sum-requires : goal.sum-requires
sum-requires c = rw (to_z-of_z w64 c.args.z c.ranges.z, to_z-of_z w64 c.args.o c.ranges.o) (moved_fits c.requires.0 c.requires.1)

pub lifted-requires : goal.lifted-requires
lifted-requires c =
    let s = c in
    let e = rw (to_z-of_z w64 s.args.z s.ranges.z, to_z-of_z w64 s.args.o s.ranges.o) at c.sum.ensures in
    rw (to_z-of_z w64 c.sum.result (sfits_of c.sum.type_inv), e) (moved_within s.requires.0 s.requires.1)
