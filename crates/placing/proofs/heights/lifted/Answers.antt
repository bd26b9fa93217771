-- `placing::heights::lifted` meets its contract.
use mir.Syntax.{w64}
use mir.ValLaws.{to_z-of_z}
use borrow.Author.Rules.{rules, sfits_of}
use Rattle.placing.specs.Placed.{level_fits, lifted_bits}
use Rattle.placing.proofs.heights.lifted.Goals as goal

pub sum-requires : goal.sum-requires
sum-requires c = rw (to_z-of_z w64 c.args.z c.ranges.z) (level_fits c.args.z c.requires)

pub returns : goal.returns
returns c =
    let s = c in
    let e = rw (to_z-of_z w64 s.args.z s.ranges.z) at c.sum.ensures in
    rw (c.bits.ensures, to_z-of_z w64 c.sum.result (sfits_of c.sum.type_inv), e) (lifted_bits s.args.z s.requires)
