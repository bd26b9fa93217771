use Rattle.std.proofs.Common.{arith, w64}
use Rattle.std.proofs.lemmas.Int.{to_z-of_z}
use Rattle.lastlook.specs.Order.{key_of}
use Rattle.lastlook.proofs.key.Goals as goal

pub returns : goal.returns
unfolding key_of
returns c =
    let e = rw (to_z-of_z w64 c.args.address c.ranges.address) at c.bits-a.ensures in
    (rw (e, c.from-c.ensures), omega arith)
