-- The range's test, at the offset that the bits spell.
use Rattle.std.proofs.Common.{arith}
use Rattle.refusals.specs.Fields.{range_holds}
use Rattle.refusals.proofs.fields.in_range.Goals as goal

pub returns : goal.returns
returns c = let e = range_holds c.args.z in grind (arith, e)
