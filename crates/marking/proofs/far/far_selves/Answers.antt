-- `marking::far::far_selves` meets its contract.
use Rattle.std.proofs.Common.{arith}
use Rattle.marking.specs.Far.{far_more}
use Rattle.marking.proofs.far.far_selves.Goals as goal

pub loop-w-preserved : goal.loop-w-preserved
loop-w-preserved c = (omega (arith, c.loop-w-test.true), far_more c.loop-w-test.true c.loop-w.invariant.1 c.common.ensures)
