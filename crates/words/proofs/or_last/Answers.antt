use Rattle.std.proofs.Common.{◌≡◌, arith}
use Rattle.words.specs.Words.{ored_none, ored_both}
use Rattle.words.proofs.or_last.Goals as goal

pub loop-b-init : goal.loop-b-init
loop-b-init c = ored_none _ _ _

pub loop-b-preserved : goal.loop-b-preserved
loop-b-preserved c = ored_both c.loop-b.invariant c.or_bit.ensures

pub returns : goal.returns
returns c = let e : c.loop-b.b ≡ 64 = omega arith in rw e at c.loop-b.invariant
