use Rattle.std.proofs.Common.{◌≡◌, arith}
use Rattle.words.specs.Words.{spells_none, spells_more}
use Rattle.words.proofs.last_word.Goals as goal

pub loop-b-init : goal.loop-b-init
loop-b-init c = spells_none _ _

pub loop-b-preserved : goal.loop-b-preserved
loop-b-preserved c = spells_more c.loop-b.invariant c.bit_at.ensures c.loop-b-test.true

pub returns : goal.returns
returns c = let e : c.loop-b.b ≡ 64 = omega arith in rw e at c.loop-b.invariant
