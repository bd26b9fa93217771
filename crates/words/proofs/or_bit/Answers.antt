use Rattle.words.specs.Words.{ored_even, ored_odd}
use Rattle.words.proofs.or_bit.Goals as goal

pub returns-then-x-b-eq0 : goal.returns-then-x-b-eq0
returns-then-x-b-eq0 c = ored_even _ _ _ c.if-x-b-eq0.true

pub returns : goal.returns
returns c = rw c.set_bit.ensures (ored_odd _ _ _ c.if-x-b-eq0.false c.if-bytes-at.false)
