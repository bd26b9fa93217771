use Rattle.congruence.specs.Closing.{closing_then, chased_clash}
use Rattle.congruence.proofs.close.Goals as goal

pub returns-then-propagate-clause-closing : goal.returns-then-propagate-clause-closing
returns-then-propagate-clause-closing c = closing_then _ _ (rw c.if-propagate.true at c.propagate.ensures.chased) c.settle.ensures.closing

pub returns-else-propagate-clause-closing : goal.returns-else-propagate-clause-closing
returns-else-propagate-clause-closing c = rw c.if-propagate.false (chased_clash _ _ (rw c.if-propagate.false at c.propagate.ensures.chased))
