-- The first w words are done.
use Rattle.words.specs.Words.{Rest}
use Rattle.words.proofs.rest.Given as goal

abbrev pub invariant-loop-w : goal.invariant-loop-w
invariant-loop-w l = Rest l.x l.y l.w l.rest
