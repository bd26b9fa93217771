-- The bits set so far.
use Rattle.words.specs.Words.{Ored}
use Rattle.words.proofs.or_last.Given as goal

abbrev pub invariant-loop-b : goal.invariant-loop-b
invariant-loop-b l = Ored l.initial.bytes l.at l.b l.x l.bytes
