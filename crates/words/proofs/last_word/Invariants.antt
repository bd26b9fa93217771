-- The bits read so far.
use Rattle.words.specs.Words.{Spells}
use Rattle.words.proofs.last_word.Given as goal

abbrev pub invariant-loop-b : goal.invariant-loop-b
invariant-loop-b l = Spells l.bytes l.at l.b l.word
