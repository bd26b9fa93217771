-- `questions::test_either` meets its contract.
use mathlib.Core.Path.{◌∙◌}
use borrow.Author.Rules.{rules}
use Rattle.questions.specs.Searches.{bit_straight, bit_mirrored}
use Rattle.questions.proofs.test_either.Goals as goal

pub returns-then-mirrored : goal.returns-then-mirrored
returns-then-mirrored c = let s = c.args in c.test_pair.ensures ∙ bit_mirrored s.n s.pairs.now s.i.0 s.j.0 c.if-mirrored.true

pub returns : goal.returns
returns c = let s = c.args in c.test_pair-2.ensures ∙ bit_straight s.n s.pairs.now s.i.0 s.j.0 c.if-mirrored.false
