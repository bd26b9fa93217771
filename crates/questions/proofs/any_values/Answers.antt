-- `questions::any_values` meets its contract.
use borrow.Author.Rules.{rules}
use Rattle.questions.specs.Searches.{straight, mirrored}
use Rattle.questions.proofs.any_values.Goals as goal

pub returns-then-is_smaller : goal.returns-then-is_smaller
returns-then-is_smaller c = let s = c.args in mirrored s.places.now.n s.places.now.classes.now s.places.now.heights.now s.pairs.now s.x.class s.x.height s.y.class s.y.height c.any_from.ensures

pub returns : goal.returns
returns c = let s = c.args in straight s.places.now.n s.places.now.classes.now s.places.now.heights.now s.pairs.now s.x.class s.x.height s.y.class s.y.height c.any_from-2.ensures
