-- `expansion::expand_word` meets its contract.
use Prim.Native.Nat.{◌-◌}
use native.Mathlib.Omega.{arith}
use Rattle.marking.specs.Marks.{room_kept}
use Rattle.expansion.specs.Expand.{WordLoop, word_done, word_first, word_next}
use Rattle.expansion.proofs.expand_word.Goals as goal

pub returns : goal.returns
returns c = let s = c in word_done s.args.terms.now.n s.args.terms.now.homes.now s.args.terms.now.own c.width-end.ensures c.loop-b-test.false c.loop-b.invariant
