-- `marking::base::none_apart` meets its contract.
use Rattle.std.proofs.Common.{◌+◌, ◌-◌, ◌/◌, ◌≤◌, refl, arith}
use Rattle.lists.specs.Booleans.{false_true}
use Rattle.marking.specs.Classes.{zero_more, zero_none, zero_start, ZeroWords}
use Rattle.marking.specs.Marks.{product_small}
use Rattle.marking.proofs.base.none_apart.Goals as goal

pub loop-w-preserved : goal.loop-w-preserved
loop-w-preserved c = (omega (arith, c.loop-w-test.true), zero_more c.word_at.ensures (omega arith) c.loop-w.invariant.1)
