-- The invariant: the words before w are 0.
use Rattle.std.proofs.Common.{◌+◌, ◌-◌, ◌/◌, ◌≤◌, refl, arith}
use Rattle.lists.specs.Booleans.{false_true}
use Rattle.marking.specs.Classes.{zero_more, zero_none, zero_start, ZeroWords}
use Rattle.marking.specs.Marks.{product_small}
use Rattle.marking.proofs.base.none_apart.Given as goal

abbrev pub invariant-loop-w : goal.invariant-loop-w
invariant-loop-w l = (l.w ≤ (l.n + 63) / 64) × ZeroWords l.start l.w l.apart

abbrev pub decreases-loop-w : goal.decreases-loop-w
decreases-loop-w l = (l.n + 63) / 64 - l.w
