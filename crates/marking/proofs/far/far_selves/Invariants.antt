-- The invariant: the words before w are stored.
use Rattle.std.proofs.Common.{◌≡◌, ◌-◌, ◌*◌, ◌≤◌, sym, ◌∙◌, arith}
use Rattle.marking.specs.Marks.{product_small}
use Rattle.marking.specs.Far.{FarSelves, far_none, far_more}
use Rattle.marking.proofs.far.far_selves.Given as goal

abbrev pub invariant-loop-w : goal.invariant-loop-w
invariant-loop-w l = (l.w ≤ 8) × FarSelves l.start l.apart l.selves l.w l.far

abbrev pub decreases-loop-w : goal.decreases-loop-w
decreases-loop-w l = 8 - l.w
