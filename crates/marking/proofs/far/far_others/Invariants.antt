-- The invariant: the terms before t are done.
use Rattle.std.proofs.Common.{◌-◌, ◌∙◌, arith}
use Rattle.marking.specs.Far.{FarOthers, one_below, others_done, others_more, others_start}
use Rattle.marking.proofs.far.far_others.Given as goal

abbrev pub invariant-loop-t : goal.invariant-loop-t
invariant-loop-t l = FarOthers l.n l.a l.apart l.points l.t l.initial.far l.far

abbrev pub decreases-loop-t : goal.decreases-loop-t
decreases-loop-t l = l.n - l.t
