-- The invariant: the homes before t are in the mask.
use Rattle.std.proofs.Common.{◌-◌, sym, ◌∙◌, arith}
use Rattle.marking.specs.Rows.{Gathering, gathering_start, gathering_more, gathering_done, zeros_long}
use Rattle.marking.proofs.base.own_homes.Given as goal

abbrev pub invariant-loop-t : goal.invariant-loop-t
invariant-loop-t l = Gathering l.n l.points l.a l.t 8 l.own

abbrev pub decreases-loop-t : goal.decreases-loop-t
decreases-loop-t l = l.n - l.t
