-- The invariant: the first t terms are done.
use Rattle.std.proofs.Common.{◌≡◌, ◌-◌, sym, ◌∙◌, arith, rules}
use Rattle.marking.specs.Rows.{zeros_long}
use Rattle.marking.specs.Far.{Selves, selves_none, selves_more, selves_skip}
use Rattle.marking.proofs.far.fill_selves.Given as goal

abbrev pub invariant-loop-t : goal.invariant-loop-t
invariant-loop-t l = Selves l.n l.t l.points l.selves

abbrev pub decreases-loop-t : goal.decreases-loop-t
decreases-loop-t l = l.n - l.t
