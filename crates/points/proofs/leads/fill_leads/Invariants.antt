-- The invariant: the leads of the first t terms are found.
use Rattle.std.proofs.Common.{◌-◌, length, arith}
use Rattle.points.specs.Leads.{Leading, leading_start, leading_done}
use Rattle.points.proofs.leads.fill_leads.Given as goal

abbrev pub invariant-loop-t : goal.invariant-loop-t
invariant-loop-t l = Leading l.n l.t (length l.initial.leads) l.homes l.classes l.heights l.leads l.r

abbrev pub decreases-loop-t : goal.decreases-loop-t
decreases-loop-t l = l.n - l.t
