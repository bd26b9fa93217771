use Rattle.std.proofs.Common.{◌-◌, ◌≤◌, arith, rules}
use Rattle.points.proofs.leads.find_lead.Given as goal

abbrev pub invariant-loop-p : goal.invariant-loop-p
invariant-loop-p l = l.p ≤ 8

abbrev pub decreases-loop-p : goal.decreases-loop-p
decreases-loop-p l = 8 - l.p
