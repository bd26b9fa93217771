use Rattle.std.proofs.Common.{◌-◌, ◌≤◌, refl, arith, rules, eqb-true}
use Rattle.lists.specs.Booleans.{false_true}
use Rattle.marking.specs.Known.{known_from}
use Rattle.marking.proofs.known.is_known.Given as goal

abbrev pub invariant-loop : goal.invariant-loop
invariant-loop l = 0 ≤ l.counter

abbrev pub decreases-loop : goal.decreases-loop
decreases-loop l = 4 - l.counter
