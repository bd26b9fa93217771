use Rattle.std.proofs.Common.{◌-◌, ◌≤◌, rules}
use Rattle.distances.proofs.levels.choose_floor.Given as goal

abbrev pub invariant-loop : goal.invariant-loop
invariant-loop l = l.counter ≤ 32

abbrev pub decreases-loop : goal.decreases-loop
decreases-loop l = 32 - l.counter
