use Rattle.std.proofs.Common.{◌-◌, ◌≤◌, rules}
use Rattle.distances.proofs.levels.list_large.Given as goal

abbrev pub invariant-loop-c : goal.invariant-loop-c
invariant-loop-c l = (l.c ≤ l.n) × (l.count ≤ 32)

abbrev pub decreases-loop-c : goal.decreases-loop-c
decreases-loop-c l = l.n - l.c
