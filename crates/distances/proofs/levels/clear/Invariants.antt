-- The invariant: the first k levels are 0.
use Rattle.std.proofs.Common.{◌-◌, length, refl, arith, rules}
use Rattle.lists.specs.Filled.{Filled, filled_none, filled_more}
use Rattle.distances.proofs.levels.clear.Given as goal

abbrev pub invariant-loop-k : goal.invariant-loop-k
invariant-loop-k l = Filled (λ _. 0) 0 l.k (length l.initial.levels) l.levels

abbrev pub decreases-loop-k : goal.decreases-loop-k
decreases-loop-k l = length l.initial.levels - l.k
