-- The invariant: the first k buckets are empty.
use Prim.Native.Nat.{◌-◌}
use mathlib.Core.Path.{refl}
use native.Mathlib.Omega.{arith}
use lib.ListN.{length}
use Rattle.lists.specs.Filled.{Filled, filled_none, filled_more}
use Rattle.buckets.proofs.empty.Given as goal

abbrev pub invariant-loop-k : goal.invariant-loop-k
invariant-loop-k l = Filled (λ _. l.n) 0 l.k (length l.initial.first) l.first

abbrev pub decreases-loop-k : goal.decreases-loop-k
decreases-loop-k l = length l.initial.first - l.k
