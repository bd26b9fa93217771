-- The invariant: the numbers from t on are in their chains.
use Prim.Native.Nat.{◌-◌}
use mathlib.Core.Path.{◌≡◌}
use native.Mathlib.Omega.{arith}
use lib.ListN.{length}
use borrow.Author.Rules.{rules}
use Rattle.buckets.specs.Buckets.{Chaining, chaining_start, chaining_more}
use Rattle.buckets.proofs.fill.Given as goal

abbrev pub invariant-loop-t : goal.invariant-loop-t
invariant-loop-t l = Chaining l.n l.t (length l.initial.first) (length l.initial.next) l.keys l.first l.next

abbrev pub decreases-loop-t : goal.decreases-loop-t
decreases-loop-t l = l.t
