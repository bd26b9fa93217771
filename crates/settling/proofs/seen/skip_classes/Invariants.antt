-- The invariant: each class keeps what holds of the mask.
use Prim.Native.Nat.{◌-◌}
use Rattle.settling.specs.Seen.{SameOwner}
use mathlib.Core.Path.{sym, ◌∙◌}
use native.Mathlib.Omega.{arith}
use Rattle.settling.proofs.seen.skip_classes.Given as goal

abbrev pub invariant-loop-a : goal.invariant-loop-a
invariant-loop-a l = SameOwner l.n l.owners l.seen

abbrev pub decreases-loop-a : goal.decreases-loop-a
decreases-loop-a l = l.n - l.a
