-- The invariant: each word that is stored keeps what holds of the mask.
use Prim.Native.Nat.{◌-◌, ◌≤◌}
use Rattle.settling.specs.Seen.{same_stored, SameOwner}
use mathlib.Core.Path.{refl, sym, ◌∙◌}
use native.Mathlib.Omega.{arith}
use Rattle.settling.proofs.seen.store_row.Given as goal

abbrev pub invariant-loop-w : goal.invariant-loop-w
invariant-loop-w l = (l.w ≤ 8) × SameOwner l.n l.owners l.seen

abbrev pub decreases-loop-w : goal.decreases-loop-w
decreases-loop-w l = 8 - l.w
