-- The invariant: i is a home of the class.
use Prim.Native.Nat.{◌-◌, ◌≤◌, ◌<◌}
use Rattle.settling.specs.Seen.{SameOwner}
use lib.ListN.{get_or}
use mathlib.Core.Path.{◌≡◌, sym, ◌∙◌}
use native.Mathlib.Omega.{arith}
use Rattle.settling.proofs.seen.store_rows.Given as goal

abbrev pub invariant-loop-i : goal.invariant-loop-i
invariant-loop-i l = ((l.i ≤ l.n) × (l.i < l.n → get_or l.owners l.i 0 ≡ l.a)) × SameOwner l.n l.owners l.seen

abbrev pub decreases-loop-i : goal.decreases-loop-i
decreases-loop-i l = l.n - l.i
