-- The invariant: the classes of the first h homes are set.
use Prim.Native.Nat.{◌-◌, ◌≤◌}
use Rattle.settling.specs.Seen.{Owners, owners_done, owners_more, owners_start}
use lib.ListN.{length}
use mathlib.Core.Path.{refl}
use native.Mathlib.Omega.{arith}
use Rattle.settling.proofs.seen.fill_owners.Given as goal

abbrev pub invariant-loop-h : goal.invariant-loop-h
invariant-loop-h l = (l.h ≤ l.n) × Owners l.n l.keys l.reads l.h (length l.initial.owners) l.owners

abbrev pub decreases-loop-h : goal.decreases-loop-h
decreases-loop-h l = l.n - l.h
