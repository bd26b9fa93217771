-- The invariant: the keys of the first k leads are set.
use Prim.Native.Nat.{◌-◌, ◌≤◌}
use Rattle.settling.specs.Keys.{Keyed, keyed_more}
use mathlib.Core.Path.{◌≡◌, ◌∙◌, refl, sym}
use native.Mathlib.Omega.{arith}
use Rattle.settling.proofs.keys.fill_keys.Given as goal

abbrev pub invariant-loop-k : goal.invariant-loop-k
invariant-loop-k l = (l.k ≤ l.count) × Keyed l.n l.k l.homes l.leads l.keys

abbrev pub decreases-loop-k : goal.decreases-loop-k
decreases-loop-k l = l.count - l.k
