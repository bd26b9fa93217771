-- `settling::seen::store_row` meets its contract.
use Prim.Native.Nat.{◌-◌, ◌≤◌}
use Rattle.settling.specs.Seen.{same_stored, SameOwner}
use mathlib.Core.Path.{refl, sym, ◌∙◌}
use native.Mathlib.Omega.{arith}
use Rattle.settling.proofs.seen.store_row.Goals as goal

pub loop-w-preserved : goal.loop-w-preserved
loop-w-preserved c = (omega (arith, c.loop-w-test.true), same_stored c.requires.i_lt_n.1.0 c.loop-w-test.true c.requires.i_lt_n.0 c.requires.i_lt_n.1.1.0 c.requires.i_lt_n.1.1.1 c.requires.own_mask.0 refl c.loop-w.invariant.1)
