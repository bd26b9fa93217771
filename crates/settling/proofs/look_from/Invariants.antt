-- The invariant: the leads before y are done.
use Prim.Native.Nat.{◌-◌}
use Rattle.settling.specs.Views.{setting_of}
use Rattle.settling.specs.Settle.{kept_grown, walk_done, walk_more, walk_start, Walking, With, with_grown}
use native.Mathlib.Omega.{arith}
use Rattle.settling.proofs.look_from.Given as goal

abbrev pub invariant-loop-y : goal.invariant-loop-y
invariant-loop-y l = Walking (setting_of l.setting) l.h l.y (With (setting_of l.setting) l.x) l.initial.pairs l.pairs

abbrev pub decreases-loop-y : goal.decreases-loop-y
decreases-loop-y l = l.setting.places.n - l.y
