-- The invariant: the leads before x are done.
use Prim.Native.Nat.{◌-◌}
use Rattle.settling.specs.Views.{setting_of}
use Rattle.settling.specs.Settle.{home_grown, kept_grown, walk_done, walk_more, walk_start, Walking, WithHome}
use native.Mathlib.Omega.{arith}
use Rattle.settling.proofs.look_homes.Given as goal

abbrev pub invariant-loop-x : goal.invariant-loop-x
invariant-loop-x l = Walking (setting_of l.setting) l.i l.x (WithHome (setting_of l.setting) l.h) l.initial.pairs l.pairs

abbrev pub decreases-loop-x : goal.decreases-loop-x
decreases-loop-x l = l.setting.places.n - l.x
