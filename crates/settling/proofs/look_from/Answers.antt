-- `settling::look_from` meets its contract.
use Prim.Native.Nat.{◌-◌}
use Rattle.settling.specs.Views.{setting_of}
use Rattle.settling.specs.Settle.{kept_grown, walk_done, walk_more, walk_start, Walking, With, with_grown}
use native.Mathlib.Omega.{arith}
use Rattle.settling.proofs.look_from.Goals as goal

pub look-requires-clause-kept : goal.look-requires-clause-kept
look-requires-clause-kept c = kept_grown c.requires.kept c.loop-y.invariant.grown

pub loop-y-preserved : goal.loop-y-preserved
loop-y-preserved c = rw c.linked-y-in-loop-y.ensures (walk_more c.loop-y-test.true (c.args.setting.now.leads.links.links c.loop-y.y (omega arith) c.loop-y-test.true) (λ u g w. with_grown u g w) c.loop-y.invariant c.look.ensures.grown c.look.ensures.settled)
