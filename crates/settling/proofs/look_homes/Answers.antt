-- `settling::look_homes` meets its contract.
use Prim.Native.Nat.{◌-◌}
use Rattle.settling.specs.Views.{setting_of}
use Rattle.settling.specs.Settle.{home_grown, kept_grown, walk_done, walk_more, walk_start, Walking, WithHome}
use native.Mathlib.Omega.{arith}
use Rattle.settling.proofs.look_homes.Goals as goal

pub look_from-requires-clause-kept : goal.look_from-requires-clause-kept
look_from-requires-clause-kept c = kept_grown c.requires.kept c.loop-x.invariant.grown

pub loop-x-preserved : goal.loop-x-preserved
loop-x-preserved c = rw c.linked-x-in-loop-x.ensures (walk_more c.loop-x-test.true (c.args.setting.now.leads.links.links c.loop-x.x (omega arith) c.loop-x-test.true) (λ u g w. home_grown u g w) c.loop-x.invariant c.look_from.ensures.grown c.look_from.ensures.done)

pub returns : goal.returns
returns c = walk_done c.loop-x-test.false c.loop-x.invariant
