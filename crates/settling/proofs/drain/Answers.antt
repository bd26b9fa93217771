-- `settling::drain` meets its contract.
use Prim.Native.Nat.{◌-◌}
use Rattle.settling.specs.Views.{setting_of}
use Rattle.settling.specs.Settle.{Draining, draining_done, draining_more, draining_start, step_long}
use borrow.Author.Rules.{rules}
use mathlib.Core.Path.{◌∙◌}
use native.Mathlib.Omega.{arith}
use Rattle.settling.proofs.drain.Goals as goal

pub returns-then-is_over : goal.returns-then-is_over
returns-then-is_over c = draining_done (omega arith) (draining_more {next = 0} c.loop.invariant c.look_pair-more.ensures)

pub returns-in_default : goal.returns-in_default
returns-in_default c = draining_done (omega arith) (draining_more {next = 0} c.loop.invariant c.look_pair-more.ensures)

pub loop-preserved : goal.loop-preserved
loop-preserved c = draining_more c.loop.invariant c.look_pair-more.ensures
