-- `settling::sweep_all` meets its contract.
use Rattle.settling.specs.Views.{setting_of}
use Rattle.settling.specs.Settle.{left, left_less, Looking, looking_done, looking_more, looking_start}
use mathlib.Core.Path.{sym, ◌∙◌}
use Rattle.settling.proofs.sweep_all.Goals as goal

pub loop-again-smaller : goal.loop-again-smaller
loop-again-smaller c = rw c.loop-again-test.true (left_less c.sweep-again.ensures)

pub loop-again-preserved : goal.loop-again-preserved
loop-again-preserved c = looking_more c.loop-again.invariant c.sweep-again.ensures
