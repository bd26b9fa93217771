-- The invariant: the last look set something, or all is closed.
use Rattle.settling.specs.Views.{setting_of}
use Rattle.settling.specs.Settle.{left, left_less, Looking, looking_done, looking_more, looking_start}
use mathlib.Core.Path.{sym, ◌∙◌}
use Rattle.settling.proofs.sweep_all.Given as goal

abbrev pub invariant-loop-again : goal.invariant-loop-again
invariant-loop-again l = Looking (setting_of l.setting) l.again l.initial.pairs l.pairs l.seen

abbrev pub decreases-loop-again : goal.decreases-loop-again
decreases-loop-again l = left l.again l.seen
