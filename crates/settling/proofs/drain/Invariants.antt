-- The invariant: the pair that it starts with is looked at first.
use Prim.Native.Nat.{◌-◌}
use Rattle.settling.specs.Views.{setting_of}
use Rattle.settling.specs.Settle.{Draining, draining_done, draining_more, draining_start, step_long}
use borrow.Author.Rules.{rules}
use mathlib.Core.Path.{◌∙◌}
use native.Mathlib.Omega.{arith}
use Rattle.settling.proofs.drain.Given as goal

abbrev pub invariant-loop : goal.invariant-loop
invariant-loop l = Draining (setting_of l.setting) l.start l.counter l.pair l.changed l.initial.pairs l.pairs l.initial.seen l.seen

abbrev pub decreases-loop : goal.decreases-loop
decreases-loop l = 262144 - l.counter
