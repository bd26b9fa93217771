-- The invariant: as long as nothing is done, no bit before b is 1.
use Prim.Native.Nat.{◌-◌}
use Rattle.settling.specs.Views.{setting_of}
use Rattle.settling.specs.Settle.{Bits, bits_end, bits_left, bits_more, bits_start, step_long}
use borrow.Author.Rules.{rules}
use mathlib.Core.Path.{◌∙◌}
use native.Mathlib.Omega.{arith}
use Rattle.settling.proofs.sweep_word.Given as goal

abbrev pub invariant-loop-b : goal.invariant-loop-b
invariant-loop-b l = Bits (setting_of l.setting) l.start l.word l.b l.changed l.initial.pairs l.pairs l.initial.seen l.seen

abbrev pub decreases-loop-b : goal.decreases-loop-b
decreases-loop-b l = 64 - l.b
