-- The invariant: as long as nothing is done, none of the fresh homes has its bit set.
use Prim.Native.Nat.{◌-◌, ◌+◌, ◌/◌, ◌≤◌}
use Rattle.lists.specs.Booleans.{and_true}
use Rattle.marking.specs.Marks.{product_small}
use Rattle.settling.specs.Views.{setting_of}
use Rattle.settling.specs.Settle.{step_long, step_then, Words, words_done, words_left, words_more, words_start}
use borrow.Author.Rules.{rules}
use mathlib.Core.Path.{◌∙◌}
use native.Mathlib.Omega.{arith}
use Rattle.settling.proofs.sweep_words.Given as goal

abbrev pub invariant-loop-w : goal.invariant-loop-w
invariant-loop-w l = (l.w ≤ l.i / 64 + 1) × Words (setting_of l.setting) l.fresh l.i l.w l.changed l.initial.pairs l.pairs l.initial.seen l.seen

abbrev pub decreases-loop-w : goal.decreases-loop-w
decreases-loop-w l = l.i / 64 + 1 - l.w
