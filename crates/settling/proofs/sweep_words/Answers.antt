-- `settling::sweep_words` meets its contract.
use Prim.Native.Nat.{◌-◌, ◌+◌, ◌/◌, ◌≤◌}
use Rattle.lists.specs.Booleans.{and_true}
use Rattle.marking.specs.Marks.{product_small}
use Rattle.settling.specs.Views.{setting_of}
use Rattle.settling.specs.Settle.{step_long, step_then, Words, words_done, words_left, words_more, words_start}
use borrow.Author.Rules.{rules}
use mathlib.Core.Path.{◌∙◌}
use native.Mathlib.Omega.{arith}
use Rattle.settling.proofs.sweep_words.Goals as goal

pub returns-then-changed-is_over : goal.returns-then-changed-is_over
returns-then-changed-is_over c = words_left (and_true _ _ c.if-changed-is_over.true).0 c.loop-w.invariant.1 c.sweep_word-more.ensures

pub loop-w-preserved : goal.loop-w-preserved
loop-w-preserved c = (omega (arith, c.loop-w-test.true), words_more _ c.args.setting.now.ready.reading.few c.requires.i_lt_n.0 c.requires.i_lt_n.1 c.loop-w.invariant.1 c.common-word.ensures c.sweep_word-more.ensures)
