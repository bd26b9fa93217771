-- `settling::sweep_word` meets its contract.
use Prim.Native.Nat.{◌-◌}
use Rattle.settling.specs.Views.{setting_of}
use Rattle.settling.specs.Settle.{Bits, bits_end, bits_left, bits_more, bits_start, step_long}
use borrow.Author.Rules.{rules}
use mathlib.Core.Path.{◌∙◌}
use native.Mathlib.Omega.{arith}
use Rattle.settling.proofs.sweep_word.Goals as goal

pub returns-then-is_over : goal.returns-then-is_over
returns-then-is_over c = bits_left c.loop-b-test.true c.loop-b.invariant c.drain-more.ensures

pub loop-b-preserved : goal.loop-b-preserved
loop-b-preserved c = bits_more c.loop-b-test.true c.loop-b.invariant c.drain-more.ensures c.next_one-b-in-loop-b.ensures
