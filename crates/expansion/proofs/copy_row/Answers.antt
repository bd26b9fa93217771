-- `expansion::copy_row` meets its contract.
use Prim.Native.Nat.{◌-◌}
use native.Mathlib.Omega.{arith}
use Rattle.marking.specs.Marks.{product_small}
use Rattle.expansion.specs.Rows.{Copying, copying_start, copying_more, copying_done}
use Rattle.expansion.proofs.copy_row.Goals as goal

pub loop-w-preserved : goal.loop-w-preserved
loop-w-preserved c = let s = c in copying_more s.requires.0.right s.requires.0.left s.requires.1.0 c.loop-w-test.true s.requires.1.1 c.loop-w.invariant c.row_word-word.ensures c.or_word.ensures
