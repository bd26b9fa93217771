-- `expansion::copy_rows` meets its contract.
use Prim.Native.Nat.{◌-◌}
use native.Mathlib.Omega.{arith}
use mathlib.Core.Path.{sym}
use Rattle.marking.specs.Marks.{room_kept}
use Rattle.expansion.specs.Expand.{ExpandedIn, GuestRows, guests_start, guests_skip, guests_more, guests_done}
use borrow.Author.Rules.{rules}
use Rattle.expansion.proofs.copy_rows.Goals as goal

pub loop-i-preserved : goal.loop-i-preserved
loop-i-preserved c = let s = c in let a = s.args in guests_more a.n a.homes.now s.requires.1.0 c.loop-i.i c.loop-i-test.true c.if-h-i.false s.requires.1.1.0 c.loop-i.invariant c.copy_row.ensures
