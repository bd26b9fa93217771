-- `expansion::expand_members` meets its contract.
use Prim.Native.Nat.{◌-◌}
use native.Mathlib.Omega.{arith}
use Rattle.marking.specs.Marks.{room_kept}
use Rattle.expansion.specs.Expand.{ClassLoop, class_start, class_more, class_skip, class_done, class_set_kept}
use borrow.Author.Rules.{rules}
use Rattle.expansion.proofs.expand_members.Goals as goal

pub loop-t-preserved-then-terms-i : goal.loop-t-preserved-then-terms-i
loop-t-preserved-then-terms-i c = let s = c in let a = s.args in rw c.linked-t-in-loop-t.ensures (class_skip a.terms.now.n a.terms.now.homes.now s.args.terms.now.own a.terms.now.classes.now c.loop-t-test.true c.if-terms-i.true (s.requires.a_lt_n.1.0.links.links c.loop-t.t (omega arith) c.loop-t-test.true) c.loop-t.invariant)

pub expand_row-requires-clause-by_index : goal.expand_row-requires-clause-by_index
expand_row-requires-clause-by_index c = let s = c in let a = s.args in let L = c.loop-t.invariant in let h = c.loop-t-test.true in (s.requires.by_index.0, class_set_kept L.done.kept s.requires.by_index.1)

pub loop-t-preserved : goal.loop-t-preserved
loop-t-preserved c = let s = c in let a = s.args in rw c.linked-t-in-loop-t.ensures (class_more a.terms.now.n a.terms.now.homes.now s.args.terms.now.own a.terms.now.classes.now c.loop-t-test.true c.if-terms-i.false (s.requires.a_lt_n.1.0.links.links c.loop-t.t (omega arith) c.loop-t-test.true) c.loop-t.invariant c.expand_row.ensures)

pub returns : goal.returns
returns c = let s = c in let a = s.args in class_done a.terms.now.n a.terms.now.homes.now s.args.terms.now.own a.terms.now.classes.now c.loop-t-test.false c.loop-t.invariant
