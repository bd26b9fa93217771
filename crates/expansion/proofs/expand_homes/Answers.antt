-- `expansion::expand_homes` meets its contract.
use Prim.Native.Nat.{◌-◌}
use native.Mathlib.Omega.{arith}
use Rattle.marking.specs.Marks.{room_kept}
use Rattle.expansion.specs.Expand.{ClassesRows, ExpandedIn, class_set_kept, classes_start, classes_more, classes_done}
use Rattle.expansion.proofs.expand_homes.Goals as goal

pub expand_class-requires-clause-by_index : goal.expand_class-requires-clause-by_index
expand_class-requires-clause-by_index c = let s = c in let g = s.args in let L = c.loop-a.invariant in (s.requires.by_index_2.0, class_set_kept L.kept s.requires.by_index_2.1)

pub loop-a-preserved : goal.loop-a-preserved
loop-a-preserved c = let s = c in let g = s.args in classes_more g.terms.now.n g.terms.now.homes.now s.args.terms.now.own g.terms.now.classes.now c.loop-a.a c.loop-a.invariant c.expand_class.ensures
