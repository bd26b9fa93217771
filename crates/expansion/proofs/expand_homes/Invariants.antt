-- The invariant: the rows of the homes of the classes before a are done.
use Prim.Native.Nat.{◌-◌}
use native.Mathlib.Omega.{arith}
use Rattle.marking.specs.Marks.{room_kept}
use Rattle.expansion.specs.Expand.{ClassesRows, ExpandedIn, class_set_kept, classes_start, classes_more, classes_done}
use Rattle.expansion.proofs.expand_homes.Given as goal

abbrev pub invariant-loop-a : goal.invariant-loop-a
invariant-loop-a l = ExpandedIn l.terms.n l.terms.homes.now (ClassesRows l.terms.classes.now l.terms.homes.now l.a) l.initial.table l.table

abbrev pub decreases-loop-a : goal.decreases-loop-a
decreases-loop-a l = l.terms.n - l.a
