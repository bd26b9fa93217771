-- The invariant: the rows of the homes of the class before t are done.
use Prim.Native.Nat.{◌-◌}
use native.Mathlib.Omega.{arith}
use Rattle.marking.specs.Marks.{room_kept}
use Rattle.expansion.specs.Expand.{ClassLoop, class_start, class_more, class_skip, class_done, class_set_kept}
use borrow.Author.Rules.{rules}
use Rattle.expansion.proofs.expand_members.Given as goal

abbrev pub invariant-loop-t : goal.invariant-loop-t
invariant-loop-t l = ClassLoop l.terms.n l.terms.classes.now l.terms.homes.now l.a l.t l.initial.table l.table

abbrev pub decreases-loop-t : goal.decreases-loop-t
decreases-loop-t l = l.terms.n - l.t
