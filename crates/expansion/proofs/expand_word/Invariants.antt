-- The invariant: the terms whose homes are in the bits before b are done.
use Prim.Native.Nat.{◌-◌}
use native.Mathlib.Omega.{arith}
use Rattle.marking.specs.Marks.{room_kept}
use Rattle.expansion.specs.Expand.{WordLoop, word_done, word_first, word_next}
use Rattle.expansion.proofs.expand_word.Given as goal

abbrev pub invariant-loop-b : goal.invariant-loop-b
invariant-loop-b l = WordLoop l.terms.n l.terms.homes.now l.i.0 l.w l.word l.b l.initial.table l.table

abbrev pub decreases-loop-b : goal.decreases-loop-b
decreases-loop-b l = 64 - l.b
