-- The invariant: the first k propositions are done.
use Prim.Native.Nat.{◌-◌}
use native.Mathlib.Omega.{arith}
use lib.ListN.{length}
use Rattle.tables.specs.Rows.{proposition_in}
use Rattle.marking.specs.Marks.{Marking, marking_start, marking_more, marking_done, room_kept}
use Rattle.placing.specs.Apart.{BlockPair}
use Rattle.placing.proofs.apart.mark_blocks.Given as goal

abbrev pub invariant-loop-k : goal.invariant-loop-k
invariant-loop-k l = Marking (length l.terms) (length l.propositions) l.k (BlockPair (proposition_in l.propositions) l.reps) l.initial.table l.table

abbrev pub decreases-loop-k : goal.decreases-loop-k
decreases-loop-k l = length l.propositions - l.k
