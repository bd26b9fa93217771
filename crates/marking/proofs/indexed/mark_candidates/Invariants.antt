-- The invariant: the entries before c are done.
use Rattle.std.proofs.Common.{◌≡◌, ◌-◌, ◌≤◌, ◌⊎◌, refl, inl, inr, arith}
use Rattle.marking.specs.Marks.{room_kept}
use Rattle.marking.specs.Pairs.{Candidate, Spanning, spanning_start, spanning_more, spanning_done}
use Rattle.marking.proofs.indexed.mark_candidates.Given as goal

abbrev pub invariant-loop-c : goal.invariant-loop-c
invariant-loop-c l =
    ((l.c ≤ l.end) ⊎ (l.c ≡ l.start)) × Spanning l.places.n l.start l.c (Candidate l.places.n l.places.classes.now l.places.heights.now l.by_distance.from.now l.by_distance.order.now l.by_distance.entries.now l.x.class l.x.height l.y.class l.y.height) l.initial.pairs l.pairs

abbrev pub decreases-loop-c : goal.decreases-loop-c
decreases-loop-c l = l.end - l.c
