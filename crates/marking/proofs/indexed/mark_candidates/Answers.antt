-- `marking::indexed::mark_candidates` meets its contract.
use Rattle.std.proofs.Common.{arith}
use Rattle.std.proofs.Math.Logic.{inl}
use Rattle.marking.specs.Pairs.{Candidate, spanning_more}
use Rattle.marking.proofs.indexed.mark_candidates.Goals as goal

pub loop-c-preserved : goal.loop-c-preserved
loop-c-preserved c =
    let s = c.args in
    let P = s.places.now in
    let I = s.by_distance.now in
    (inl (omega (arith, c.loop-c-test.true)), spanning_more (Candidate P.n P.classes.now P.heights.now I.from.now I.order.now I.entries.now s.x.class s.x.height s.y.class s.y.height) c.loop-c.invariant.1 c.mark_candidate.ensures)
