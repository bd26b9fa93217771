use Rattle.std.proofs.Common.{arith, below_more}
use Rattle.consistency.specs.Deciding.{refuted, upheld}
use Rattle.consistency.proofs.Kept.any_refuted.Goals as goal

pub returns-then-is_refuted : goal.returns-then-is_refuted
returns-then-is_refuted c = refuted c.loop-p-test.true (rw c.if-is_refuted.true at c.is_refuted.ensures)

pub loop-p-preserved : goal.loop-p-preserved
loop-p-preserved c = below_more _ _ c.loop-p.invariant (rw c.if-is_refuted.false at c.is_refuted.ensures)

pub returns : goal.returns
returns c = upheld (λ k b. c.loop-p.invariant k (omega arith))
