use Rattle.std.proofs.Common.{arith}
use Rattle.lastlook.specs.Order.{tested_err, right}
use Rattle.lastlook.proofs.LabelledTerms.compare_all.Goals as goal

pub returns-in_err-compare : goal.returns-in_err-compare
returns-in_err-compare c = tested_err _ (rw c.in_err-compare.was at c.compare.ensures) c.from_residual.ensures.1

pub returns : goal.returns
returns c = right (record { step = λ k l. c.loop-i.invariant k (omega arith) })
