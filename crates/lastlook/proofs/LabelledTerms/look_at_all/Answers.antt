use Rattle.std.proofs.Common.{arith}
use Rattle.lastlook.specs.Addresses.{unequal_pair, closed_by_each}
use Rattle.lastlook.proofs.LabelledTerms.look_at_all.Goals as goal

pub returns-in-Some : goal.returns-in-Some
returns-in-Some c = let h = c.in-Some.ensures.some in unequal_pair (omega arith) h.0 h.1

pub returns : goal.returns
returns c = closed_by_each (λ x h. c.loop-t.invariant x (omega arith))
