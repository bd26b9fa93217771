use Rattle.std.proofs.Common.{sym, ◌∙◌, arith, pos}
use Rattle.closure.specs.Facts.{comparison}
use Rattle.closure.proofs.Verdict.{holds_true}
use Rattle.lastlook.specs.Order.{right, wrong, unequal_found}
use Rattle.lastlook.proofs.LabelledTerms.compare.Goals as goal

pub returns-then-a-b : goal.returns-then-a-b
returns-then-a-b c = right (record { rises = omega arith; agrees = λ e. absurd (omega arith) })

pub returns-then-b-a : goal.returns-then-b-a
returns-then-b-a c = wrong

pub returns-then-self-x : goal.returns-then-self-x
returns-then-self-x c = wrong

pub returns-then-same_label : goal.returns-then-same_label
returns-then-same_label c =
    let h = holds_true _ (comparison _ (pos 0) _) (sym c.same_label.ensures ∙ c.if-same_label.true) in
    right (record { rises = omega (arith, c.if-a-b.false, c.if-b-a.false); agrees = λ e. h })

pub returns-then-is_unequal : goal.returns-then-is_unequal
returns-then-is_unequal c = unequal_found (omega arith) (omega arith) (rw c.if-is_unequal.true at c.is_unequal.ensures)

pub returns : goal.returns
returns c = wrong
