use Rattle.std.proofs.Common.{sym, ◌∙◌, arith, below_more}
use Rattle.std.proofs.lemmas.Bool.{eqb-false}
use Rattle.lastlook.specs.Order.{all_stand, not_all}
use Rattle.lastlook.proofs.LabelledTerms.all_stand.Goals as goal
use Rattle.lastlook.proofs.LabelledTerms.all_stand.Goals.{else-is_deref-via-then-is_deref+else-not-stands, else-is_deref-via-else-is_deref}

pub returns-then-not-stands : goal.returns-then-not-stands
returns-then-not-stands c = not_all

pub loop-t-preserved : goal.loop-t-preserved
loop-t-preserved c =
    elim c.else-is_deref.branch [
      | else-is_deref-via-then-is_deref+else-not-stands w ↦ below_more _ _ c.loop-t.invariant (λ d. w.stands.ensures w.if-not-stands.false)
      | else-is_deref-via-else-is_deref w ↦ below_more _ _ c.loop-t.invariant (λ d. absurd (eqb-false _ _ (sym c.is_deref.ensures ∙ w.if-is_deref.false) d))
    ]

pub returns : goal.returns
returns c = all_stand (λ x h. c.loop-t.invariant x (omega arith))
