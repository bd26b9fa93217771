use Rattle.std.proofs.Common.{sym, ◌∙◌, eqb-true}
use Rattle.std.proofs.lemmas.Bool.{eqb-false}
use borrow.Author.Rules.{sfits_of}
use Rattle.lastlook.specs.Addresses.{meeting_by, apart, signed_same}
use Rattle.lastlook.proofs.LabelledTerms.same_address.Goals as goal
use Rattle.lastlook.proofs.LabelledTerms.same_address.Goals.{then-not-is_deref-via-then-not-is_deref, then-not-is_deref-via-else-not-is_deref+then-not-is_deref-2}

pub returns-then-not-is_deref : goal.returns-then-not-is_deref
returns-then-not-is_deref c =
    elim c.then-not-is_deref.branch [
      | then-not-is_deref-via-then-not-is_deref w ↦ apart (λ s. eqb-false _ _ (sym c.is_deref.ensures ∙ w.if-not-is_deref.true) s.deref_x)
      | then-not-is_deref-via-else-not-is_deref+then-not-is_deref-2 w ↦ apart (λ s. eqb-false _ _ (sym w.is_deref-else-not-is_deref.ensures ∙ w.if-not-is_deref-2.true) s.deref_y)
    ]

pub returns-then-class_of : goal.returns-then-class_of
returns-then-class_of c = apart (λ s. c.if-class_of.true (c.class_of.ensures.class ∙ s.block ∙ sym c.class_of-2.ensures.class))

pub returns : goal.returns
returns c =
    let a = c.address_of in
    let d = c.address_of-2 in
    meeting_by (eqb-true _ _ (sym c.is_deref.ensures ∙ c.if-not-is_deref.false))
    (eqb-true _ _ (sym c.is_deref-else-not-is_deref.ensures ∙ c.if-not-is_deref-2.false))
    (sym c.class_of.ensures.class ∙ c.if-class_of.false ∙ c.class_of-2.ensures.class)
    c.is_same.result
    (rw (a.ensures, d.ensures) at (c.is_same.ensures ∙ signed_same a.result d.result (sfits_of a.type_inv) (sfits_of d.type_inv)))
