use Rattle.std.proofs.Common.{◌∙◌, arith}
use borrow.Author.Tests.{eq-eqb, ne_eqb}
use Rattle.closure.specs.Verdict.{holds}
use Rattle.offsets.specs.Fits.{within_fits}
use Rattle.lastlook.specs.Addresses.{signed_same, zero_plus}
use Rattle.lastlook.proofs.LabelledTerms.same_label.Goals as goal

pub returns-then-self-x : goal.returns-then-self-x
unfolding holds
returns-then-self-x c = rw (ne_eqb _ _ c.if-self-x.true)

pub returns : goal.returns
unfolding holds
returns c =
    let L = c.args.self.now.labelled in
    let e = c.is_same.ensures ∙ signed_same _ _ (within_fits (omega arith) (L.near c.args.x.0 c.requires.0)) (within_fits (omega arith) (L.near c.args.y.0 c.requires.1)) in
    rw (eq-eqb _ _ c.if-self-x.false, zero_plus) e
