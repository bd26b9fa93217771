-- `columns::answering::right_height` meets its contract.
use mathlib.Core.Path.{◌∙◌, ap}
use native.Mathlib.Omega.{arith}
use mir.Syntax.{w64}
use mir.ValLaws.{to_z-of_z}
use borrow.Author.Rules.{rules, sfits_of}
use Rattle.offsets.specs.Fits.{fits_within}
use Rattle.types.specs.declared.QuestionRecord.{QuestionRecord}
use Rattle.tables.proofs.QuestionTable.{asked_below, asked_fits}
use Rattle.columns.proofs.answering.right_height.Goals as goal

pub offset_bounds-terms-right : goal.offset_bounds-terms-right
offset_bounds-terms-right c = let s = c in
    let e = c.index-right.ensures ∙ ap (λ (r : QuestionRecord). r.right) c.question_at-r.ensures in
    omega (arith, (asked_below _ _ _ s.requires.1.0 s.args.k.0 s.requires.1.1).1, s.requires.0.few)

pub bounds-terms-right : goal.bounds-terms-right
bounds-terms-right c = let s = c in
    let e = c.index-right.ensures ∙ ap (λ (r : QuestionRecord). r.right) c.question_at-r.ensures in
    omega (arith, (asked_below _ _ _ s.requires.1.0 s.args.k.0 s.requires.1.1).1, s.requires.0.offs_long)

pub moved-requires : goal.moved-requires
moved-requires c = let s = c in
    let record_is = c.question_at-r.ensures in
    let e = c.index-right.ensures ∙ ap (λ (r : QuestionRecord). r.right) record_is in
    let o = ap (λ (r : QuestionRecord). r.offset) record_is in
    rw (to_z-of_z w64 c.question_at-r.result.offset (sfits_of c.struct_told-1.given.1.0.1), to_z-of_z w64 _ (sfits_of c.moved-arg-1.given), o, e)
    (fits_within (asked_fits _ _ _ s.requires.1.0 s.args.k.0 s.requires.1.1), s.requires.0.near _ (asked_below _ _ _ s.requires.1.0 s.args.k.0 s.requires.1.1).1)
