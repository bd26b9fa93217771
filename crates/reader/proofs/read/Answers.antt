-- A text is read into rows of the function's own, and those of an accepted one are copied.
use Rattle.std.proofs.Common.{refl, sym, ◌∙◌}
use Rattle.std.proofs.lemmas.Result.{err_from_is_err_and}
use Rattle.reader.specs.Answers.{room_for_most, read_short, read_refused, read_accepted}
use Rattle.reader.specs.Copied.{room_loaded, room_most, copied_loaded}
use Rattle.reader.proofs.read.Goals as goal

pub returns-then-short : goal.returns-then-short
returns-then-short c = read_short _ _ (sym c.short.ensures ∙ c.if-short.true)

pub returns-in_err-load : goal.returns-in_err-load
returns-in_err-load c =
    let p = err_from_is_err_and c.from_residual.result c.from_residual.ensures.1 in
    rw (p.1, p.2) (read_refused _ _ (sym c.short.ensures ∙ c.if-short.false) c.in_err-load.field-0.0 c.in_err-load.ensures.judged.answer)

pub copy_rows-requires-clause-room_for : goal.copy_rows-requires-clause-room_for
copy_rows-requires-clause-room_for c = room_loaded _ _ _ _ c.in_ok-load.ensures _ refl

pub copy_rows-requires-clause-room_for_2 : goal.copy_rows-requires-clause-room_for_2
copy_rows-requires-clause-room_for_2 c =
    room_most _ _ _ _ c.in_ok-load.ensures _ refl _ (room_for_most _ (sym c.short.ensures ∙ c.if-short.false))

pub returns : goal.returns
returns c =
    let l = c.in_ok-load.ensures in
    read_accepted _ _ (sym c.short.ensures ∙ c.if-short.false) _ _ l.judged.answer (copied_loaded _ _ _ _ l _ refl _ _ c.copy_rows.ensures)
