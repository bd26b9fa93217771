-- The part is that of the refused line, or empty at the start.
use Rattle.std.proofs.Common.{sym, ◌∙◌}
use Rattle.reader.specs.Answers.{part_short, part_refused, part_accepted}
use Rattle.reader.proofs.faulty_part.Goals as goal

pub returns-then-short : goal.returns-then-short
returns-then-short c = part_short _ _ _ _ (sym c.short.ensures ∙ c.if-short.true)

pub returns-in-Err : goal.returns-in-Err
returns-in-Err c =
    let j = c.in-Err.ensures.judged in
    part_refused _ _ _ _ (sym c.short.ensures ∙ c.if-short.false) _ j.answer j.within

pub returns-in-Ok : goal.returns-in-Ok
returns-in-Ok c = part_accepted _ _ _ _ (sym c.short.ensures ∙ c.if-short.false) _ c.in-Ok.ensures.judged.answer
