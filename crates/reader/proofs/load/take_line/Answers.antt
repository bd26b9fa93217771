-- The refusal, or the stored record, is that of the definition's step.
use Rattle.std.proofs.lemmas.Result.{err_from_is_err_and}
use Rattle.text.proofs.Laws.{step_unended}
use Rattle.frames.specs.Rows.{listing_rows_with}
use Rattle.reader.specs.Loading.{step_refused, went}
use Rattle.reader.proofs.load.take_line.Goals as goal

pub returns-then-not-ended : goal.returns-then-not-ended
returns-then-not-ended c R C room n e = rw c.if-not-ended.true (step_unended R _)

pub returns-in_err-frame : goal.returns-in_err-frame
returns-in_err-frame c R C room n e =
    let t = c.in_err-frame.ensures.took.fault R n (listing_rows_with R C e) in
    let p = err_from_is_err_and c.from_residual.result c.from_residual.ensures.1 in
    rw (p.1, p.2, c.if-not-ended.false) (step_refused R _ c.judge_line.result c.judge_line.ensures _ t)

pub returns : goal.returns
returns c R C room n e =
    let took = c.in_ok-frame.ensures.took in
    let is = c.in_ok-frame.ensures.accepted in
    rw c.if-not-ended.false
    (went R C _ c.in_ok-frame.frame c.args.read.now.counts _ _ _ room n e (rw is at c.judge_line.ensures)
    (rw is at (took.fault R n (listing_rows_with R C e)))
    (rw is at took.room)
    c.store.ensures)
