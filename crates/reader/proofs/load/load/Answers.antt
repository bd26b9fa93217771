-- The lines passed are taken into the rows (`Progress`), and no table changes its length.
use Rattle.std.proofs.Common.{◌≤◌, length, arith}
use Rattle.text.specs.Reading.{step}
use Rattle.lines.specs.LineEnds.{line_of, end_of_line, end_after, end_within}
use Rattle.frames.specs.Rows.{rows_of}
use Rattle.reader.specs.Loading.{After, counted}
use Rattle.reader.specs.Progress.{progress_none, progress_refused, progress_more, progress_all}
use Rattle.reader.proofs.load.load.Goals as goal
use Rattle.reader.proofs.load.load.Goals.{After-line_end-end, After-take_line}

-- the line's end is in the text
after : (c : After-line_end-end) → c.loop-start.start ≤ c.line_end-end.result
after c = rw c.line_end-end.ensures (end_after _ c.loop-start.start)

within : (c : After-line_end-end) → c.line_end-end.result ≤ length c.args.text.now
within c = rw c.line_end-end.ensures (end_within _ c.loop-start.start c.loop-start.invariant.within)

-- what the line leaves
stepped : (c : After-take_line)
    → (let text = c.args.text.now in
    let l = c.loop-start in
    After (rows_of c.args.read.now) (step l.invariant.records (line_of text l.start (end_of_line text l.start))) (counted c.take_line.result c.take_line.new.read) (rows_of c.take_line.new.read))
stepped c =
    let p = c.loop-start.invariant in
    rw (← c.line_end-end.ensures) (c.take_line.ensures p.records _ c.requires.room p.counts p.cells)

pub loop-start-init : goal.loop-start-init
loop-start-init c = rw c.requires.counts (progress_none _ _)

pub slice_bounds-line-count : goal.slice_bounds-line-count
slice_bounds-line-count c = after (goal.at.slice_bounds-line-count c).After-line_end-end

pub slice_bounds-line-start : goal.slice_bounds-line-start
slice_bounds-line-start c = after (goal.at.slice_bounds-line-start c).After-line_end-end

pub slice_bounds-line-end : goal.slice_bounds-line-end
slice_bounds-line-end c = within (goal.at.slice_bounds-line-end c).After-line_end-end

pub overflow_sub-size : goal.overflow_sub-size
overflow_sub-size c = after (goal.at.overflow_sub-size c).After-line_end-end

pub returns-in-Err : goal.returns-in-Err
returns-in-Err c =
    let l = c.loop-start in
    rw c.line_end-end.ensures
    (progress_refused _ _ _ _ l.start l.place l.invariant c.loop-start-test.true _ _ (rw c.in-Err.is at (stepped (goal.at.returns-in-Err c).After-take_line)))

pub loop-start-smaller : goal.loop-start-smaller
loop-start-smaller c = omega (arith, after (goal.at.loop-start-smaller c).After-line_end-end)

pub loop-start-preserved : goal.loop-start-preserved
loop-start-preserved c =
    let l = c.loop-start in
    rw c.line_end-end.ensures
    (progress_more _ _ _ _ l.start l.place l.invariant c.loop-start-test.true _ _ (rw c.in_default.is at (stepped (goal.at.loop-start-preserved c).After-take_line)))

pub returns : goal.returns
returns c = progress_all _ _ _ _ _ _ c.loop-start.invariant (omega arith)
