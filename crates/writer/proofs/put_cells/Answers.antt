use Rattle.std.proofs.Common.{◌+◌, arith, get_or, drop, length-append}
use Rattle.text.specs.Output.{cell_frames}
use Rattle.writer.specs.Appended.{remaining_start, remaining_next, remaining_end, remaining_fits}
use Rattle.writer.specs.Frames.{cell_frame, cells_next, cells_end}
use Rattle.writer.proofs.put_cells.Goals as goal

pub loop-k-init : goal.loop-k-init
loop-k-init c = remaining_start _ _ _

pub put_cell-next-requires : goal.put_cell-next-requires
put_cell-next-requires c =
    let l = c.loop-k in
    let f = cell_frame c.args.blamed in
    let cells = c.args.cells.now in
    let R = rw (cells_next f cells l.k (omega arith)) at l.invariant in
    omega (arith, remaining_fits _ _ _ _ _ _ c.requires R, length-append (f l.k (get_or cells l.k 0)) (cell_frames f (l.k + 1) (drop (l.k + 1) cells)))

pub loop-k-preserved : goal.loop-k-preserved
loop-k-preserved c =
    let l = c.loop-k in
    let f = cell_frame c.args.blamed in
    let cells = c.args.cells.now in
    remaining_next _ _ _ (f l.k (get_or cells l.k 0)) (cell_frames f (l.k + 1) (drop (l.k + 1) cells)) _ _ _ _ (rw (cells_next f cells l.k (omega arith)) at l.invariant) c.put_cell-next.ensures

pub returns : goal.returns
returns c =
    let l = c.loop-k in
    remaining_end _ _ _ _ _ (rw (cells_end (cell_frame c.args.blamed) c.args.cells.now l.k (omega arith)) at l.invariant)
