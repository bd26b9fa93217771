-- What has still to be written.
use Rattle.std.proofs.Common.{drop}
use Rattle.text.specs.Output.{cell_frames}
use Rattle.writer.specs.Appended.{Remaining}
use Rattle.writer.specs.Frames.{cell_frame}
use Rattle.writer.proofs.put_cells.Given as goal

abbrev pub invariant-loop-k : goal.invariant-loop-k
invariant-loop-k l =
    Remaining l.initial.out l.at (cell_frames (cell_frame l.blamed) 0 l.cells) (cell_frames (cell_frame l.blamed) l.k (drop l.k l.cells)) l.out l.next
