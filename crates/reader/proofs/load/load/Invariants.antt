-- The lines passed are taken into the rows.
use Rattle.std.proofs.Common.{length, ◌-◌}
use Rattle.frames.specs.Rows.{rows_of}
use Rattle.reader.specs.Progress.{Progress}
use Rattle.reader.proofs.load.load.Given as goal

abbrev pub invariant-loop-start : goal.invariant-loop-start
invariant-loop-start l =
    Progress l.text (rows_of l.initial.read) (rows_of l.read) l.read.counts l.start l.place

abbrev pub decreases-loop-start : goal.decreases-loop-start
decreases-loop-start l = length l.text - l.start
