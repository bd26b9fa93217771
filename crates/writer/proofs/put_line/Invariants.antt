-- What has still to be written.
use Rattle.std.proofs.Common.{drop}
use Rattle.text.specs.Output.{line_of}
use Rattle.writer.specs.Appended.{Remaining}
use Rattle.writer.proofs.put_line.Given as goal

abbrev pub invariant-loop-b : goal.invariant-loop-b
invariant-loop-b l = Remaining l.initial.out l.at (line_of l.frame) (line_of (drop l.b-index l.frame)) l.out l.next
