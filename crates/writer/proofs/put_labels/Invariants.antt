-- What has still to be written.
use Rattle.text.specs.Output.{label_frames}
use Rattle.writer.specs.Appended.{Remaining}
use Rattle.writer.proofs.put_labels.Given as goal

abbrev pub invariant-loop-t : goal.invariant-loop-t
invariant-loop-t l =
    Remaining l.initial.out l.at (label_frames 0 l.representatives l.offsets) (label_frames l.t-iterator.count l.t-iterator.iter.a.rest.now l.t-iterator.iter.b.rest.now) l.out l.next
