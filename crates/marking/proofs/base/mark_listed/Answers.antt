-- `marking::base::mark_listed` meets its contract.
use Rattle.std.proofs.Common.{◌-◌, arith}
use Rattle.marking.specs.Marks.{Marking, marking_start, marking_more, marking_done, room_kept}
use Rattle.marking.specs.Classes.{ListedPair}
use Rattle.marking.proofs.base.mark_listed.Goals as goal

pub loop-k-preserved : goal.loop-k-preserved
loop-k-preserved c = marking_more c.loop-k-test.true c.loop-k.invariant c.mark_listed_pair.ensures
