-- `marking::far::far_others` meets its contract.
use Rattle.std.proofs.Common.{◌-◌, ◌∙◌, arith}
use Rattle.marking.specs.Far.{FarOthers, one_below, others_done, others_more, others_start}
use Rattle.marking.proofs.far.far_others.Goals as goal

pub put_far-requires : goal.put_far-requires
put_far-requires c = let h = c.loop-t-test.true in
    let l = c.loop-t in
    (record { few = c.requires.1.0.few; left = c.requires.1.0.left; right = h }, (c.requires.1.1.0, (one_below _ _ _ (l.invariant.here h), (c.requires.1.1.1.0, l.invariant.long ∙ c.requires.1.1.1.1))))

pub loop-t-preserved : goal.loop-t-preserved
loop-t-preserved c = let h = c.loop-t-test.true in
    rw c.linked-t-in-loop-t.ensures (others_more c.requires.0 h (c.requires.0.chains.links.links c.loop-t.t (omega arith) h) c.loop-t.invariant c.put_far.ensures)
