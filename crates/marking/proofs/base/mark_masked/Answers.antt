-- `marking::base::mark_masked` meets its contract.
use Rattle.std.proofs.Common.{◌-◌, arith, rules}
use Rattle.marking.specs.Marks.{Marking, marking_start, marking_more, product_small, room_kept}
use Rattle.marking.specs.Rows.{WordPair, row_masked, word_adds}
use Rattle.marking.proofs.base.mark_masked.Goals as goal

pub loop-w-preserved : goal.loop-w-preserved
loop-w-preserved c = let s = c in
    let a = s.args in
    let l = c.loop-w in
    marking_more c.loop-w-test.true l.invariant
    (word_adds a.n a.i.0 a.j l.w a.mask.now s.requires.1.0.left (room_kept a.n l.invariant.marks s.requires.1.1) s.requires.0 c.word_without.ensures (rw c.pair_number-at.ensures at c.or_word.ensures))
