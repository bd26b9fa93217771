-- The invariant: the words before w are set.
use Rattle.std.proofs.Common.{◌-◌, arith, rules}
use Rattle.marking.specs.Marks.{Marking, marking_start, marking_more, product_small, room_kept}
use Rattle.marking.specs.Rows.{WordPair, row_masked, word_adds}
use Rattle.marking.proofs.base.mark_masked.Given as goal

abbrev pub invariant-loop-w : goal.invariant-loop-w
invariant-loop-w l = Marking l.n l.w-end l.w (WordPair l.mask l.i.0 l.j) l.initial.pairs l.pairs

abbrev pub decreases-loop-w : goal.decreases-loop-w
decreases-loop-w l = l.w-end - l.w
