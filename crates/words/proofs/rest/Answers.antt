use Rattle.std.proofs.Common.{◌≡◌, arith}
use Rattle.words.specs.Words.{rest_start, rest_more}
use Rattle.words.proofs.rest.Goals as goal

pub loop-w-init : goal.loop-w-init
loop-w-init c = rest_start c.requires

pub loop-w-preserved : goal.loop-w-preserved
loop-w-preserved c = rest_more (omega arith) c.mask_word-word.ensures c.mask_word.ensures c.loop-w.invariant

pub returns : goal.returns
returns c = let e : c.loop-w.w ≡ 8 = omega arith in rw e at c.loop-w.invariant
