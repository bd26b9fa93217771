use Rattle.words.specs.Words.{without_bit, without_other}
use Rattle.words.proofs.word_without.Goals as goal

pub returns-then-j-w : goal.returns-then-j-w
returns-then-j-w c = let a = c.args in rw c.mask_word-word.ensures (without_other a.mask.now a.w a.j c.if-j-w.true)

pub returns : goal.returns
returns c = let a = c.args in without_bit a.mask.now a.w a.j c.mask_word-word.result c.if-j-w.false c.mask_word-word.ensures
