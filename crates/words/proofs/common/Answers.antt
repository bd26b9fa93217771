use Rattle.std.proofs.Common.{arith}
use Rattle.words.specs.Words.{common_is}
use Rattle.words.proofs.common.Goals as goal

pub returns : goal.returns
returns c = common_is c.word_at.ensures c.mask_word.ensures (omega arith)
