use Rattle.std.proofs.Common.{arith}
use Rattle.words.specs.Words.{ored_byte, ored_low}
use Rattle.words.proofs.or_byte.Goals as goal

pub returns : goal.returns
returns c = ored_low {w = 8} (ored_byte _ _ _ c.requires (omega arith))
