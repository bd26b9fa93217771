use Rattle.std.proofs.Common.{arith}
use Rattle.words.proofs.Bytes.{lowest_trailing}
use Rattle.words.proofs.lowest.Goals as goal

pub returns : goal.returns
returns c = lowest_trailing c.args.word (omega arith)
