use Rattle.words.specs.Words.{next_lowest}
use Rattle.words.proofs.next_one.Goals as goal

pub returns : goal.returns
returns c = next_lowest c.args.word c.args.from c.requires c.lowest.ensures
