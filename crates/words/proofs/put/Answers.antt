use Rattle.words.specs.Words.{put_bit}
use Rattle.words.proofs.put.Goals as goal

pub returns : goal.returns
returns c = put_bit _ _ c.requires
