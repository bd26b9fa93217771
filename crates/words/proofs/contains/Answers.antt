use Rattle.words.specs.Words.{in_mask, is_bit_one}
use Rattle.words.proofs.contains.Goals as goal

pub returns : goal.returns
unfolding in_mask is_bit_one
returns c = rw c.mask_word.ensures
