use Rattle.lastlook.specs.Order.{alike_shown}
use Rattle.lastlook.proofs.LabelledTerms.stands.Goals as goal

pub returns : goal.returns
returns c = λ t. alike_shown c.reader_of-reader.ensures (rw t at c.is_alike.ensures)
