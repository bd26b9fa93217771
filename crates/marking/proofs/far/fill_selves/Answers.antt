-- `marking::far::fill_selves` meets its contract.
use Rattle.marking.specs.Far.{selves_none}
use Rattle.marking.proofs.far.fill_selves.Goals as goal

pub loop-t-init : goal.loop-t-init
loop-t-init c = selves_none c.requires.1.1
