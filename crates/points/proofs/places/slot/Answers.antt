-- `points::places::slot` meets its contract.
use Rattle.std.proofs.Common.{refl, arith, rules}
use Rattle.points.specs.Places.{slot_of}
use Rattle.points.proofs.places.slot.Goals as goal

pub returns : goal.returns
unfolding slot_of
returns c = (refl, omega arith)
