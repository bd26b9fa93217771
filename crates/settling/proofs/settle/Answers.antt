-- `settling::settle` meets its contract.
use Rattle.std.proofs.Common.{refl}
use Rattle.settling.specs.Keys.{done_homes, keyed_start}
use Rattle.settling.proofs.settle.Goals as goal

pub fill_keys-requires : goal.fill_keys-requires
fill_keys-requires c = (c.requires.1.0, keyed_start c.args.places.now.chained.column.few refl)

pub returns : goal.returns
returns c = done_homes c.args.places.now.classes.now c.args.places.now.heights.now c.args.reads.now c.args.read_heights.now c.args.apart.now c.fill_keys.ensures c.settle_from.ensures
