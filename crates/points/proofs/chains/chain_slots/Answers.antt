-- `points::chains::chain_slots` meets its contract.
use Rattle.std.proofs.Common.{arith, rules}
use Rattle.buckets.specs.Buckets.{chains_sized, key_chains}
use Rattle.points.specs.Places.{slot_keys}
use Rattle.points.proofs.chains.chain_slots.Goals as goal

pub chain-requires : goal.chain-requires
chain-requires c = let f = c.slot_column.ensures in
    slot_keys c.requires.0 (omega (arith, f.long, c.requires.0.few)) c.requires.1.1 (omega (arith, c.requires.1.0)) f.done
