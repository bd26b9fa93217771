-- `questions::sides::chain_sides` meets its contract.
use borrow.Author.Rules.{rules}
use Rattle.buckets.specs.Buckets.{chains_sized}
use Rattle.questions.specs.Sides.{side_keys, side_chains}
use Rattle.questions.proofs.sides.chain_sides.Goals as goal

pub chain-requires : goal.chain-requires
chain-requires c = side_keys c.requires.0 c.side_slots.ensures c.requires.1.1 c.requires.1.0

pub returns : goal.returns
returns c = let s = c in side_chains s.args.sides.now.left_heights.now s.args.sides.now.right_heights.now c.side_slots.ensures (chains_sized s.requires.1.0 c.chain.ensures)
