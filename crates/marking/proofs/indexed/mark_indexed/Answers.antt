-- `marking::indexed::mark_indexed` meets its contract.
use Rattle.std.proofs.Common.{arith, rules}
use Rattle.marking.specs.Pairs.{all_indexed}
use Rattle.marking.proofs.indexed.mark_indexed.Goals as goal

pub returns : goal.returns
returns c = let s = c.args in
    all_indexed s.places.now.classes.now s.places.now.heights.now s.apart.now s.by_distance.now.levels.now s.by_distance.now.from.now s.by_distance.now.order.now s.by_distance.now.starts.now s.by_distance.now.entries.now s.x.class s.x.height s.y.class s.y.height
    c.args.places.now.chained.column c.requires.column c.requires.a_lt_n.0 c.requires.a_lt_n.1.0 c.requires.a_lt_n.1.1.1.0 c.requires.a_lt_n.1.1.1.1.0 c.requires.a_lt_n.1.1.1.1.1.0
    (rw c.bucket-k.ensures.0 at c.start_of-start.ensures) (rw c.bucket-k.ensures.0 at c.start_of-end.ensures) c.mark_candidates.ensures
