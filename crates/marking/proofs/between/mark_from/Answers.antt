-- `marking::between::mark_from` meets its contract.
use Rattle.std.proofs.Common.{◌-◌, arith, rules}
use Rattle.buckets.specs.Buckets.{key_of}
use Rattle.marking.specs.Marks.{room_kept, Walking, walking_start, walking_more, walking_done, adds_as}
use Rattle.marking.specs.Pairs.{PairsFrom, PairsWith}
use Rattle.marking.proofs.between.mark_from.Goals as goal

pub loop-i-preserved : goal.loop-i-preserved
loop-i-preserved c = let s = c in
    let i = c.loop-i.i in
    let h = c.loop-i-test.true in
    let E = PairsFrom s.args.places.now.n s.args.places.now.classes.now s.args.places.now.heights.now s.args.x.class s.args.x.height s.args.y.class s.args.y.height in
    rw c.linked-i-in-loop-i.ensures
    (walking_more E (λ j x y h e. e.0) h (s.args.places.now.chained.by_class.links.links i (omega arith) h) c.loop-i.invariant
    (adds_as s.args.places.now.n (PairsWith s.args.places.now.n s.args.places.now.classes.now s.args.places.now.heights.now s.args.x.height s.args.y.class s.args.y.height i) (E i) c.mark_with.ensures
    (λ x y hx hy d. (c.loop-i.invariant.here h, d))
    (λ x y hx hy d. d.1)))
