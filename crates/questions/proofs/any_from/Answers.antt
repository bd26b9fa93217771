-- `questions::any_from` meets its contract.
use Prim.Native.Nat.{◌-◌}
use native.Mathlib.Omega.{arith}
use borrow.Author.Rules.{rules}
use Rattle.buckets.specs.Buckets.{key_of}
use Rattle.questions.specs.Searches.{found, From, from_some, from_none, Seeking, seeking_start, seeking_more, seeking_done}
use Rattle.questions.proofs.any_from.Goals as goal

pub loop-i-preserved : goal.loop-i-preserved
loop-i-preserved c = let s = c in
    let h = c.loop-i-test.true in
    rw c.linked-i-in-loop-i.ensures
    (seeking_more (From s.args.places.now.n s.args.places.now.classes.now s.args.places.now.heights.now s.args.pairs.now s.args.mirrored s.args.x.class s.args.x.height s.args.y.class s.args.y.height) (λ u m. m.class_is)
    h (s.args.places.now.chained.by_class.links.links c.loop-i.i (omega arith) h) c.loop-i.invariant
    (from_none s.args.places.now.n s.args.places.now.classes.now s.args.places.now.heights.now s.args.pairs.now s.args.mirrored c.any_with.ensures c.if-any_with.false))

pub returns : goal.returns
returns c = let s = c.args in seeking_done (From s.places.now.n s.places.now.classes.now s.places.now.heights.now s.pairs.now s.mirrored s.x.class s.x.height s.y.class s.y.height) (λ u m. m.class_is) c.loop-i-test.false c.loop-i.invariant
