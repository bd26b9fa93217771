use Rattle.std.proofs.Common.{◌≡◌, ◌+◌, ◌*◌, ◌/◌, ◌%◌, arith}
use Rattle.words.specs.Words.{ored_inside, ored_zero}
use Rattle.words.proofs.or_word.Goals as goal

pub returns-then-x-eq0 : goal.returns-then-x-eq0
returns-then-x-eq0 c = rw c.if-x-eq0.true (ored_zero _ _ 64)

pub returns-then-s-eq0 : goal.returns-then-s-eq0
returns-then-s-eq0 c = let e : 8 * (c.args.at / 8) ≡ c.args.at = omega arith in rw e at c.or_eight.ensures

pub returns : goal.returns
returns c =
    let k = c.args.at / 8 in
    let e : 8 * k + c.args.at % 8 ≡ c.args.at = omega arith in
    rw e at (ored_inside k (c.args.at % 8) c.args.x (omega arith) (omega arith) c.or_eight-2.ensures c.or_byte.ensures c.ranges.x.fits)
