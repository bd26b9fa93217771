-- One byte more.
use Rattle.std.proofs.Common.{◌≡◌, ◌+◌, ◌*◌, refl, get_or, arith}
use Rattle.text.specs.Lines.{big}
use Rattle.hexadecimal.specs.Hex.{big_take, more_below, below_four}
use Rattle.hexadecimal.proofs.number.Goals as goal

pub loop-b-init : goal.loop-b-init
unfolding big
loop-b-init c = (refl, omega arith)

pub overflow_mul-n : goal.overflow_mul-n
overflow_mul-n c =
    let k = c.loop-b.b-index in
    omega (arith, below_four (c.loop-b.n * 256 + 0) (k + 1) (more_below c.loop-b.n k 0 c.loop-b.invariant.1 (omega arith)) (omega arith))

pub loop-b-preserved : goal.loop-b-preserved
loop-b-preserved c =
    let bs = c.args.bytes.now in
    let k = c.loop-b.b-index in
    let e = big_take bs k (omega arith) in
    let f : c.from.result ≡ get_or bs k 0 = grind arith in
    let below = c.type_inv.bytes k in
    (omega arith, rw f (more_below c.loop-b.n k (get_or bs k 0) c.loop-b.invariant.1 (omega arith)))
