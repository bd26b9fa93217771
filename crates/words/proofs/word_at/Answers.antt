use Rattle.std.proofs.Common.{◌≡◌, ◌+◌, ◌*◌, ◌/◌, ◌%◌, arith}
use Rattle.words.specs.Words.{Spells, spells_inside, spells_byte}
use Rattle.words.proofs.word_at.Goals as goal

pub returns-then-s-eq0 : goal.returns-then-s-eq0
returns-then-s-eq0 c = let e : 8 * (c.args.at / 8) ≡ c.args.at = omega arith in rw e at c.eight-low.ensures

pub returns : goal.returns
returns c =
    let k = c.args.at / 8 in
    let e : 8 * k + c.args.at % 8 ≡ c.args.at = omega arith in
    let last : Spells c.args.bytes.now (8 * (k + 8)) 8 c.from.result = rw c.from.ensures (spells_byte c.args.bytes.now (k + 8) (omega (arith, c.type_inv.bytes (k + 8)))) in
    rw e at (spells_inside k (c.args.at % 8) (omega arith) (omega arith) c.eight-low.ensures last)
