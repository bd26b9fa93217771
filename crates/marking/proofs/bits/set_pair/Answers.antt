-- `marking::bits::set_pair` meets its contract.
use Rattle.std.proofs.Common.{rules}
use Rattle.marking.specs.Marks.{adds_bit, pair_below}
use Rattle.marking.proofs.bits.set_pair.Goals as goal

pub returns : goal.returns
returns c = let s = c in
    rw (c.set_bit.ensures, c.pair_number-k.ensures)
    (adds_bit s.args.n s.args.i.0 s.args.j.0 s.args.table.now s.requires.0.left s.requires.0.right s.requires.1)
