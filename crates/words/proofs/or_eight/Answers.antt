use Rattle.words.proofs.Bytes.{ored_eight}
use Rattle.words.proofs.or_eight.Goals as goal

pub returns : goal.returns
returns c = rw (c.copy_from_slice.ensures.after, c.to_le_bytes.ensures) (ored_eight c.args.bytes.now c.args.k c.args.x c.eight.result c.requires c.ranges.x.fits c.eight.ensures)
