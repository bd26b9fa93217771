use Rattle.std.proofs.Common.{arith}
use Rattle.writer.proofs.Bytes.{two_of_eight}
use Rattle.writer.proofs.put_refusal.Goals as goal

pub put_line-requires : goal.put_line-requires
put_line-requires c = omega (arith, rw (two_of_eight _ _ c.to_be_bytes.ensures, ← c.from.ensures) at c.requires)

pub returns : goal.returns
returns c = rw (two_of_eight _ _ c.to_be_bytes.ensures, ← c.from.ensures) c.put_line.ensures
