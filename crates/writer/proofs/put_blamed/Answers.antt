use Rattle.std.proofs.Common.{arith}
use Rattle.writer.specs.Frames.{blame_marked}
use Rattle.writer.proofs.Bytes.{two_of_eight}
use Rattle.writer.proofs.put_blamed.Goals as goal

pub put_line-requires : goal.put_line-requires
put_line-requires c =
    rw (two_of_eight _ _ c.to_be_bytes.ensures) at (rw (blame_marked c.args.proposition.0 c.args.mark (λ e. omega arith)) at c.requires)

pub returns : goal.returns
returns c = rw (blame_marked c.args.proposition.0 c.args.mark (λ e. omega arith), two_of_eight _ _ c.to_be_bytes.ensures) c.put_line.ensures
