use Rattle.offsets.specs.Fits.{same_bits}
use Rattle.offsets.proofs.is_same.Statement.{statement}
use Rattle.offsets.proofs.is_same.Tie as tie

returns : tie.Need-returns
returns c = same_bits c.args.a c.args.b c.ranges.a c.ranges.b

pub is_same_spec : {M : Type 1} → statement M
is_same_spec = tie.close (tie.spec returns)
