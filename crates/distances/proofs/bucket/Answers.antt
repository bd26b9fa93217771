-- `distances::bucket` meets its contract.
use Rattle.std.proofs.Common.{refl, arith, rules}
use Rattle.distances.specs.Distances.{bucket_of_distance}
use Rattle.distances.proofs.bucket.Goals as goal

pub returns : goal.returns
unfolding bucket_of_distance
returns c = (refl, omega arith)
