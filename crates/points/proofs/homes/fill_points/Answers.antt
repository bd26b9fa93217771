-- `points::homes::fill_points` meets its contract.
use Rattle.std.proofs.Common.{◌-◌, length, refl, arith}
use Rattle.lists.specs.Filled.{Filled, filled_none, filled_more}
use Rattle.points.specs.Homes.{point_at, points_filled}
use Rattle.points.proofs.homes.fill_points.Goals as goal

pub returns : goal.returns
returns c = points_filled c.requires.1.1.1 c.loop-t-test.false c.loop-t.invariant
