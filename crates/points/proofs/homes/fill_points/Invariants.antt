-- The invariant: the first t cells are filled.
use Rattle.std.proofs.Common.{◌-◌, length, refl, arith}
use Rattle.lists.specs.Filled.{Filled, filled_none, filled_more}
use Rattle.points.specs.Homes.{point_at, points_filled}
use Rattle.points.proofs.homes.fill_points.Given as goal

abbrev pub invariant-loop-t : goal.invariant-loop-t
invariant-loop-t l = Filled (point_at l.n l.classes l.homes) 0 l.t (length l.initial.points) l.points

abbrev pub decreases-loop-t : goal.decreases-loop-t
decreases-loop-t l = l.n - l.t
