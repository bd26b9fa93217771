-- The invariant: the first t terms have their homes.
use Rattle.std.proofs.Common.{◌≡◌, ◌-◌, ◌≤◌, length, refl, arith, length-set}
use Rattle.points.specs.Homes.{Homed, homed_none, homed_more, homes_are}
use Rattle.points.proofs.homes.fill_homes.Given as goal

abbrev pub invariant-loop-t : goal.invariant-loop-t
invariant-loop-t l = (l.t ≤ l.n) × ((length l.homes ≡ length l.initial.homes) × Homed l.t l.classes l.heights l.homes)

abbrev pub decreases-loop-t : goal.decreases-loop-t
decreases-loop-t l = l.n - l.t
