-- The invariant: no term before j is at the place.
use Rattle.std.proofs.Common.{◌-◌, ◌<◌, sym, refl, ◌∙◌, arith}
use Rattle.points.specs.Places.{here_true, slot_link, slot_start, true_here}
use Rattle.points.specs.Homes.{Passed, passed_start, passed_more}
use Rattle.lists.specs.Booleans.{false_true}
use Rattle.points.proofs.homes.first_there.Given as goal

abbrev pub invariant-loop-j : goal.invariant-loop-j
invariant-loop-j l = (l.k < l.n) × Passed l.n l.classes l.heights l.at.class l.at.height l.j

abbrev pub decreases-loop-j : goal.decreases-loop-j
decreases-loop-j l = l.k - l.j
