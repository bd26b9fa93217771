-- The walk goes on to terms at or before n.
use Rattle.std.proofs.Common.{◌-◌, ◌≤◌, sym, refl, ◌∙◌, arith}
use Rattle.lists.specs.Booleans.{false_true}
use Rattle.points.specs.Places.{slot_link}
use Rattle.marking.specs.Known.{known_at}
use Rattle.marking.proofs.known.known_place.Given as goal

abbrev pub invariant-loop-j : goal.invariant-loop-j
invariant-loop-j l = 0 ≤ l.j

abbrev pub decreases-loop-j : goal.decreases-loop-j
decreases-loop-j l = l.places.n - l.j
