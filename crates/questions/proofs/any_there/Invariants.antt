-- The invariant: none of those before j is met.
use Prim.Native.Nat.{◌-◌}
use mathlib.Core.Path.{sym, ◌∙◌}
use native.Mathlib.Omega.{arith}
use Rattle.lists.specs.Booleans.{false_true}
use Rattle.points.specs.Places.{place_slot, slot_of, slot_start, slot_link}
use Rattle.questions.specs.Searches.{found, Met, met_slot, Seeking, seeking_start, seeking_more, seeking_done}
use Rattle.questions.proofs.any_there.Given as goal

abbrev pub invariant-loop-j : goal.invariant-loop-j
invariant-loop-j l =
    Seeking l.places.n (place_slot l.places.classes.now l.places.heights.now) (slot_of l.at.class l.at.height) (Met l.places.n l.places.classes.now l.places.heights.now l.pairs l.mirrored l.at.class l.at.height l.i.0) l.j

abbrev pub decreases-loop-j : goal.decreases-loop-j
decreases-loop-j l = l.places.n - l.j
