-- The invariant: the first t cells are filled.
use Rattle.std.proofs.Common.{◌≡◌, ◌-◌, ◌≤◌, length, refl, arith, rules}
use Rattle.lists.specs.Filled.{Filled, filled_none, filled_more}
use Rattle.marking.specs.Far.{key_of_other}
use Rattle.marking.proofs.far.fill_others.Given as goal

abbrev pub invariant-loop-t : goal.invariant-loop-t
invariant-loop-t l = (l.t ≤ l.n) × Filled (key_of_other l.n l.points) 0 l.t (length l.initial.others) l.others

abbrev pub decreases-loop-t : goal.decreases-loop-t
decreases-loop-t l = l.n - l.t
