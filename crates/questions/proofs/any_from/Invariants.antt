-- The invariant: none before i is found.
use Prim.Native.Nat.{◌-◌}
use native.Mathlib.Omega.{arith}
use borrow.Author.Rules.{rules}
use Rattle.buckets.specs.Buckets.{key_of}
use Rattle.questions.specs.Searches.{found, From, from_some, from_none, Seeking, seeking_start, seeking_more, seeking_done}
use Rattle.questions.proofs.any_from.Given as goal

abbrev pub invariant-loop-i : goal.invariant-loop-i
invariant-loop-i l =
    Seeking l.places.n (key_of l.places.classes.now) l.x.class (From l.places.n l.places.classes.now l.places.heights.now l.pairs l.mirrored l.x.class l.x.height l.y.class l.y.height) l.i

abbrev pub decreases-loop-i : goal.decreases-loop-i
decreases-loop-i l = l.places.n - l.i
