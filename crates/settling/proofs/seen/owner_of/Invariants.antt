-- The invariant: the leads before x read class a.
use Prim.Native.Nat.{◌-◌}
use Rattle.buckets.specs.Buckets.{key_of, NextOf}
use Rattle.settling.specs.Seen.{no_owner, Reads, reads_done, reads_more, reads_start}
use borrow.Author.Rules.{rules}
use native.Mathlib.Omega.{arith}
use Rattle.settling.proofs.seen.owner_of.Given as goal

abbrev pub invariant-loop-x : goal.invariant-loop-x
invariant-loop-x l = Reads l.n l.keys l.reads l.h l.a l.x

abbrev pub decreases-loop-x : goal.decreases-loop-x
decreases-loop-x l = l.n - l.x
