-- The invariant: the homes of the terms before t are in the mask.
use Prim.Native.Nat.{◌-◌}
use native.Mathlib.Omega.{arith}
use Rattle.expansion.specs.Expand.{Hosts, hosts_none, hosts_skip, hosts_more, hosts_done}
use borrow.Author.Rules.{rules}
use Rattle.expansion.proofs.mark_hosts.Given as goal

abbrev pub invariant-loop-t : goal.invariant-loop-t
invariant-loop-t l = Hosts l.t l.homes l.hosts

abbrev pub decreases-loop-t : goal.decreases-loop-t
decreases-loop-t l = l.n - l.t
