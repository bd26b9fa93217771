-- No record before i has a fault.
use Rattle.std.proofs.Common.{ℕ, ◌<◌, Ok}
use Rattle.refusals.proofs.each.judge_each.Given as goal

abbrev pub invariant-loop-i : goal.invariant-loop-i
invariant-loop-i g l = (j : ℕ) → j < l.i → goal.J-post g l.judge j (Ok tt)
