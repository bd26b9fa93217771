use Rattle.std.proofs.Common.{ℕ, ◌<◌, ◌-◌, get_or}
use Rattle.lastlook.specs.Terms.{labels}
use Rattle.lastlook.specs.Order.{Follows}
use Rattle.lastlook.proofs.LabelledTerms.compare_all.Given as goal

abbrev pub invariant-loop-i : goal.invariant-loop-i
invariant-loop-i l = (k : ℕ) → k < l.i → 0 < k → Follows (labels l.self) (get_or l.words (k - 1) 0) (get_or l.words k 0)
