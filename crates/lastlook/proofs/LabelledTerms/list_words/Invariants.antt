use Rattle.std.proofs.Common.{◌≤◌}
use Rattle.lastlook.proofs.LabelledTerms.list_words.Given as goal

abbrev pub invariant-loop-t : goal.invariant-loop-t
invariant-loop-t l = l.count ≤ l.t
