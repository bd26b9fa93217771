use Rattle.std.proofs.Common.{ℕ, ◌<◌, false}
use Rattle.lastlook.specs.Terms.{records, labels}
use Rattle.lastlook.specs.Addresses.{Unequal}
use Rattle.lastlook.proofs.LabelledTerms.unequal_to.Given as goal

abbrev pub invariant-loop-t : goal.invariant-loop-t
invariant-loop-t l = (y : ℕ) → y < l.t → Unequal (records l.self) (labels l.self) l.x.0 y false
