use Rattle.std.proofs.Common.{ℕ, ◌<◌, false}
use Rattle.lastlook.specs.Terms.{count, records, labels}
use Rattle.lastlook.specs.Addresses.{Unequal}
use Rattle.lastlook.proofs.LabelledTerms.look_at_all.Given as goal

abbrev pub invariant-loop-t : goal.invariant-loop-t
invariant-loop-t l = (x : ℕ) → x < l.t → (y : ℕ) → y < count l.self → Unequal (records l.self) (labels l.self) x y false
