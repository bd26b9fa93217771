use Rattle.std.proofs.Common.{◌≡◌, ℕ, ◌<◌, length}
use Rattle.tables.specs.Records.{deref_kind}
use Rattle.lastlook.specs.Terms.{count, records, labels}
use Rattle.lastlook.specs.Order.{Shown}
use Rattle.lastlook.proofs.LabelledTerms.all_stand.Given as goal

abbrev pub invariant-loop-t : goal.invariant-loop-t
invariant-loop-t l = (x : ℕ) → x < l.t → (records l.self x).kind ≡ deref_kind → Shown (count l.self) (records l.self) (labels l.self) l.readers l.words (length l.words) x
