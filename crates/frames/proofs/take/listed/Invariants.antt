-- No record passed is of this atom.
use Rattle.std.proofs.Common.{◌≡◌, ℕ, ◌<◌, false}
use Rattle.tables.specs.Records.{is_same_atom}
use Rattle.tables.specs.Rows.{term_in}
use Rattle.frames.proofs.take.listed.Given as goal

abbrev pub invariant-loop-k : goal.invariant-loop-k
invariant-loop-k l = (i : ℕ) → i < l.k → is_same_atom l.t (term_in l.terms i) ≡ false
