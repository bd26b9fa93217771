use Rattle.std.proofs.Common.{ℕ, ◌<◌, false}
use Rattle.labels.specs.View.{view}
use Rattle.tables.specs.Rows.{proposition_in}
use Rattle.consistency.specs.Deciding.{Judged}
use Rattle.consistency.proofs.Kept.any_refuted.Given as goal

-- no kept disequality before p is contradicted
abbrev pub invariant-loop-p : goal.invariant-loop-p
invariant-loop-p l = (k : ℕ) → k < l.p → Judged (proposition_in l.self.propositions.now) l.self.marks.now (view l.labels.representatives.now l.labels.offsets.now) k false
