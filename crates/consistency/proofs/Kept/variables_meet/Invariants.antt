use Rattle.std.proofs.Common.{length}
use Rattle.tables.specs.Rows.{term_in}
use Rattle.consistency.specs.Variables.{Seen}
use Rattle.consistency.proofs.Kept.variables_meet.Given as goal

-- the classes of the variables before t are seen, and no two are one
abbrev pub invariant-loop-t : goal.invariant-loop-t
invariant-loop-t l = Seen (length l.self.terms.now) (term_in l.self.terms.now) l.labels.representatives.now l.seen l.t
