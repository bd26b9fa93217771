-- The kept equalities before p hold.
use Rattle.std.proofs.Common.{true}
use Rattle.consistency.specs.KeptSet.{set_in}
use Rattle.unionfind.specs.Lent.{SameColumns}
use Rattle.consistency.specs.Live.{Equalities}
use Rattle.consistency.proofs.Kept.join_equalities.Given as goal

abbrev pub invariant-loop-p : goal.invariant-loop-p
invariant-loop-p l = record {
  same_columns : SameColumns l.fn.forest l.forest;
  equalities : Equalities (set_in l.self) l.self.marks.now l.forest.parents.now l.forest.offsets.now l.p true;
}
