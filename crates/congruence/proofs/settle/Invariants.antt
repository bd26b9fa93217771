use Rattle.std.proofs.Common.{true, length}
use Rattle.labels.specs.Joins.{weight}
use Rattle.tables.specs.Rows.{term_in}
use Rattle.unionfind.specs.Forest.{flat}
use Rattle.unionfind.specs.Lent.{SameColumns}
use Rattle.joins.specs.Meeting.{Chased}
use Rattle.congruence.proofs.settle.Given as goal

abbrev pub invariant-loop-x : goal.invariant-loop-x
invariant-loop-x l = record {
  same_columns : SameColumns l.fn.forest l.forest;
  chased : Chased (length l.terms) (term_in l.terms) l.fn.forest.parents.now l.fn.forest.offsets.now l.forest.parents.now l.forest.offsets.now true;
}

abbrev pub decreases-loop-x : goal.decreases-loop-x
decreases-loop-x l = weight (length l.terms) (flat l.forest.parents.now l.forest.offsets.now)
