use Rattle.std.proofs.Common.{true, length}
use Rattle.tables.specs.Rows.{term_in}
use Rattle.unionfind.specs.Lent.{SameColumns}
use Rattle.joins.specs.Meeting.{Chased}
use Rattle.congruence.proofs.chase.Given as goal

abbrev pub invariant-loop : goal.invariant-loop
invariant-loop l = record {
  same_columns : SameColumns l.fn.forest l.forest;
  chased : Chased (length l.terms) (term_in l.terms) l.fn.forest.parents.now l.fn.forest.offsets.now l.forest.parents.now l.forest.offsets.now true;
}
