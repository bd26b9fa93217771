use Rattle.unionfind.specs.Lent.{SameColumns}
use Rattle.unionfind.specs.Turns.{Finding}
use Rattle.unionfind.proofs.Forest.find.Given as goal

abbrev pub invariant-loop-at : goal.invariant-loop-at
invariant-loop-at l = record {
  same_columns : SameColumns l.fn.self l.self;
  finding : Finding l.fn.self.parents.now l.fn.self.offsets.now l.self.parents.now l.self.offsets.now l.fn.t.0 l.at l.offset;
}

abbrev pub decreases-loop-at : goal.decreases-loop-at
decreases-loop-at l = l.at
