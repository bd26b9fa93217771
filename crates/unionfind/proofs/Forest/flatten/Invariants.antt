use Rattle.unionfind.specs.Lent.{SameColumns}
use Rattle.unionfind.specs.Turns.{Flattening}
use Rattle.unionfind.proofs.Forest.flatten.Given as goal

abbrev pub invariant-loop-t : goal.invariant-loop-t
invariant-loop-t l = record {
  same_columns : SameColumns l.fn.self l.self;
  flattening : Flattening l.fn.self.parents.now l.fn.self.offsets.now l.self.parents.now l.self.offsets.now l.t;
}
