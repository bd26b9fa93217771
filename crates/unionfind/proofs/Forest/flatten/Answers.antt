use Rattle.std.proofs.Common.{◌∙◌, arith}
use Rattle.unionfind.specs.Turns.{flattening_skip, flattening_next, flattened}
use Rattle.unionfind.proofs.Forest.flatten.Goals as goal
use Rattle.unionfind.proofs.Forest.flatten.Goals.{then-self-t, else-self-t}

pub halve-requires-clause-none_far : goal.halve-requires-clause-none_far
halve-requires-clause-none_far c =
    let f = c.loop-t.invariant.flattening in
    rw (f.long, f.same) c.requires

pub loop-t-preserved : goal.loop-t-preserved
loop-t-preserved c =
    let i = c.loop-t.invariant in
    elim c.if-self-t.branch [
      | then-self-t w ↦
          let h = w.halve.ensures in
          rw w.self-is (record {
            same_columns = (h.same_columns.0 ∙ i.same_columns.0, h.same_columns.1 ∙ i.same_columns.1);
            flattening = flattening_next i.flattening (omega arith) w.if-self-t.true h.halved;
          })
      | else-self-t w ↦ rw w.self-is (record { same_columns = i.same_columns; flattening = flattening_skip i.flattening (omega arith) w.if-self-t.false })
    ]

pub returns-clause-flattened : goal.returns-clause-flattened
returns-clause-flattened c = flattened c.loop-t.invariant.flattening c.args.self.now.links.same_length (omega arith)
