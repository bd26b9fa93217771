use Rattle.std.proofs.Common.{◌≡◌, sym, ◌∙◌, arith, below_more}
use Rattle.tables.specs.Records.{is_same_atom}
use Rattle.tables.specs.Rows.{term_in}
use Rattle.frames.specs.Taking.{listed_here, listed_nowhere}
use Rattle.frames.proofs.take.listed.Goals as goal
use Rattle.frames.proofs.take.listed.Goals.{After-same_atom}

-- the test of record k
tested : (c : After-same_atom) → c.same_atom.result ≡ is_same_atom c.args.t (term_in c.args.terms.now c.loop-k.k)
tested c = rw (← c.term_at.ensures) c.same_atom.ensures

pub returns-then-same_atom : goal.returns-then-same_atom
returns-then-same_atom c = λ rs e L.
    let l = c.loop-k in
    sym (listed_here _ rs L c.args.t l.k (omega arith) (sym (tested (goal.at.returns-then-same_atom c).After-same_atom) ∙ c.if-same_atom.true))

pub loop-k-preserved : goal.loop-k-preserved
loop-k-preserved c = below_more _ c.loop-k.k c.loop-k.invariant (sym (tested (goal.at.loop-k-preserved c).After-same_atom) ∙ c.if-same_atom.false)

pub returns : goal.returns
returns c = λ rs e L. sym (listed_nowhere _ rs L c.args.t (λ k h. c.loop-k.invariant k (omega arith)))
