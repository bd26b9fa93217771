use Rattle.std.proofs.Common.{ap, arith}
use Rattle.tables.specs.Records.{TermRecord}
use Rattle.lastlook.specs.Addresses.{inner_below}
use Rattle.lastlook.proofs.LabelledTerms.class_of.Goals as goal

pub offset_bounds-self-term_at : goal.offset_bounds-self-term_at
offset_bounds-self-term_at c =
    let L = c.args.self.now.labelled in
    let e = ap (λ (r : TermRecord). r.number) c.term_at.ensures in
    omega (arith, inner_below L c.requires.0 c.requires.1, L.reps_length)

pub bounds-self-term_at : goal.bounds-self-term_at
bounds-self-term_at c =
    let L = c.args.self.now.labelled in
    let e = ap (λ (r : TermRecord). r.number) c.term_at.ensures in
    omega (arith, inner_below L c.requires.0 c.requires.1, L.reps_length)
