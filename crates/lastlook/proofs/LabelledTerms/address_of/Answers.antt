use Rattle.std.proofs.Common.{ap, arith, w64}
use Rattle.std.proofs.lemmas.Int.{to_z-of_z}
use Rattle.integers.specs.Within.{within_sum}
use Rattle.offsets.specs.Fits.{within_fits}
use Rattle.tables.specs.Records.{TermRecord}
use Rattle.lastlook.specs.Addresses.{inner_below, offset_limited, inner_near}
use Rattle.lastlook.proofs.LabelledTerms.address_of.Goals as goal

pub offset_bounds-self-r : goal.offset_bounds-self-r
offset_bounds-self-r c =
    let L = c.args.self.now.labelled in
    let e = ap (λ (r : TermRecord). r.number) c.term_at-r.ensures in
    omega (arith, inner_below L c.requires.0 c.requires.1, L.offs_length)

pub bounds-self-r : goal.bounds-self-r
bounds-self-r c =
    let L = c.args.self.now.labelled in
    let e = ap (λ (r : TermRecord). r.number) c.term_at-r.ensures in
    omega (arith, inner_below L c.requires.0 c.requires.1, L.offs_length)

pub sum-requires : goal.sum-requires
sum-requires c =
    let L = c.args.self.now.labelled in
    let o = ap (λ (r : TermRecord). r.offset) c.term_at-r.ensures in
    let e = ap (λ (r : TermRecord). r.number) c.term_at-r.ensures in
    let a = offset_limited L c.requires.0 c.requires.1 in
    let b = inner_near L c.requires.0 c.requires.1 in
    rw (o, e, to_z-of_z w64 _ (within_fits (omega arith) a), to_z-of_z w64 _ (within_fits (omega arith) b))
    (within_fits (omega arith) (within_sum a b))
