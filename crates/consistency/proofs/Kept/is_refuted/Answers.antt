-- A kept disequality contradicts labels by which its sides are equal, a kept block disequality labels with its sides in one class.
use Rattle.std.proofs.Common.{refl, arith, ap, w64}
use Rattle.std.proofs.lemmas.Int.{to_z-of_z}
use Rattle.labels.specs.Spread.{far}
use Rattle.closure.proofs.Distance.{wider}
use Rattle.offsets.specs.Fits.{within_fits}
use Rattle.tables.specs.Records.{PropositionRecord}
use Rattle.tables.proofs.PropositionTable.{sides_below, proposition_offset_within}
use Rattle.consistency.specs.Live.{dropped, marked}
use Rattle.consistency.specs.Deciding.{right, judged_disequality, judged_blocks}
use Rattle.consistency.proofs.Kept.is_refuted.Goals as goal

pub returns-then-self-p-eq0 : goal.returns-then-self-p-eq0
returns-then-self-p-eq0 c =
    let drop = dropped c.args.self.now.marks.now c.args.p.0 c.if-self-p-eq0.true in
    right (λ k. absurd (drop k)) (λ k. absurd (drop k))

pub holds-requires-clause-in_bounds : goal.holds-requires-clause-in_bounds
holds-requires-clause-in_bounds c =
    let r = c.requires.in_bounds in
    rw (c.proposition_at-r.ensures, r.0) (sides_below _ _ _ c.args.self.now.accepted.propositions c.args.p.0 r.1)

pub holds-requires-clause-z_within : goal.holds-requires-clause-z_within
holds-requires-clause-z_within c =
    let near = wider {C = far} (omega arith) (proposition_offset_within _ _ _ c.args.self.now.accepted.propositions c.args.p.0 c.requires.in_bounds.1) in
    let o = ap (λ (r : PropositionRecord). r.offset) c.proposition_at-r.ensures in
    rw (o, to_z-of_z w64 _ (within_fits (omega arith) near)) near

pub returns-then-r-eq-DISEQUALITY : goal.returns-then-r-eq-DISEQUALITY
returns-then-r-eq-DISEQUALITY c =
    let e = c.proposition_at-r.ensures in
    let near = wider {C = far} (omega arith) (proposition_offset_within _ _ _ c.args.self.now.accepted.propositions c.args.p.0 c.requires.in_bounds.1) in
    judged_disequality (marked c.args.self.now.marks.now c.args.p.0 c.if-self-p-eq0.false) (rw e at c.if-r-eq-DISEQUALITY.true) c.holds.result
    (rw (e, to_z-of_z w64 _ (within_fits (omega arith) near)) at c.holds.ensures)

pub offset_bounds-labels-left : goal.offset_bounds-labels-left
offset_bounds-labels-left c =
    let r = c.requires.in_bounds in
    let b = sides_below _ _ _ c.args.self.now.accepted.propositions c.args.p.0 r.1 in
    let e = ap (λ (r : PropositionRecord). r.left) c.proposition_at-r.ensures in
    omega (arith, b.0, c.args.self.now.accepted.few_terms)

pub bounds-labels-left : goal.bounds-labels-left
bounds-labels-left c =
    let r = c.requires.in_bounds in
    rw (c.proposition_at-r.ensures, r.0) (sides_below _ _ _ c.args.self.now.accepted.propositions c.args.p.0 r.1).0

pub offset_bounds-labels-right : goal.offset_bounds-labels-right
offset_bounds-labels-right c =
    let r = c.requires.in_bounds in
    let b = sides_below _ _ _ c.args.self.now.accepted.propositions c.args.p.0 r.1 in
    let e = ap (λ (r : PropositionRecord). r.right) c.proposition_at-r.ensures in
    omega (arith, b.1, c.args.self.now.accepted.few_terms)

pub bounds-labels-right : goal.bounds-labels-right
bounds-labels-right c =
    let r = c.requires.in_bounds in
    rw (c.proposition_at-r.ensures, r.0) (sides_below _ _ _ c.args.self.now.accepted.propositions c.args.p.0 r.1).1

pub returns-then-r-eq-BLOCK_DISEQUALITY : goal.returns-then-r-eq-BLOCK_DISEQUALITY
returns-then-r-eq-BLOCK_DISEQUALITY c =
    let e = c.proposition_at-r.ensures in
    judged_blocks (marked c.args.self.now.marks.now c.args.p.0 c.if-self-p-eq0.false) (rw e at c.if-r-eq-BLOCK_DISEQUALITY.true) _ (rw e refl)

pub returns : goal.returns
returns c =
    let e = c.proposition_at-r.ensures in
    right (λ k d. absurd ((rw e at c.if-r-eq-DISEQUALITY.false) d)) (λ k d. absurd ((rw e at c.if-r-eq-BLOCK_DISEQUALITY.false) d))
