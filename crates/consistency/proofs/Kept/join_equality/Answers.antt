-- A kept equality is joined; any other proposition changes nothing.
use Rattle.std.proofs.Common.{◌≡◌, ◌<◌, ℕ, ℤ, List, Bool, true, not, arith, ap, w64}
use Rattle.std.proofs.lemmas.Int.{to_z-of_z}
use denote.Enum.Bare.{sameb}
use Rattle.labels.specs.Spread.{far}
use Rattle.closure.proofs.Distance.{wider}
use Rattle.offsets.specs.Fits.{within_fits}
use Rattle.tables.specs.Records.{PropositionRecord, equality_kind}
use Rattle.tables.specs.Sets.{Set, AcceptedSet}
use Rattle.tables.proofs.PropositionTable.{sides_below, proposition_offset_within}
use Rattle.unionfind.specs.declared.Joining.{Joining}
use Rattle.unionfind.specs.contracts.Joining.{the_type}
use Rattle.unionfind.specs.Forest.{flat, Equated}
use Rattle.joins.specs.Labels.{labels_near}
use Rattle.consistency.specs.Live.{Live, Advanced, is_kept, live_labels, advance_none, advance_joined, advance_held, advance_clashed, dropped, marked}
use Rattle.consistency.proofs.Kept.join_equality.Goals as goal

-- what joining a kept equality leaves, by whether it clashed
advanced :
    {S : Set} {marks : List ℕ} {p0 p : List ℕ} {o0 o : List ℤ} {k : ℕ} →
    AcceptedSet S →
    Live S marks p0 o0 →
    k < S.propositions →
    is_kept marks k ≡ true →
    (S.proposition k).kind ≡ equality_kind →
    (r : Joining) →
    Equated p0 o0 p o (S.proposition k).left (S.proposition k).offset (S.proposition k).right r →
    {b : Bool} →
    b ≡ not (sameb the_type r Joining.Clashed) →
    Advanced S marks (flat p0 o0) p o k b
advanced {S} {marks} A L h i e Joining.Joined E f = rw f (advance_joined S marks A L h i e E)
advanced {S} {marks} A L h i e Joining.Held E f = rw f (advance_held S marks A L h i e E)
advanced {S} {marks} A L h i e Joining.Clashed E f = rw f (advance_clashed S marks A L h i e E)

pub returns-then-self-p-eq0-clause-advanced : goal.returns-then-self-p-eq0-clause-advanced
returns-then-self-p-eq0-clause-advanced c =
    advance_none _ _ c.args.self.now.accepted c.requires.live (λ k e. dropped c.args.self.now.marks.now c.args.p.0 c.if-self-p-eq0.true k)

pub returns-then-r-ne-EQUALITY-clause-advanced : goal.returns-then-r-ne-EQUALITY-clause-advanced
returns-then-r-ne-EQUALITY-clause-advanced c =
    advance_none _ _ c.args.self.now.accepted c.requires.live (λ k e. (rw c.proposition_at-r.ensures at c.if-r-ne-EQUALITY.true) e)

pub join-requires-clause-none_far : goal.join-requires-clause-none_far
join-requires-clause-none_far c = labels_near (live_labels _ _ c.args.self.now.accepted c.requires.live)

pub join-requires-clause-in_bounds : goal.join-requires-clause-in_bounds
join-requires-clause-in_bounds c =
    let r = c.requires in
    let sides = sides_below _ _ _ c.args.self.now.accepted.propositions c.args.p.0 r.p_in_bounds in
    rw (c.proposition_at-r.ensures, r.live.count) sides

pub join-requires-clause-z_within : goal.join-requires-clause-z_within
join-requires-clause-z_within c =
    let near = wider {C = far} (omega arith) (proposition_offset_within _ _ _ c.args.self.now.accepted.propositions c.args.p.0 c.requires.p_in_bounds) in
    let o = ap (λ (r : PropositionRecord). r.offset) c.proposition_at-r.ensures in
    rw (o, to_z-of_z w64 _ (within_fits (omega arith) near)) near

pub returns-clause-advanced : goal.returns-clause-advanced
returns-clause-advanced c =
    let r = c.requires in
    let e = c.proposition_at-r.ensures in
    let near = wider {C = far} (omega arith) (proposition_offset_within _ _ _ c.args.self.now.accepted.propositions c.args.p.0 r.p_in_bounds) in
    let j = rw (e, to_z-of_z w64 _ (within_fits (omega arith) near)) at c.join.ensures.equated in
    advanced c.args.self.now.accepted r.live r.p_in_bounds (marked c.args.self.now.marks.now c.args.p.0 c.if-self-p-eq0.false) (rw e at c.if-r-ne-EQUALITY.false) c.join.result j c.ne.ensures
