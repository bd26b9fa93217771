-- The columns are what the forest left in them, as it still held the same columns.
use Rattle.std.proofs.Common.{sym, ◌∙◌}
use Rattle.congruence.specs.Settling.{closing_columns}
use Rattle.consistency.specs.Live.{fresh_live, equalities_off}
use Rattle.consistency.specs.Deciding.{contradictory, closing_on, closing_off, refuted_fails, decided}
use Rattle.consistency.proofs.is_consistent.Goals as goal

pub join_equalities-requires : goal.join_equalities-requires
join_equalities-requires c =
    let r = c.reset.ensures in
    fresh_live _ _ c.requires.accepted_set.0 r.links (r.long ∙ c.requires.representatives_len.0) r.fresh

pub returns-then-not-join_equalities : goal.returns-then-not-join_equalities
returns-then-not-join_equalities c = contradictory (equalities_off _ _ c.requires.accepted_set.0 (rw c.if-not-join_equalities.true at c.join_equalities.ensures.equalities))

pub returns-then-not-close : goal.returns-then-not-close
returns-then-not-close c =
    let e = rw c.if-not-join_equalities.false at c.join_equalities.ensures.equalities in
    contradictory (closing_off _ _ c.requires.accepted_set.0 e (rw c.if-not-close.true at c.close.ensures.closing))

pub invariant_of-labels : goal.invariant_of-labels
invariant_of-labels c =
    let s = c.join_equalities.ensures.same_columns in
    let t = c.close.ensures.same_columns in
    let p = c.representatives-2-1.given.1.1 (sym (t.0 ∙ s.0)) in
    let o = c.offsets-2-1.given.1.1 (sym (t.1 ∙ s.1)) in
    let k = rw c.if-not-close.false at c.close.ensures.closing in
    record { columns = rw (p, o) (closing_columns _ _ k) }

pub returns-then-not-any_refuted : goal.returns-then-not-any_refuted
returns-then-not-any_refuted c =
    let good = c.requires.accepted_set.0 in
    let s = c.join_equalities.ensures.same_columns in
    let t = c.close.ensures.same_columns in
    let p = c.representatives-2-1.given.1.1 (sym (t.0 ∙ s.0)) in
    let o = c.offsets-2-1.given.1.1 (sym (t.1 ∙ s.1)) in
    let e = rw c.if-not-join_equalities.false at c.join_equalities.ensures.equalities in
    let k = rw c.if-not-close.false at c.close.ensures.closing in
    let f = closing_on _ _ good e k in
    rw (p, o) (decided _ _ good f (rw (p, o, c.if-not-any_refuted.true) at c.any_refuted.ensures) c.variables_meet.result (rw p at c.variables_meet.ensures))

pub returns-else-not-any_refuted : goal.returns-else-not-any_refuted
returns-else-not-any_refuted c =
    let good = c.requires.accepted_set.0 in
    let s = c.join_equalities.ensures.same_columns in
    let t = c.close.ensures.same_columns in
    let p = c.representatives-2-1.given.1.1 (sym (t.0 ∙ s.0)) in
    let o = c.offsets-2-1.given.1.1 (sym (t.1 ∙ s.1)) in
    let e = rw c.if-not-join_equalities.false at c.join_equalities.ensures.equalities in
    let k = rw c.if-not-close.false at c.close.ensures.closing in
    let f = closing_on _ _ good e k in
    rw c.if-not-any_refuted.false (contradictory (refuted_fails _ _ good f.live (rw (p, o, c.if-not-any_refuted.false) at c.any_refuted.ensures)))
