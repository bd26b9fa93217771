use Rattle.std.proofs.Common.{◌≡◌, ◌∙◌, refl, arith, length}
use Rattle.consistency.specs.Live.{equalities_start, equalities_next, equalities_live, advanced_off}
use Rattle.consistency.proofs.Kept.join_equalities.Goals as goal

pub loop-p-init : goal.loop-p-init
loop-p-init c = record {
  same_columns = (refl, refl);
  equalities = equalities_start _ _ c.args.self.now.accepted c.requires;
}

pub join_equality-requires-clause-live : goal.join_equality-requires-clause-live
join_equality-requires-clause-live c = equalities_live _ _ c.args.self.now.accepted c.loop-p.invariant.equalities

pub returns-then-not-join_equality-clause-equalities : goal.returns-then-not-join_equality-clause-equalities
returns-then-not-join_equality-clause-equalities c = advanced_off _ _ c.args.self.now.accepted (rw c.if-not-join_equality.true at c.join_equality.ensures.advanced)

pub loop-p-preserved : goal.loop-p-preserved
loop-p-preserved c =
    let i = c.loop-p.invariant in
    let j = c.join_equality.ensures in
    record {
      same_columns = (j.same_columns.0 ∙ i.same_columns.0, j.same_columns.1 ∙ i.same_columns.1);
      equalities = equalities_next _ _ c.args.self.now.accepted (omega arith) i.equalities (rw c.if-not-join_equality.false at j.advanced);
    }

pub returns-clause-equalities : goal.returns-clause-equalities
returns-clause-equalities c =
    let e : c.loop-p.p ≡ length c.args.self.now.propositions.now = omega (arith, c.loop-p.auto.p-end) in
    rw e at c.loop-p.invariant.equalities
