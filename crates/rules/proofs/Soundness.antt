-- What the rules derive holds in every assignment.
use Rattle.std.specs.Prelude.{ℕ, refl, List, ℤ}
use Rattle.std.proofs.Common.{sym, ◌∙◌}
use Rattle.integers.specs.Linear.{linear, value, ‹◌›, #◌, ◌⊕◌, ◌⊖◌, ⊝◌}
use Rattle.rules.specs.Terms.{Term, Given}
use Rattle.rules.specs.Rules.{Equal, E0, E1, E2, E3, E4, Apart, Different, Contradiction}
use Rattle.rules.specs.Assignments.{Placement, Holds, Differs, BlocksDiffer, Respects, Assignment}

module _ (ts : List Term) (G : Given) (P : Placement) where
  -- equal terms hold where the given equalities and congruence do
  pub equal_holds : Respects ts G P → {t1 t2 : ℕ} {z : ℤ} → Equal ts G t1 z t2 → Holds P t1 z t2
  equal_holds R (E0 g) = R.equal g
  equal_holds R (E1 {t = t} h) =
      record { same_block = refl; at_offset = omega (linear, value (# 0 ⊕ ‹ P.position t ›)) }
  equal_holds R (E2 {t1 = t1} {t2 = t2} {z = z} e) =
      let h = equal_holds R e in
      record {
        same_block = sym h.same_block;
        at_offset = omega (linear, value (⊝ ‹ z › ⊕ ‹ P.position t1 ›), value (‹ z › ⊕ ‹ P.position t2 ›));
      }
  equal_holds R (E3 {t1 = t1} {t2 = t2} {t3 = t3} {z1 = z1} {z2 = z2} e f) =
      let h = equal_holds R e in
      let k = equal_holds R f in
      record {
        same_block = h.same_block ∙ k.same_block;
        at_offset = omega (linear, value (‹ z1 › ⊕ ‹ P.position t2 ›), value (‹ z2 › ⊕ ‹ P.position t3 ›), value (‹ z1 › ⊕ ‹ z2 › ⊕ ‹ P.position t3 ›));
      }
  equal_holds R (E4 {t1 = t1} {t2 = t2} {z1 = z1} {z2 = z2} e i j) =
      let h = equal_holds R e in
      R.congruent i j h.same_block
      (omega (linear, value (‹ z1 › ⊕ ‹ P.position t1 ›), value (‹ z2 › ⊕ ‹ P.position t2 ›), value (‹ z2 › ⊖ ‹ z1 › ⊕ ‹ P.position t2 ›), h.at_offset))

  module _ (A : Assignment ts G P) where
    equal_in : {t1 t2 : ℕ} {z : ℤ} → Equal ts G t1 z t2 → Holds P t1 z t2
    equal_in e = equal_holds A.respects e

    pub apart_differs : {t1 t2 : ℕ} → Apart ts G t1 t2 → BlocksDiffer P t1 t2
    apart_differs (Apart.given g) same = A.apart g same
    apart_differs (Apart.symmetry a) same = apart_differs a (sym same)
    apart_differs (Apart.closure a e1 e2) same =
        apart_differs a (sym (equal_in e1).same_block ∙ same ∙ (equal_in e2).same_block)

    pub different_differs : {t1 t2 : ℕ} {z : ℤ} → Different ts G t1 z t2 → Differs P t1 z t2
    different_differs (Different.listed g) h = A.unequal g h
    different_differs (Different.moved {t1 = t1} {t2 = t2} {u = u} {v = v} {z = z} {a = a} {b = b} d e1 e2) h =
        let k1 = equal_in e1 in
        let k2 = equal_in e2 in
        different_differs d
        (record {
          same_block = sym k1.same_block ∙ h.same_block ∙ k2.same_block;
          at_offset = omega (linear, value (‹ z › ⊕ ‹ P.position t2 ›), value (‹ a › ⊕ ‹ P.position t1 ›), value (‹ b › ⊕ ‹ P.position t2 ›), value (‹ z › ⊕ ‹ a › ⊖ ‹ b › ⊕ ‹ P.position v ›), k1.at_offset, k2.at_offset);
        })
    different_differs (Different.symmetry {t1 = t1} {t2 = t2} {z = z} d) h =
        different_differs d
        (record {
          same_block = sym h.same_block;
          at_offset = omega (linear, value (‹ z › ⊕ ‹ P.position t2 ›), value (⊝ ‹ z › ⊕ ‹ P.position t1 ›));
        })
    different_differs (Different.inverse_deref {t1 = t1} {t2 = t2} {z1 = z1} {z2 = z2} i j d) h =
        different_differs d
        (A.respects.congruent i j h.same_block
        (omega (linear, value (‹ z1 › ⊕ ‹ P.position t1 ›), value (‹ z2 › ⊕ ‹ P.position t2 ›), value (‹ z2 › ⊖ ‹ z1 › ⊕ ‹ P.position t2 ›))))
    different_differs (Different.other_offset {t1 = t1} {t2 = t2} {z = z} y e n) h =
        let k = equal_in e in
        n (omega (linear, value (‹ z › ⊕ ‹ P.position t2 ›), value (‹ y › ⊕ ‹ P.position t2 ›), k.at_offset, h.at_offset))
    different_differs (Different.apart z a) h = apart_differs a h.same_block

    -- a contradictory set has no assignment
    pub no_contradiction : Contradiction ts G → ⊥
    no_contradiction (Contradiction.itself {t = t} {z = z} e n) =
        let k = equal_in e in
        n (omega (linear, value (# 0), value (‹ z › ⊕ ‹ P.position t ›), k.at_offset))
    no_contradiction (Contradiction.disequality_equal g e) = A.unequal g (equal_in e)
    no_contradiction (Contradiction.apart_equal a e) = apart_differs a (equal_in e).same_block
