-- A sound labelling that respects the given equalities and congruence, with lowest representatives, is the only one.
use Rattle.std.specs.Prelude.{ℕ, ◌<◌, ◌≤◌, ◌≡◌, List, ◌↔◌, ℤ, length}
use Rattle.std.proofs.Common.{arith}
use Rattle.integers.specs.Linear.{linear, value, ‹◌›, ◌⊕◌}
use Rattle.rules.specs.Terms.{Term, Given}
use Rattle.rules.specs.Rules.{Equal}
use Rattle.rules.specs.Assignments.{Placement, Holds, Respects}
use Rattle.rules.proofs.Soundness.{equal_holds}
use Rattle.labels.specs.Labelling.{Sound, Lowest, holds_equal}

-- the labelling that the rules determine
pub record Canonical (ts : List Term) (G : Given) (P : Placement) : Type 0 where
  pub sound : Sound ts G P
  pub respects : Respects ts G P
  pub lowest : Lowest ts P

module _ (ts : List Term) (G : Given) where
  -- equal by the labelling exactly where the rules derive it
  pub canonical_equal :
      (P : Placement) →
      Canonical ts G P →
      {t1 t2 : ℕ} {z : ℤ} →
      t1 < length ts →
      t2 < length ts →
      Equal ts G t1 z t2 ↔ Holds P t1 z t2
  canonical_equal P C h1 h2 = (equal_holds ts G P C.respects, holds_equal ts G P C.sound h1 h2)

  module _ (P Q : Placement) (C : Canonical ts G P) (D : Canonical ts G Q) where
    -- P's label of a term, read in Q
    read : (t : ℕ) → t < length ts → Holds Q t (P.position t) (P.block t)
    read t h = equal_holds ts G Q D.respects (C.sound t h)

    block_at_most : (t : ℕ) → t < length ts → Q.block t ≤ P.block t
    block_at_most t h =
        let below = C.lowest t h in
        omega (arith, (read t h).same_block, D.lowest (P.block t) (omega arith))

  pub unique :
      (P Q : Placement) →
      Canonical ts G P →
      Canonical ts G Q →
      (t : ℕ) →
      t < length ts →
      (P.block t ≡ Q.block t) × (P.position t ≡ Q.position t)
  unique P Q C D t h =
      let same : P.block t ≡ Q.block t = omega (arith, block_at_most P Q C D t h, block_at_most Q P D C t h) in
      let root = read Q Q D D t h in
      let other = rw same at (read P Q C D t h).at_offset in (
        same,
        omega (linear, root.at_offset, other, value (‹ Q.position t › ⊕ ‹ Q.position (Q.block t) ›), value (‹ P.position t › ⊕ ‹ Q.position (Q.block t) ›)),
      )
