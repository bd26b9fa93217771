-- A labelling gives each term a representative and an offset from it. It is a placement: its blocks are the representatives, its
-- positions the offsets.
use Rattle.std.specs.Prelude.{ℕ, ◌<◌, ◌≤◌, ◌≡◌, ◌≢◌, List, ℤ, pos, ◌+ℤ◌, ◌-ℤ◌, length}
use Rattle.std.proofs.Common.{sym}
use Rattle.integers.specs.Linear.{linear, value, ‹◌›, #◌, ◌⊕◌, ◌⊖◌}
use Rattle.lists.specs.Items.{Item, item_below}
use Rattle.rules.specs.Terms.{Term, deref, Given, WellFormed}
use Rattle.rules.specs.Rules.{Equal, E2, E3, E4, Apart, Contradiction}
use Rattle.rules.specs.Assignments.{Placement, Holds}

-- the rules derive each label
abbrev pub Sound : List Term → Given → Placement → Type 0
Sound ts G P = (t : ℕ) → t < length ts → Equal ts G t (P.position t) (P.block t)

-- no representative has a higher number than its term
abbrev pub Lowest : List Term → Placement → Type 0
Lowest ts P = (t : ℕ) → t < length ts → P.block t ≤ t

module _ (ts : List Term) (G : Given) (P : Placement) (S : Sound ts G P) where
  -- two terms of one class are equal at the difference of their offsets
  pub class_equal :
      {t1 t2 : ℕ} →
      t1 < length ts →
      t2 < length ts →
      P.block t1 ≡ P.block t2 →
      Equal ts G t1 (P.position t1 -ℤ P.position t2) t2
  class_equal {t1} {t2} h1 h2 b = E3 (rw b at (S t1 h1)) (E2 (S t2 h2))

  -- and so at any offset that agrees with it
  pub holds_equal : {t1 t2 : ℕ} {z : ℤ} → t1 < length ts → t2 < length ts → Holds P t1 z t2 → Equal ts G t1 z t2
  holds_equal {t1} {t2} {z} h1 h2 h =
      let e : P.position t1 -ℤ P.position t2 ≡ z =
      omega (linear, value (‹ P.position t1 › ⊖ ‹ P.position t2 ›), value (‹ z › ⊕ ‹ P.position t2 ›), h.at_offset) in
      rw e at (class_equal h1 h2 h.same_block)

  -- dereferences of one address are equal
  pub deref_equal :
      {t1 t2 d1 d2 : ℕ} {z1 z2 : ℤ} →
      WellFormed ts G →
      Item ts d1 (deref z1 t1) →
      Item ts d2 (deref z2 t2) →
      P.block t1 ≡ P.block t2 →
      z1 +ℤ P.position t1 ≡ z2 +ℤ P.position t2 →
      Equal ts G d1 (pos 0) d2
  deref_equal {t1} {t2} {d1} {d2} {z1} {z2} W i j b e =
      E4 {z1 = z1} {z2 = z2} (holds_equal
      (omega (linear, W.earlier i, item_below ts d1 i))
      (omega (linear, W.earlier j, item_below ts d2 j))
      (record {
        same_block = b;
        at_offset = omega (linear, value (‹ z1 › ⊕ ‹ P.position t1 ›), value (‹ z2 › ⊕ ‹ P.position t2 ›), value (‹ z2 › ⊖ ‹ z1 › ⊕ ‹ P.position t2 ›));
      }))
      i
      j

  -- a derived equality of one class that the offsets contradict
  pub equal_conflict :
      {t1 t2 : ℕ} {z : ℤ} →
      t1 < length ts →
      t2 < length ts →
      Equal ts G t1 z t2 →
      P.block t1 ≡ P.block t2 →
      P.position t1 ≢ z +ℤ P.position t2 →
      Contradiction ts G
  equal_conflict {t1} {t2} {z} h1 h2 e b n =
      Contradiction.itself (E3 e (class_equal h2 h1 (sym b)))
      (λ k. n (omega (linear, k, value (# 0), value (‹ z › ⊕ (‹ P.position t2 › ⊖ ‹ P.position t1 ›)), value (‹ z › ⊕ ‹ P.position t2 ›))))

  pub unequal_conflict :
      {t1 t2 : ℕ} {z : ℤ} →
      t1 < length ts →
      t2 < length ts →
      G.unequal t1 z t2 →
      Holds P t1 z t2 →
      Contradiction ts G
  unequal_conflict h1 h2 g h = Contradiction.disequality_equal g (holds_equal h1 h2 h)

  pub apart_conflict :
      {t1 t2 : ℕ} →
      t1 < length ts →
      t2 < length ts →
      G.apart t1 t2 →
      P.block t1 ≡ P.block t2 →
      Contradiction ts G
  apart_conflict h1 h2 g b = Contradiction.apart_equal (Apart.given g) (class_equal h1 h2 b)
