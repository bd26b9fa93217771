-- Assignments: a block and a position for each listed term.
use Rattle.std.specs.Prelude.{ℕ, ◌≡◌, List, ℤ, pos, ◌+ℤ◌}
use Rattle.lists.specs.Items.{Item}
use Rattle.rules.specs.Terms.{Term, deref, Given}

-- blocks are numbered without limit; only the values at listed terms matter
pub record Placement : Type 0 where
  pub block : ℕ → ℕ
  pub position : ℕ → ℤ

-- t1 = z + t2 holds
pub record Holds (P : Placement) (t1 : ℕ) (z : ℤ) (t2 : ℕ) : Type 0 where
  pub same_block : P.block t1 ≡ P.block t2
  pub at_offset : P.position t1 ≡ z +ℤ P.position t2

-- t1 ≠ z + t2 holds
abbrev pub Differs : Placement → ℕ → ℤ → ℕ → Type 0
Differs P t1 z t2 = Holds P t1 z t2 → ⊥

-- bl(t1) ≠ bl(t2) holds
abbrev pub BlocksDiffer : Placement → ℕ → ℕ → Type 0
BlocksDiffer P t1 t2 = P.block t1 ≡ P.block t2 → ⊥

-- the equalities of an assignment: those that are given, and congruence
pub record Respects (ts : List Term) (G : Given) (P : Placement) : Type 0 where
  pub equal : {t1 t2 : ℕ} {z : ℤ} → G.equal t1 z t2 → Holds P t1 z t2
  -- where z1 + t1 and z2 + t2 are one block and position, the listed *(z1 + t1) and *(z2 + t2) are too
  pub congruent :
      {t1 t2 d1 d2 : ℕ} {z1 z2 : ℤ} →
      Item ts d1 (deref z1 t1) →
      Item ts d2 (deref z2 t2) →
      P.block t1 ≡ P.block t2 →
      z1 +ℤ P.position t1 ≡ z2 +ℤ P.position t2 →
      Holds P d1 (pos 0) d2

pub record Assignment (ts : List Term) (G : Given) (P : Placement) : Type 0 where
  pub respects : Respects ts G P
  pub unequal : {t1 t2 : ℕ} {z : ℤ} → G.unequal t1 z t2 → Differs P t1 z t2
  pub apart : {t1 t2 : ℕ} → G.apart t1 t2 → BlocksDiffer P t1 t2
