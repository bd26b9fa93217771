-- The rules of paper 01, as smallest relations, over the terms `ts` and the given facts `G`.
use Rattle.std.specs.Prelude.{ℕ, ◌<◌, ◌≢◌, List, ℤ, pos, neg_ℤ, ◌+ℤ◌, ◌-ℤ◌, length}
use Rattle.lists.specs.Items.{Item}
use Rattle.rules.specs.Terms.{Term, deref, Given}

-- t1 ≡ z + t2
pub data Equal (ts : List Term) (G : Given) : ℕ → ℤ → ℕ → Type 0 where
  E0 : {t1 t2 : ℕ} {z : ℤ} → G.equal t1 z t2 → Equal ts G t1 z t2
  E1 : {t : ℕ} → t < length ts → Equal ts G t (pos 0) t
  E2 : {t1 t2 : ℕ} {z : ℤ} → Equal ts G t1 z t2 → Equal ts G t2 (neg_ℤ z) t1
  E3 : {t1 t2 t3 : ℕ} {z1 z2 : ℤ} → Equal ts G t1 z1 t2 → Equal ts G t2 z2 t3 → Equal ts G t1 (z1 +ℤ z2) t3
  E4 :
      {t1 t2 d1 d2 : ℕ} {z1 z2 : ℤ} →
      Equal ts G t1 (z2 -ℤ z1) t2 →
      Item ts d1 (deref z1 t1) →
      Item ts d2 (deref z2 t2) →
      Equal ts G d1 (pos 0) d2

-- the blocks of t1 and t2 are apart
pub data Apart (ts : List Term) (G : Given) : ℕ → ℕ → Type 0 where
  given : {t1 t2 : ℕ} → G.apart t1 t2 → Apart ts G t1 t2
  symmetry : {t1 t2 : ℕ} → Apart ts G t1 t2 → Apart ts G t2 t1
  closure :
      {t1 t2 u1 u2 : ℕ} {z1 z2 : ℤ} →
      Apart ts G t1 t2 →
      Equal ts G u1 z1 t1 →
      Equal ts G u2 z2 t2 →
      Apart ts G u1 u2

-- t1 is different from z + t2
pub data Different (ts : List Term) (G : Given) : ℕ → ℤ → ℕ → Type 0 where
  listed : {t1 t2 : ℕ} {z : ℤ} → G.unequal t1 z t2 → Different ts G t1 z t2
  moved :
      {t1 t2 u v : ℕ} {z a b : ℤ} →
      Different ts G t1 z t2 →
      Equal ts G u a t1 →
      Equal ts G v b t2 →
      Different ts G u (z +ℤ a -ℤ b) v
  symmetry : {t1 t2 : ℕ} {z : ℤ} → Different ts G t1 z t2 → Different ts G t2 (neg_ℤ z) t1
  inverse_deref :
      {t1 t2 d1 d2 : ℕ} {z1 z2 : ℤ} →
      Item ts d1 (deref z1 t1) →
      Item ts d2 (deref z2 t2) →
      Different ts G d1 (pos 0) d2 →
      Different ts G t1 (z2 -ℤ z1) t2
  other_offset : {t1 t2 : ℕ} {z : ℤ} (y : ℤ) → Equal ts G t1 z t2 → y ≢ z → Different ts G t1 y t2
  apart : {t1 t2 : ℕ} (z : ℤ) → Apart ts G t1 t2 → Different ts G t1 z t2

pub data Contradiction (ts : List Term) (G : Given) : Type 0 where
  itself : {t : ℕ} {z : ℤ} → Equal ts G t z t → z ≢ pos 0 → Contradiction ts G
  disequality_equal : {t1 t2 : ℕ} {z : ℤ} → G.unequal t1 z t2 → Equal ts G t1 z t2 → Contradiction ts G
  apart_equal : {t1 t2 : ℕ} {z : ℤ} → Apart ts G t1 t2 → Equal ts G t1 z t2 → Contradiction ts G
