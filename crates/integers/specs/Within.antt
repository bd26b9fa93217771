-- Whole numbers of bounded magnitude.
use Rattle.std.specs.Prelude.{ℕ, ◌+◌, ◌≤◌, ℤ, pos, neg_ℤ, ◌+ℤ◌, ◌-ℤ◌}
use Rattle.std.proofs.Common.{arith}
use Rattle.integers.specs.Linear.{up, dn, value, ‹◌›, #◌, ◌⊕◌, ◌⊖◌, ⊝◌}

-- the magnitude of z is at most B
pub record Within (B : ℕ) (z : ℤ) : Type 0 where
  pub above : up z ≤ dn z + B
  pub below : dn z ≤ up z + B

pub within_zero : {B : ℕ} → Within B (pos 0)
within_zero = record { above = omega (arith, value (# 0)); below = omega (arith, value (# 0)) }

pub within_more : {A : ℕ} {z : ℤ} (B : ℕ) → Within A z → A ≤ B → Within B z
within_more B w h = record { above = omega (arith, w.above); below = omega (arith, w.below) }

pub within_sum : {A B : ℕ} {a b : ℤ} → Within A a → Within B b → Within (A + B) (a +ℤ b)
within_sum {a = a} {b = b} p q =
    let v = value (‹ a › ⊕ ‹ b ›) in
    record { above = omega (arith, v, p.above, q.above); below = omega (arith, v, p.below, q.below) }

pub within_difference : {A B : ℕ} {a b : ℤ} → Within A a → Within B b → Within (A + B) (a -ℤ b)
within_difference {a = a} {b = b} p q =
    let v = value (‹ a › ⊖ ‹ b ›) in
    record { above = omega (arith, v, p.above, q.below); below = omega (arith, v, p.below, q.above) }

pub within_negation : {A : ℕ} {a : ℤ} → Within A a → Within A (neg_ℤ a)
within_negation {a = a} p =
    let v = value (⊝ ‹ a ›) in
    record { above = omega (arith, v, p.below); below = omega (arith, v, p.above) }
