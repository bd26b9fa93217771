-- The largest distance between two terms of one class of a satisfiable set, for any bound on the offsets.
use Rattle.std.specs.Prelude.{ℕ, zero, suc, ◌*◌, ◌^◌, ◌<◌, ◌≤◌, ◌≡◌, refl, false, List, ℤ, length}
use Rattle.std.proofs.Common.{arith, mul-le-mul_right, lit<}
use Rattle.rules.specs.Terms.{Term, Given, WellFormed}
use Rattle.rules.specs.Rules.{Equal}
use Rattle.rules.proofs.Soundness.{equal_holds}
use Rattle.integers.specs.Within.{Within}
use Rattle.labels.specs.Spread.{Spread, spread_bound}
use Rattle.labels.specs.Steps.{Bounded}
use Rattle.closure.specs.Facts.{Facts, Lists}
use Rattle.closure.specs.Join.{placed}
use Rattle.closure.proofs.Join.{own_spread, join_spread}
use Rattle.closure.specs.Closure.{closure}
use Rattle.closure.proofs.Closure.{closure_keeps}
use Rattle.closure.specs.Verdict.{contradictory}
use Rattle.closure.proofs.Verdict.{closure_canonical}

pub wider : {B C : ℕ} {z : ℤ} → B ≤ C → Within B z → Within C z
wider h w = record { above = omega (arith, w.above); below = omega (arith, w.below) }

module _ (ts : List Term) (G : Given) (wf : WellFormed ts G) (F : Facts) (ls : Lists F G) where
  pub closure_spread : (W : ℕ) → Bounded W G → Spread W (length ts) (placed (closure ts F))
  closure_spread W B =
      (closure_keeps ts G wf F ls (λ l. Spread W (length ts) (placed l)) (λ l n S near a z b s. join_spread ts G wf l n s S W B near) (own_spread ts G wf W)).holds

  -- with n + 1 terms and offsets within W, equal terms are at most n × W apart
  pub largest_distance : (W n : ℕ) → Bounded W G → length ts ≤ suc n → contradictory ts F ≡ false → {t1 t2 : ℕ} {z : ℤ} → t1 < length ts → t2 < length ts → Equal ts G t1 z t2 → Within (n * W) z
  largest_distance W n B l e {t1} {t2} {z} h1 h2 d = go (length ts) refl
    where
      go : (k : ℕ) → length ts ≡ k → Within (n * W) z
      go zero eq = absurd (omega arith)
      go (suc k) eq =
          let P = placed (closure ts F) in
          let h = equal_holds ts G P (closure_canonical ts G wf F ls e).respects d in
          wider (mul-le-mul_right W (omega arith))
          (spread_bound W k P (rw eq at (closure_spread W B)) (omega arith) (omega arith) h.same_block h.at_offset)

  -- paper 01's instance: 512 terms and signed 32-bit offsets
  pub largest_distance_01 : Bounded (2 ^ 31) G → length ts ≤ 512 → contradictory ts F ≡ false → {t1 t2 : ℕ} {z : ℤ} → t1 < length ts → t2 < length ts → Equal ts G t1 z t2 → Within 1097364144128 z
  largest_distance_01 B l e h1 h2 d = largest_distance (2 ^ 31) 511 B l e h1 h2 d

-- it fits a signed 64-bit number
pub fits_64 : 1097364144128 < 2 ^ 63
fits_64 = lit< tt
