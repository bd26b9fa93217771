-- Cells that are all written with one value.
use Rattle.std.specs.Prelude.{ℕ, ◌≤◌, ◌≡◌, List, length, replicate}
use Rattle.std.proofs.Common.{◌∙◌, ap, arith}
use Rattle.std.proofs.lemmas.List.{length-replicate}
use Rattle.lists.specs.Filled.{Filled, filled_all, tabulate_value}

-- the whole list, at the end
pub filled_with : (v k : ℕ) {n : ℕ} {l : List ℕ} → n ≤ k → Filled (λ _. v) 0 k n l → l ≡ replicate n v
filled_with v k {n} h F = filled_all (λ _. v) 0 (record { long = F.long; done = λ j b. F.done j (omega arith) }) ∙ tabulate_value v 0 n

-- by another count of the cells
pub filled_as : (v : ℕ) {l : List ℕ} {k n : ℕ} → l ≡ replicate k v → k ≡ n → l ≡ replicate n v
filled_as v e h = e ∙ ap (λ (m : ℕ). replicate m v) h

pub filled_count : (v : ℕ) {l : List ℕ} {k n : ℕ} → l ≡ replicate k v → k ≡ n → length l ≡ n
filled_count v {k = k} e h = ap (λ (m : List ℕ). length m) e ∙ (length-replicate k v ∙ h)
