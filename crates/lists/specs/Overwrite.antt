-- A list whose first cells are written.
use Rattle.std.specs.Prelude.{ℕ, ◌≡◌, List, ◌++◌, length, drop}

-- the first cells written, the others as they were
abbrev pub overwrite {ℓ} : {A : Type ℓ} → List A → List A → List A
overwrite new old = new ++ drop (length new) old

-- a list of the same length, with the same cells from number n on
abbrev pub Keeps {ℓ} : {A : Type ℓ} → ℕ → List A → List A → Type ℓ
Keeps n old new = (length new ≡ length old) × (drop n new ≡ drop n old)
