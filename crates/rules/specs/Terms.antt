-- Terms, propositions and questions, and what a set of them gives to the rules.
use Rattle.std.specs.Prelude.{ℕ, ◌<◌, ◌≢◌, ◌⊎◌, List, ℤ, length}
use Rattle.lists.specs.Items.{Item, In}

-- A term: the address of a variable, an auxiliary, or the dereference *(z + t) of a term t listed earlier.
-- Variables and auxiliaries are numbered separately. Terms are named by their numbers in the list of terms.
pub data Term : Type 0 where
  variable : ℕ → Term
  auxiliary : ℕ → Term
  deref : ℤ → ℕ → Term

-- A proposition: t1 = z + t2, t1 ≠ z + t2 or bl(t1) ≠ bl(t2).
pub data Proposition : Type 0 where
  equality : ℕ → ℤ → ℕ → Proposition
  disequality : ℕ → ℤ → ℕ → Proposition
  block_disequality : ℕ → ℕ → Proposition

-- `left` against `offset` + `right`: what a question asks about, and the two sides of an equality or a disequality
pub record Comparison : Type 0 where
  pub left : ℕ
  pub offset : ℤ
  pub right : ℕ

-- The facts that a set gives to the rules: t1 = z + t2, t1 ≠ z + t2, and blocks that are apart.
-- The rules, the closure and the assignments are over any such facts.
pub record Given : Type 1 where
  pub equal : ℕ → ℤ → ℕ → Type 0
  pub unequal : ℕ → ℤ → ℕ → Type 0
  pub apart : ℕ → ℕ → Type 0

-- t1 and t2 are the addresses of two distinct variables
abbrev pub DistinctVariables : List Term → ℕ → ℕ → Type 0
DistinctVariables ts t1 t2 = (x : ℕ) × (y : ℕ) × Item ts t1 (variable x) × Item ts t2 (variable y) × (x ≢ y)

-- the facts that paper 01 takes from a set: the listed propositions, and that distinct variables have distinct blocks
abbrev pub listed : List Term → List Proposition → Given
listed ts ps = record {
  equal = λ t1 z t2. In (equality t1 z t2) ps;
  unequal = λ t1 z t2. In (disequality t1 z t2) ps;
  apart = λ t1 t2. In (block_disequality t1 t2) ps ⊎ DistinctVariables ts t1 t2;
}

-- A dereference names a term listed before it, and the given facts name listed terms.
pub record WellFormed (ts : List Term) (G : Given) : Type 0 where
  pub earlier : {d t : ℕ} {z : ℤ} → Item ts d (deref z t) → t < d
  pub equal_listed : {t1 t2 : ℕ} {z : ℤ} → G.equal t1 z t2 → (t1 < length ts) × (t2 < length ts)
  pub unequal_listed : {t1 t2 : ℕ} {z : ℤ} → G.unequal t1 z t2 → (t1 < length ts) × (t2 < length ts)
  pub apart_listed : {t1 t2 : ℕ} → G.apart t1 t2 → (t1 < length ts) × (t2 < length ts)
