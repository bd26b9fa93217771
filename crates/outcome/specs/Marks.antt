-- Blame marks as they are left in cells: 1 for a blamed proposition, 0 for another.
use Prim.Native.Nat.{ℕ, zero, suc, ◌<◌}
use Rattle.std.specs.Prelude.{◌≡◌, Bool, true, false, eqb, length, get_or, set, drop}
use Rattle.std.proofs.Math.Path.{refl, ap}
use mathlib.Core.List.{List, [], ◌∷◌, ◌++◌, map}
use Rattle.std.proofs.Common.{arith}
use Rattle.std.proofs.Math.ListN.{take}
use Rattle.lists.specs.Tabulate.{select}
use Rattle.outcome.specs.PairBits.{bit_value}

module _ {A : Type 0} where
  -- the items whose mark is 1
  unfoldable pub marked : List ℕ → List A → List A
  marked marks l = select (map (eqb 1) marks) l

  -- the items that are kept when item k is tried, without it: all before it, and those after it that are marked
  unfoldable pub tried : ℕ → List ℕ → List A → List A
  tried k marks l = take k l ++ marked (drop (suc k) marks) (drop (suc k) l)

  marked_nothing : (marks : List ℕ) → marked marks [] ≡ []
  unfolding marked select
  marked_nothing [] = refl
  marked_nothing (m ∷ marks) = refl

  -- marks that are written in front of other cells, from number k on
  marked_from : (k : ℕ) (bs : List Bool) (rest : List ℕ) (l : List A) → length bs ≡ length l → marked (drop k (map bit_value bs ++ rest)) (drop k l) ≡ select (drop k bs) (drop k l)
  unfolding marked select
  marked_from zero [] rest [] e = marked_nothing rest
  marked_from zero [] rest (x ∷ l) e = absurd (omega arith)
  marked_from zero (b ∷ bs) rest [] e = absurd (omega arith)
  marked_from zero (true ∷ bs) rest (x ∷ l) e = ap (λ r. x ∷ r) (marked_from zero bs rest l (omega arith))
  marked_from zero (false ∷ bs) rest (x ∷ l) e = marked_from zero bs rest l (omega arith)
  marked_from (suc k) [] rest [] e = marked_nothing (drop (suc k) rest)
  marked_from (suc k) [] rest (x ∷ l) e = absurd (omega arith)
  marked_from (suc k) (b ∷ bs) rest [] e = absurd (omega arith)
  marked_from (suc k) (b ∷ bs) rest (x ∷ l) e = marked_from k bs rest l (omega arith)

  module _ (bs : List Bool) (rest : List ℕ) (l : List A) (e : length bs ≡ length l) where
    pub marked_all : marked (map bit_value bs ++ rest) l ≡ select bs l
    marked_all = marked_from zero bs rest l e

    pub tried_select : (k : ℕ) → tried k (map bit_value bs ++ rest) l ≡ take k l ++ select (drop (suc k) bs) (drop (suc k) l)
    unfolding tried
    tried_select k = ap (λ r. take k l ++ r) (marked_from (suc k) bs rest l e)

  -- and with one mark taken away
  pub marked_without : (bs : List Bool) (rest : List ℕ) (l : List A) (k : ℕ) → length bs ≡ length l → k < length l → marked (set (map bit_value bs ++ rest) k 0) l ≡ select (set bs k false) l
  unfolding marked select
  marked_without [] rest [] k e h = absurd (omega arith)
  marked_without [] rest (x ∷ l) k e h = absurd (omega arith)
  marked_without (b ∷ bs) rest [] k e h = absurd (omega arith)
  marked_without (b ∷ bs) rest (x ∷ l) zero e h = marked_from zero bs rest l (omega arith)
  marked_without (true ∷ bs) rest (x ∷ l) (suc k) e h = ap (λ r. x ∷ r) (marked_without bs rest l k (omega arith) (omega arith))
  marked_without (false ∷ bs) rest (x ∷ l) (suc k) e h = marked_without bs rest l k (omega arith) (omega arith)

-- the mark of number k
pub mark_at : (bs : List Bool) (rest : List ℕ) (k : ℕ) → k < length bs → get_or (map bit_value bs ++ rest) k 0 ≡ bit_value (get_or bs k false)
mark_at [] rest k h = absurd (omega arith)
mark_at (b ∷ bs) rest zero h = refl
mark_at (b ∷ bs) rest (suc k) h = mark_at bs rest k (omega arith)
