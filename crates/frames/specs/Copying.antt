-- The counted rows of three tables in front of three others.
use Rattle.std.specs.Prelude.{ℕ, ◌+◌, ◌<◌, ◌≤◌, ◌≡◌, refl, List, length, take, get_or, set}
use Rattle.std.proofs.Common.{◌∙◌, arith, length-set}
use Rattle.lists.specs.Overwrite.{overwrite}
use Rattle.lists.proofs.Overwrite.{overwrite_copied}
use Rattle.types.specs.declared.Counts.{Counts}
use Rattle.frames.specs.Rows.{Rows, rows}

-- the first k of n cells are copied
pub record Copying {A : Type 0} (from old new : List A) (n k : ℕ) : Type 0 where
  pub below : k ≤ n
  pub cells : new ≡ overwrite (take k from) old
  pub long : length new ≡ length old

module _ {A : Type 0} (from old : List A) (n : ℕ) where
  pub copying_none : Copying from old old n 0
  copying_none = record { below = omega arith; cells = refl; long = refl }

  pub copying_more : (new : List A) (k : ℕ) (d : A) → n ≤ length from → n ≤ length old → k < n → Copying from old new n k → Copying from old (set new k (get_or from k d)) n (k + 1)
  copying_more new k d f g h c = record {
    below = omega arith;
    cells = rw c.cells (overwrite_copied from old d k (omega arith) (omega arith));
    long = length-set new k (get_or from k d) ∙ c.long;
  }

  pub copying_all : (new : List A) (k : ℕ) → n ≤ k → Copying from old new n k → new ≡ overwrite (take n from) old
  copying_all new k h c = let e : n ≡ k = omega (arith, c.below) in rw e c.cells

-- each table has as many rows as are counted
pub record RoomFor (c : Counts) (C : Rows) : Type 0 where
  pub terms : c.terms ≤ length C.terms
  pub propositions : c.propositions ≤ length C.propositions
  pub questions : c.questions ≤ length C.questions

unfoldable pub copied : Counts → Rows → Rows → Rows
copied c own C = rows
    (overwrite (take c.terms own.terms) C.terms)
    (overwrite (take c.propositions own.propositions) C.propositions)
    (overwrite (take c.questions own.questions) C.questions)

pub copied_each : (c : Counts) (own C D : Rows)
    → D.terms ≡ overwrite (take c.terms own.terms) C.terms
    → D.propositions ≡ overwrite (take c.propositions own.propositions) C.propositions
    → D.questions ≡ overwrite (take c.questions own.questions) C.questions
    → D ≡ copied c own C
unfolding copied
copied_each c own C D t p q = rw (← t, ← p, ← q)
