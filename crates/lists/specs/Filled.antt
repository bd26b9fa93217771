-- Lists of which a loop has written the first cells.
use Rattle.std.specs.Prelude.{ℕ, zero, suc, ◌+◌, ◌<◌, ◌≡◌, refl, ◌≢◌, ◌⊎◌, Bool, true, false, List, ◌∷◌, eqb, length, get_or, set, replicate}
use Rattle.std.proofs.Common.{sym, ◌∙◌, ap, inl, inr, ⊎_elim, arith, length-set, get_or-set_same, get_or-set_other, ext_get_or, eqb-true}
use Rattle.std.proofs.lemmas.Bool.{eqb-false}
use Rattle.lists.specs.Tabulate.{tabulate, length_tabulate, from_zero}

pub same_or_not : (a b : ℕ) → (a ≡ b) ⊎ (a ≢ b)
same_or_not a b = go (eqb a b) refl
  where
    go : (t : Bool) → eqb a b ≡ t → (a ≡ b) ⊎ (a ≢ b)
    go true e = inl (eqb-true a b e)
    go false e = inr (eqb-false a b e)

-- the first k cells hold the values of f
pub record Filled {A : Type 0} (f : ℕ → A) (d : A) (k size : ℕ) (l : List A) : Type 0 where
  pub long : length l ≡ size
  pub done : (j : ℕ) → j < k → get_or l j d ≡ f j

module _ {A : Type 0} (f : ℕ → A) (d : A) where
  pub filled_none : {size : ℕ} {l : List A} → length l ≡ size → Filled f d 0 size l
  filled_none e = record { long = e; done = λ j h. absurd (omega arith) }

  pub filled_more : {k size : ℕ} {l : List A} {v : A} → Filled f d k size l → k < size → v ≡ f k → Filled f d (k + 1) size (set l k v)
  filled_more {k} {size} {l} {v} F h e = record {
    long = length-set l k v ∙ F.long;
    done = λ j b. ⊎_elim
        (λ (s : j ≡ k). rw s (get_or-set_same l k v d (omega (arith, F.long)) ∙ e))
        (λ (m : j ≢ k). get_or-set_other l k j v d m ∙ F.done j (omega arith))
        (same_or_not j k);
  }

  -- all cells
  pub filled_all : {n : ℕ} {l : List A} → Filled f d n n l → l ≡ tabulate f 0 n
  filled_all {n} {l} F =
      ext_get_or d l (tabulate f 0 n) (F.long ∙ sym (length_tabulate f 0 n))
      (λ j h. let b : j < n = omega (arith, F.long) in F.done j b ∙ sym (from_zero f n j d b))

-- all with one value
pub tabulate_value : {A : Type 0} (v : A) (k n : ℕ) → tabulate (λ _. v) k n ≡ replicate n v
unfolding tabulate
tabulate_value v k zero = refl
tabulate_value v k (suc n) = ap (λ l. v ∷ l) (tabulate_value v (suc k) n)
