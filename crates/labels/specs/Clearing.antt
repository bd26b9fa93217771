-- Columns of labels that are made fresh, as far as the loop has come.
use Rattle.std.specs.Prelude.{ℕ, ◌+◌, ◌<◌, ◌≤◌, ◌≡◌, refl, ◌≢◌, List, ℤ, pos, length, set}
use Rattle.std.proofs.Common.{◌∙◌, ⊎_elim, arith, length-set, get_or-set_same, get_or-set_other}
use Rattle.labels.specs.Relabel.{same_or_not}
use Rattle.labels.specs.Steps.{Fresh}
use Rattle.labels.specs.View.{view}

-- the first t terms are fresh
pub record Clearing (reps0 : List ℕ) (offs0 : List ℤ) (n t : ℕ) (reps : List ℕ) (offs : List ℤ) : Type 0 where
  pub within : t ≤ n
  pub long_reps : length reps ≡ length reps0
  pub long_offs : length offs ≡ length offs0
  pub fresh : Fresh t (view reps offs)

module _ (reps0 : List ℕ) (offs0 : List ℤ) (n : ℕ) where
  pub clearing_start : Clearing reps0 offs0 n 0 reps0 offs0
  clearing_start = record {
    within = omega arith;
    long_reps = refl;
    long_offs = refl;
    fresh = record { block = λ t h. absurd (omega arith); position = λ t h. absurd (omega arith) };
  }

  pub clearing_next : (t : ℕ) (reps : List ℕ) (offs : List ℤ) → Clearing reps0 offs0 n t reps offs → t < n → t < length reps → t < length offs → Clearing reps0 offs0 n (t + 1) (set reps t t) (set offs t (pos 0))
  clearing_next t reps offs C h hr ho = record {
    within = omega arith;
    long_reps = length-set reps t t ∙ C.long_reps;
    long_offs = length-set offs t (pos 0) ∙ C.long_offs;
    fresh = record {
      block = λ k b. ⊎_elim
          (λ (e : k ≡ t). rw e (get_or-set_same reps t t 0 hr))
          (λ (m : k ≢ t). get_or-set_other reps t k t 0 m ∙ C.fresh.block k (omega arith))
          (same_or_not k t);
      position = λ k b. ⊎_elim
          (λ (e : k ≡ t). rw e (get_or-set_same offs t (pos 0) (pos 0) ho))
          (λ (m : k ≢ t). get_or-set_other offs t k (pos 0) (pos 0) m ∙ C.fresh.position k (omega arith))
          (same_or_not k t);
    };
  }
