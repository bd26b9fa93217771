-- A run leaves a representative and an offset for each term, a mark for each proposition, a bit for each pair of terms, an answer for
-- each question.
use Prim.Native.Nat.{ℕ, zero, suc}
use Rattle.std.specs.Prelude.{◌≡◌, Bool, List, set, replicate}
use Rattle.std.proofs.Math.Path.{refl}
use Rattle.std.proofs.Common.{◌∙◌, ap}
use Rattle.std.proofs.Math.Bool.{true, false}
use Rattle.std.proofs.Math.ListN.{length, length-replicate, length-set}
use Rattle.std.proofs.lemmas.List.{length-map}
use Rattle.lists.specs.Search.{choose}
use Rattle.lists.specs.Tabulate.{length_tabulate}
use Rattle.rules.specs.Terms.{Term, Proposition, Comparison}
use Rattle.types.specs.declared.Blame.{Blame}
use Rattle.types.specs.declared.Blame.TheVariants.{Asked, NotAsked}
use Rattle.types.specs.Numbers.{number_of_answer}
use Rattle.closure.specs.Facts.{Facts, facts}
use Rattle.closure.specs.Join.{Label, placed, own}
use Rattle.closure.proofs.Join.{length_own}
use Rattle.closure.specs.Closure.{closure}
use Rattle.closure.proofs.Closure.{length_closure}
use Rattle.closure.specs.Verdict.{contradictory}
use Rattle.outcome.specs.Blame.{kept_contradictory, drop_below, blame}
use Rattle.outcome.specs.PairBits.{bit_value, pair_bytes, pair_bits}
use Rattle.outcome.specs.Outcome.{Outcome, answer, satisfiable, contradiction, outcome, marks_if}

pub record Lengths (ts : List Term) (ps : List Proposition) (qs : List Comparison) (o : Outcome) : Type 0 where
  pub representatives : length o.representatives ≡ length ts
  pub offsets : length o.offsets ≡ length ts
  pub marks : length o.marks ≡ length ps
  pub pairs : length o.pairs ≡ pair_bytes (length ts)
  pub answers : length o.answers ≡ length qs

module _ (ts : List Term) (ps : List Proposition) where
  length_drop_below : (k : ℕ) (kept : List Bool) → length (drop_below ts ps k kept) ≡ length kept
  unfolding drop_below
  length_drop_below zero kept = refl
  length_drop_below (suc k) kept = length_drop_below k _ ∙ go (kept_contradictory ts ps (set kept k false))
    where
      go : (b : Bool) → length (choose b (set kept k false) kept) ≡ length kept
      go true = length-set kept k false
      go false = refl

  pub length_blame : length (blame ts ps) ≡ length ps
  unfolding blame
  length_blame = length_drop_below (length ps) (replicate (length ps) true) ∙ length-replicate (length ps) true

  pub outcome_lengths : (qs : List Comparison) → Lengths ts ps qs (outcome ts ps qs)
  unfolding outcome satisfiable contradiction pair_bits
  outcome_lengths qs = go (contradictory ts (facts ts ps))
    where
      F : Facts
      F = facts ts ps

      go : (b : Bool) → Lengths ts ps qs (choose b (contradiction ts ps qs) (satisfiable ts ps qs))
      go true = record {
        representatives = length-map (own 0 (length ts)) (λ (x : Label). x.rep) ∙ length_own 0 (length ts);
        offsets = length-map (own 0 (length ts)) (λ (x : Label). x.off) ∙ length_own 0 (length ts);
        marks = length-map (blame ts ps) bit_value ∙ length_blame;
        pairs = length-replicate (pair_bytes (length ts)) 0;
        answers = length-replicate (length qs) 3;
      }
      go false = record {
        representatives = length-map (closure ts F) (λ (x : Label). x.rep) ∙ length_closure ts F;
        offsets = length-map (closure ts F) (λ (x : Label). x.off) ∙ length_closure ts F;
        marks = length-replicate (length ps) 0;
        pairs = length_tabulate _ 0 (pair_bytes (length ts));
        answers = length-map qs (λ (q : Comparison). number_of_answer (answer ts F (placed (closure ts F)) q));
      }

-- and a mark for each proposition with blame and without
pub length_marks : (b : Blame) (marks : List ℕ) → length (marks_if b marks) ≡ length marks
length_marks Asked marks = refl
length_marks NotAsked marks = length-replicate (length marks) 0

-- marks that are all 0 stay so
pub marks_of_zeros : (b : Blame) (n : ℕ) → marks_if b (replicate n 0) ≡ replicate n 0
marks_of_zeros Asked n = refl
marks_of_zeros NotAsked n = ap (λ (k : ℕ). replicate k 0) (length-replicate n 0)
