-- A run of propositions that can be dropped at once is dropped one by one too.
use Prim.Native.Nat.{ℕ, zero, suc, ◌+◌, ◌<◌, ◌≤◌}
use Rattle.std.specs.Prelude.{◌≡◌, refl, Bool, ltb, get_or}
use Rattle.std.proofs.Common.{sym, ◌∙◌, ltb-true, ltb-false}
use Rattle.std.proofs.Math.Path.{ap}
use Rattle.std.proofs.Math.Bool.{true, false}
use mathlib.Core.List.{List}
use native.Mathlib.Omega.{arith}
use Rattle.std.proofs.Math.ListN.{length, set, length-set}
use Rattle.lists.specs.Search.{choose}
use Rattle.rules.specs.Terms.{Term, Proposition, listed, WellFormed}
use Rattle.outcome.specs.Blame.{kept_contradictory, drop_below}
use Rattle.outcome.proofs.BlameMinimal.{Below, kept_more}
use Rattle.blame.specs.Runs.{set_run, run_below, run_inside, run_above, run_none, run_one, run_both}

-- without a run there are fewer
run_fewer : (l : List Bool) (from to : ℕ) → from ≤ to → to ≤ length l → Below (set_run l from to false) l
run_fewer l from to o w k m = go (ltb k from) refl (ltb k to) refl
  where
    go : (a : Bool) → ltb k from ≡ a → (b : Bool) → ltb k to ≡ b → get_or l k false ≡ true
    go true e b f = sym (run_below l from to false o w k false (ltb-true k from e)) ∙ m
    go false e true f =
        let h = ltb-false k from e in
        let n : false ≡ true = sym (run_inside l from to false o w k false (omega arith) (ltb-true k to f)) ∙ m in
        let z : ◌≡◌ {A = ℕ} 0 1 = cc in
        absurd (omega arith)
    go false e false f = let h = ltb-false k to f in sym (run_above l from to false o w k false (omega arith)) ∙ m

-- one proposition that can't be dropped
pub drop_none :
    (ts : List Term) (ps : List Proposition) (kept : List Bool) (k : ℕ) →
    kept_contradictory ts ps (set kept k false) ≡ false →
    drop_below ts ps (suc k) kept ≡ drop_below ts ps k kept
unfolding drop_below
drop_none ts ps kept k e = ap (λ (b : Bool). drop_below ts ps k (choose b (set kept k false) kept)) e

module _ (ts : List Term) (ps : List Proposition) (wf : WellFormed ts (listed ts ps)) where
  -- a run that can be dropped, or is empty
  pub drop_run :
      (from n : ℕ) (kept : List Bool) →
      from + n ≤ length kept →
      (0 < n → kept_contradictory ts ps (set_run kept from (from + n) false) ≡ true) →
      drop_below ts ps (from + n) kept ≡ drop_below ts ps from (set_run kept from (from + n) false)
  unfolding drop_below
  drop_run from zero kept w c =
      let e : from + 0 ≡ from = omega arith in
      rw e (ap (λ (l : List Bool). drop_below ts ps from l) (run_none false kept false from (omega arith)))
  drop_run from (suc n) kept w c =
      let k = from + n in
      let e : from + suc n ≡ suc k = omega arith in
      let less = set kept k false in
      let long : k ≤ length less = omega (arith, length-set kept k false) in
      let joined : set_run less from k false ≡ set_run kept from (suc k) false =
      rw (run_one false kept false k (omega arith)) (run_both false kept false from k (suc k) (omega arith) (omega arith) (omega arith)) in
      let all : kept_contradictory ts ps (set_run less from k false) ≡ true = rw joined (rw e at (c (omega arith))) in
      let one : kept_contradictory ts ps less ≡ true = kept_more ts ps wf (set_run less from k false) less (run_fewer less from k (omega arith) long) all in
      rw e
      (ap (λ (b : Bool). drop_below ts ps k (choose b less kept)) one
      ∙ (drop_run from n less long (λ _. all)
      ∙ ap (λ (l : List Bool). drop_below ts ps from l) joined))
