-- The blamed propositions are contradictory, and without any one of them they are not.
use Prim.Native.Nat.{ℕ, zero, suc, ◌<◌}
use Rattle.std.specs.Prelude.{◌≡◌, ◌≢◌, ◌↔◌, Bool, true, false, List, [], ◌∷◌, length, get_or, set, replicate}
use Rattle.std.proofs.Math.Path.{refl}
use Rattle.std.proofs.Common.{sym, ◌∙◌, ap, inl, inr, arith, get_or-set_other}
use Rattle.std.proofs.Math.Logic.{⊎_elim}
use Rattle.lists.specs.Items.{In}
use Rattle.lists.specs.Search.{choose}
use Rattle.lists.specs.Tabulate.{select, in_select, select_in}
use Rattle.rules.specs.Terms.{Term, Proposition, listed, WellFormed}
use Rattle.rules.specs.Rules.{Contradiction}
use Rattle.rules.specs.Monotone.{Sub, contradiction_more, well_formed_less}
use Rattle.labels.specs.Relabel.{same_or_not}
use Rattle.closure.specs.Facts.{facts, lists}
use Rattle.closure.specs.Verdict.{contradictory}
use Rattle.closure.proofs.Verdict.{contradiction_exact}
use Rattle.outcome.specs.Blame.{kept_contradictory, drop_below, blame}

-- each mark of a is one of b
abbrev pub Below : List Bool → List Bool → Type 0
Below a b = (k : ℕ) → get_or a k false ≡ true → get_or b k false ≡ true

pub unmarked : (l : List Bool) (k : ℕ) → get_or (set l k false) k false ≡ false
unmarked [] k = refl
unmarked (b ∷ l) zero = refl
unmarked (b ∷ l) (suc k) = unmarked l k

not_marked : {A : Type 0} (b : Bool) → b ≡ true → b ≡ false → A
not_marked b t f = let z : ◌≡◌ {A = ℕ} 0 1 = cc in absurd (omega arith)

without : (l : List Bool) (k : ℕ) → Below (set l k false) l
without l k i e =
    ⊎_elim
    (λ (s : i ≡ k). not_marked (get_or (set l k false) k false) (rw s at e) (unmarked l k))
    (λ (m : i ≢ k). sym (get_or-set_other l k i false false m) ∙ e)
    (same_or_not i k)

both_without : (a b : List Bool) (k : ℕ) → Below a b → Below (set a k false) (set b k false)
both_without a b k h i e =
    ⊎_elim
    (λ (s : i ≡ k). not_marked (get_or (set a k false) k false) (rw s at e) (unmarked a k))
    (λ (m : i ≢ k). get_or-set_other b k i false false m ∙ h i (sym (get_or-set_other a k i false false m) ∙ e))
    (same_or_not i k)

pub select_all : {A : Type 0} (l : List A) → select (replicate (length l) true) l ≡ l
unfolding select
select_all [] = refl
select_all (x ∷ l) = ap (λ m. x ∷ m) (select_all l)

module _ (ts : List Term) (ps : List Proposition) (wf : WellFormed ts (listed ts ps)) where
  fewer : (a b : List Bool) → Below a b → Sub (listed ts (select a ps)) (listed ts (select b ps))
  fewer a b h = record { equal = λ i. more i; unequal = λ i. more i; apart = λ g. ⊎_elim (λ i. inl (more i)) inr g }
    where
      more : {p : Proposition} → In p (select a ps) → In p (select b ps)
      more i = let r = select_in a ps i in in_select b ps r.0 r.1 (h r.0 r.2)

  pub some_of : (a : List Bool) → Sub (listed ts (select a ps)) (listed ts ps)
  some_of a = record { equal = λ i. of i; unequal = λ i. of i; apart = λ g. ⊎_elim (λ i. inl (of i)) inr g }
    where
      of : {p : Proposition} → In p (select a ps) → In p ps
      of i = let r = select_in a ps i in (r.0, r.1)

  pub kept_exact : (a : List Bool) → kept_contradictory ts ps a ≡ true ↔ Contradiction ts (listed ts (select a ps))
  unfolding kept_contradictory
  kept_exact a =
      contradiction_exact ts (listed ts (select a ps)) (well_formed_less ts (listed ts (select a ps)) (listed ts ps) (some_of a) wf)
      (facts ts (select a ps))
      (lists ts (select a ps))

  pub kept_more : (a b : List Bool) → Below a b → kept_contradictory ts ps a ≡ true → kept_contradictory ts ps b ≡ true
  kept_more a b h e =
      (kept_exact b).1 (contradiction_more ts (listed ts (select a ps)) (listed ts (select b ps)) (fewer a b h) ((kept_exact a).0 e))

  abbrev pub dropped : ℕ → List Bool → Bool → List Bool
  dropped k kept t = choose t (set kept k false) kept

  dropped_below : (k : ℕ) (kept : List Bool) (t : Bool) → Below (dropped k kept t) kept
  dropped_below k kept true = without kept k
  dropped_below k kept false = λ i e. e

  drop_below_lem : (k : ℕ) (kept : List Bool) → Below (drop_below ts ps k kept) kept
  unfolding drop_below
  drop_below_lem zero kept i e = e
  drop_below_lem (suc k) kept i e =
      let t = kept_contradictory ts ps (set kept k false) in
      dropped_below k kept t i (drop_below_lem k (dropped k kept t) i e)

  stays : (k : ℕ) (kept : List Bool) (t : Bool) → kept_contradictory ts ps (set kept k false) ≡ t → kept_contradictory ts ps kept ≡ true → kept_contradictory ts ps (dropped k kept t) ≡ true
  stays k kept true e h = e
  stays k kept false e h = h

  drop_contradictory : (k : ℕ) (kept : List Bool) → kept_contradictory ts ps kept ≡ true → kept_contradictory ts ps (drop_below ts ps k kept) ≡ true
  unfolding drop_below
  drop_contradictory zero kept h = h
  drop_contradictory (suc k) kept h =
      let t = kept_contradictory ts ps (set kept k false) in
      drop_contradictory k (dropped k kept t) (stays k kept t refl h)

  -- the proposition that was tried at k and kept
  tried :
      (k : ℕ) (kept last : List Bool) (t : Bool) →
      kept_contradictory ts ps (set kept k false) ≡ t →
      Below last (dropped k kept t) →
      get_or last k false ≡ true →
      kept_contradictory ts ps (set last k false) ≡ false
  tried k kept last true e h m = not_marked (get_or (set kept k false) k false) (h k m) (unmarked kept k)
  tried k kept last false e h m = go (kept_contradictory ts ps (set last k false)) refl
    where
      go : (b : Bool) → kept_contradictory ts ps (set last k false) ≡ b → b ≡ false
      go true c = not_marked (kept_contradictory ts ps (set kept k false)) (kept_more (set last k false) (set kept k false) (both_without last kept k h) c) e
      go false c = refl

  drop_minimal : (k : ℕ) (kept : List Bool) (j : ℕ) → j < k → get_or (drop_below ts ps k kept) j false ≡ true → kept_contradictory ts ps (set (drop_below ts ps k kept) j false) ≡ false
  unfolding drop_below
  drop_minimal zero kept j h m = absurd (omega arith)
  drop_minimal (suc k) kept j h m =
      let t = kept_contradictory ts ps (set kept k false) in
      ⊎_elim
      (λ (s : j ≡ k). rw s (tried k kept (drop_below ts ps k (dropped k kept t)) t refl (drop_below_lem k (dropped k kept t)) (rw s at m)))
      (λ (n : j ≢ k). drop_minimal k (dropped k kept t) j (omega arith) m)
      (same_or_not j k)

  all_kept : contradictory ts (facts ts ps) ≡ true → kept_contradictory ts ps (replicate (length ps) true) ≡ true
  unfolding kept_contradictory
  all_kept e = rw (select_all ps) e

  -- the blamed propositions of a contradictory set are contradictory
  pub blame_contradictory : contradictory ts (facts ts ps) ≡ true → Contradiction ts (listed ts (select (blame ts ps) ps))
  unfolding blame
  blame_contradictory e =
      (kept_exact (drop_below ts ps (length ps) (replicate (length ps) true))).0
      (drop_contradictory (length ps) (replicate (length ps) true) (all_kept e))

  -- and without any one of them they are not
  pub blame_less : (j : ℕ) → j < length ps → get_or (blame ts ps) j false ≡ true → kept_contradictory ts ps (set (blame ts ps) j false) ≡ false
  unfolding blame
  blame_less j h m = drop_minimal (length ps) (replicate (length ps) true) j h m

  pub blame_minimal : (j : ℕ) → j < length ps → get_or (blame ts ps) j false ≡ true → Contradiction ts (listed ts (select (set (blame ts ps) j false) ps)) → ⊥
  blame_minimal j h m c = not_marked _ ((kept_exact (set (blame ts ps) j false)).1 c) (blame_less j h m)
