-- The largest distance (Distance) is reached, by a chain of auxiliaries.
use Rattle.std.specs.Prelude.{ℕ, zero, suc, ◌+◌, ◌*◌, ◌^◌, ◌<◌, ◌≤◌, ◌≡◌, refl, List, ℤ, pos, neg_ℤ, ◌+ℤ◌}
use Rattle.std.proofs.Common.{sym, ◌∙◌, ap, ⊎_elim, arith}
use Rattle.integers.specs.Linear.{linear, value, #◌, ◌⊕◌, ⊝◌}
use Rattle.lists.specs.Items.{Item, In, item_below, item_get_d, get_d_item}
use Rattle.lists.specs.Tabulate.{tabulate, length_tabulate, tabulate_at}
use Rattle.rules.specs.Terms.{Term, variable, auxiliary, deref, Proposition, equality, block_disequality, DistinctVariables, listed}
use Rattle.rules.specs.Rules.{Equal, E0, E1, E3}
use Rattle.rules.specs.Assignments.{Placement, Holds, Assignment}

-- the auxiliaries 0 to n
abbrev pub chain_terms : ℕ → List Term
chain_terms n = tabulate auxiliary 0 (suc n)

-- term k = −W + term (k + 1)
abbrev pub chain_link : ℕ → ℕ → Proposition
chain_link W k = equality k (neg_ℤ (pos W)) (suc k)

abbrev pub chain_propositions : ℕ → ℕ → List Proposition
chain_propositions n W = tabulate (chain_link W) 0 n

module _ {A : Type 0} (f : ℕ → A) where
  value_at : (n k : ℕ) → k < n → Item (tabulate f 0 n) k (f k)
  value_at n k h =
      let s : 0 + k ≡ k = omega arith in
      let i = get_d_item (tabulate f 0 n) k (f k) (omega (arith, length_tabulate f 0 n)) in
      rw (tabulate_at f 0 n k (f k) h, s) at i

  at_value : (n k : ℕ) {x : A} → Item (tabulate f 0 n) k x → x ≡ f k
  at_value n k {x} i =
      let s : 0 + k ≡ k = omega arith in
      let h : k < n = omega (arith, item_below (tabulate f 0 n) k i, length_tabulate f 0 n) in
      sym (item_get_d (tabulate f 0 n) k x i) ∙ tabulate_at f 0 n k x h ∙ ap f s

module _ (n W : ℕ) where
  part_distance : (k : ℕ) → k ≤ n → Equal (chain_terms n) (listed (chain_terms n) (chain_propositions n W)) 0 (neg_ℤ (pos (k * W))) k
  part_distance zero h = let e : 0 * W ≡ 0 = omega arith in rw e (E1 {t = 0} (omega (arith, length_tabulate auxiliary 0 (suc n))))
  part_distance (suc k) h =
      let e : neg_ℤ (pos (k * W)) +ℤ neg_ℤ (pos W) ≡ neg_ℤ (pos (suc k * W)) = omega (linear, value (⊝ # (k * W) ⊕ ⊝ # W), value (⊝ # (suc k * W))) in
      rw e at (E3 (part_distance k (omega arith)) (E0 (k, value_at (chain_link W) n k (omega arith))))

  -- the ends of the chain are n × W apart
  pub chain_distance : Equal (chain_terms n) (listed (chain_terms n) (chain_propositions n W)) 0 (neg_ℤ (pos (n * W))) n
  chain_distance = part_distance n (omega arith)

  -- one block, term k at k × W
  abbrev along : Placement
  along = record { block = λ t. 0; position = λ t. pos (t * W) }

  no_deref : (k : ℕ) {t : ℕ} {z : ℤ} → Item (chain_terms n) k (deref z t) → ⊥
  no_deref k i = let e = at_value auxiliary (suc n) k i in let z : ◌≡◌ {A = ℕ} 0 1 = cc in omega arith

  no_variable : (k : ℕ) {x : ℕ} → Item (chain_terms n) k (variable x) → ⊥
  no_variable k i = let e = at_value auxiliary (suc n) k i in let z : ◌≡◌ {A = ℕ} 0 1 = cc in omega arith

  link_holds : (k : ℕ) {t1 t2 : ℕ} {z : ℤ} → Item (chain_propositions n W) k (equality t1 z t2) → Holds along t1 z t2
  link_holds k {t1} {t2} {z} i =
      let e = at_value (chain_link W) n k i in
      let e1 : t1 ≡ k = cc in
      let e2 : t2 ≡ suc k = cc in
      let ez : z ≡ neg_ℤ (pos W) = cc in
      rw (e1, e2, ez) (record { same_block = refl; at_offset = omega (linear, value (# (k * W)), value (⊝ # W ⊕ # (suc k * W))) })

  -- and the chain has an assignment
  pub chain_assignment : (P : Placement) × Assignment (chain_terms n) (listed (chain_terms n) (chain_propositions n W)) P
  chain_assignment = (
    along,
    record {
      respects = record {
        equal = λ i. link_holds i.0 i.1;
        congruent = λ {t1} {t2} {d1} i j b e. absurd (no_deref d1 i);
      };
      unequal = λ i. let e = at_value (chain_link W) n i.0 i.1 in let z : ◌≡◌ {A = ℕ} 0 1 = cc in absurd (omega arith);
      apart = λ {t1} {t2} g. ⊎_elim
          (λ (i : In (block_disequality t1 t2) (chain_propositions n W)). let e = at_value (chain_link W) n i.0 i.1 in let z : ◌≡◌ {A = ℕ} 0 1 = cc in absurd (omega arith))
          (λ (v : DistinctVariables (chain_terms n) t1 t2). absurd (no_variable t1 v.2))
          g;
    },
  )

-- paper 01's instance: 512 terms and the lowest signed 32-bit offset
pub distance_reached_01 : Equal (chain_terms 511) (listed (chain_terms 511) (chain_propositions 511 (2 ^ 31))) 0 (neg_ℤ (pos 1097364144128)) 511
distance_reached_01 = chain_distance 511 (2 ^ 31)
