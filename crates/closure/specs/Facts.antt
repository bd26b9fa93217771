-- The given facts as lists, to compute with.
use Rattle.std.specs.Prelude.{ℕ, ◌+◌, ◌≡◌, refl, ◌≢◌, ◌⊎◌, Bool, true, false, List, ◌++◌, eqb, ℤ}
use Rattle.std.proofs.Common.{ap, arith, ne_eqb}
use Rattle.std.proofs.Math.Logic.{inl, inr, ⊎_elim}
use Rattle.std.proofs.Math.Option.{Option, none, some}
use Rattle.std.proofs.lemmas.Bool.{eqb-false}
use Rattle.lists.specs.Items.{Item, In}
use Rattle.lists.specs.Search.{choose}
use Rattle.lists.specs.Collect.{collect, in_collect, collect_in, cross, in_cross, cross_in, in_left, in_right, in_append}
use Rattle.rules.specs.Terms.{Term, variable, auxiliary, deref, Proposition, equality, disequality, block_disequality, Comparison, Given, DistinctVariables, listed}

-- two terms by their numbers
pub record Pair : Type 0 where
  pub first : ℕ
  pub second : ℕ

abbrev pub comparison : ℕ → ℤ → ℕ → Comparison
comparison t1 z t2 = record { left = t1; offset = z; right = t2 }

abbrev pub pair : ℕ → ℕ → Pair
pair t1 t2 = record { first = t1; second = t2 }

pub record Facts : Type 0 where
  pub equal : List Comparison
  pub unequal : List Comparison
  pub apart : List Pair

-- the lists hold just the given facts
pub record Lists (F : Facts) (G : Given) : Type 0 where
  pub equal_in : {t1 t2 : ℕ} {z : ℤ} → G.equal t1 z t2 → In (comparison t1 z t2) F.equal
  pub in_equal : {c : Comparison} → In c F.equal → G.equal c.left c.offset c.right
  pub unequal_in : {t1 t2 : ℕ} {z : ℤ} → G.unequal t1 z t2 → In (comparison t1 z t2) F.unequal
  pub in_unequal : {c : Comparison} → In c F.unequal → G.unequal c.left c.offset c.right
  pub apart_in : {t1 t2 : ℕ} → G.apart t1 t2 → In (pair t1 t2) F.apart
  pub in_apart : {p : Pair} → In p F.apart → G.apart p.first p.second

abbrev pub as_equality : ℕ → Proposition → Option Comparison
as_equality k (equality t1 z t2) = some (comparison t1 z t2)
as_equality k (disequality t1 z t2) = none
as_equality k (block_disequality t1 t2) = none

abbrev pub as_disequality : ℕ → Proposition → Option Comparison
as_disequality k (equality t1 z t2) = none
as_disequality k (disequality t1 z t2) = some (comparison t1 z t2)
as_disequality k (block_disequality t1 t2) = none

abbrev pub as_block_disequality : ℕ → Proposition → Option Pair
as_block_disequality k (equality t1 z t2) = none
as_block_disequality k (disequality t1 z t2) = none
as_block_disequality k (block_disequality t1 t2) = some (pair t1 t2)

-- the address of a variable, by its term number and the variable's
pub record Variable : Type 0 where
  pub term : ℕ
  pub name : ℕ

abbrev pub as_variable : ℕ → Term → Option Variable
as_variable t (variable x) = some (record { term = t; name = x })
as_variable t (auxiliary x) = none
as_variable t (deref z s) = none

abbrev pub variables : List Term → List Variable
variables ts = collect as_variable 0 ts

abbrev pub distinct : Variable → Variable → Option Pair
distinct v w = choose (eqb v.name w.name) none (some (pair v.term w.term))

-- the facts of paper 01
unfoldable pub facts : List Term → List Proposition → Facts
facts ts ps = record {
  equal = collect as_equality 0 ps;
  unequal = collect as_disequality 0 ps;
  apart = collect as_block_disequality 0 ps ++ cross distinct (variables ts) (variables ts);
}

equality_of : (k : ℕ) (p : Proposition) (c : Comparison) → as_equality k p ≡ some c → p ≡ equality c.left c.offset c.right
equality_of k (equality t1 z t2) c e = cc
equality_of k (disequality t1 z t2) c e = cc
equality_of k (block_disequality t1 t2) c e = cc

disequality_of : (k : ℕ) (p : Proposition) (c : Comparison) → as_disequality k p ≡ some c → p ≡ disequality c.left c.offset c.right
disequality_of k (equality t1 z t2) c e = cc
disequality_of k (disequality t1 z t2) c e = cc
disequality_of k (block_disequality t1 t2) c e = cc

block_disequality_of : (k : ℕ) (p : Proposition) (c : Pair) → as_block_disequality k p ≡ some c → p ≡ block_disequality c.first c.second
block_disequality_of k (equality t1 z t2) c e = cc
block_disequality_of k (disequality t1 z t2) c e = cc
block_disequality_of k (block_disequality t1 t2) c e = cc

variable_of : (k : ℕ) (t : Term) (v : Variable) → as_variable k t ≡ some v → (t ≡ variable v.name) × (k ≡ v.term)
variable_of k (variable x) v e = (cc, cc)
variable_of k (auxiliary x) v e = (cc, cc)
variable_of k (deref z s) v e = (cc, cc)

distinct_of : (v w : Variable) (c : Pair) → distinct v w ≡ some c → (v.name ≢ w.name) × (v.term ≡ c.first) × (w.term ≡ c.second)
distinct_of v w c = go (eqb v.name w.name) refl
  where
    go : (b : Bool) → eqb v.name w.name ≡ b → choose b none (some (pair v.term w.term)) ≡ some c → (v.name ≢ w.name) × (v.term ≡ c.first) × (w.term ≡ c.second)
    go true e h = let z : ◌≡◌ {A = ℕ} 0 1 = cc in absurd (omega arith)
    go false e h =
        let same : pair v.term w.term ≡ c = cc in
        (eqb-false v.name w.name e, ap (λ (p : Pair). p.first) same, ap (λ (p : Pair). p.second) same)

module _ (ts : List Term) (ps : List Proposition) where
  in_variables : {v : Variable} → In v (variables ts) → Item ts v.term (variable v.name)
  in_variables {v} i =
      let r = collect_in as_variable 0 ts i in
      let of = variable_of (0 + r.0) r.1 v r.3 in
      let at : r.0 ≡ v.term = omega (arith, of.1) in
      rw at at (rw of.0 at r.2)

  variables_in : {t x : ℕ} → Item ts t (variable x) → In (record { term = t; name = x }) (variables ts)
  variables_in {t} {x} i = let n : 0 + t ≡ t = omega arith in in_collect as_variable 0 ts t i (rw n)

  apart_listed : {t1 t2 : ℕ} → In (block_disequality t1 t2) ps ⊎ DistinctVariables ts t1 t2 → In (pair t1 t2) (facts ts ps).apart
  unfolding facts
  apart_listed (inl i) =
      in_left (collect as_block_disequality 0 ps) (cross distinct (variables ts) (variables ts)) (in_collect as_block_disequality 0 ps i.0 i.1 refl)
  apart_listed (inr d) =
      in_right (collect as_block_disequality 0 ps) (cross distinct (variables ts) (variables ts))
      (in_cross distinct (variables ts) (variables ts) (variables_in d.2) (variables_in d.3) (rw (ne_eqb d.0 d.1 d.4)))

  listed_apart : {p : Pair} → In p (facts ts ps).apart → In (block_disequality p.first p.second) ps ⊎ DistinctVariables ts p.first p.second
  unfolding facts
  listed_apart {p} i =
      ⊎_elim
      (λ (h : In p (collect as_block_disequality 0 ps)).
      let r = collect_in as_block_disequality 0 ps h in
      inl (r.0, rw (block_disequality_of (0 + r.0) r.1 p r.3) at r.2))
      (λ (h : In p (cross distinct (variables ts) (variables ts))).
      let r = cross_in distinct (variables ts) (variables ts) h in
      let of = distinct_of r.0 r.1 p r.4 in
      inr (r.0.name, r.1.name, rw of.1 at (in_variables r.2), rw of.2 at (in_variables r.3), of.0))
      (in_append (collect as_block_disequality 0 ps) (cross distinct (variables ts) (variables ts)) i)

  pub lists : Lists (facts ts ps) (listed ts ps)
  unfolding facts
  lists = record {
    equal_in = λ i. in_collect as_equality 0 ps i.0 i.1 refl;
    in_equal = λ {c} i. let r = collect_in as_equality 0 ps i in (r.0, rw (equality_of (0 + r.0) r.1 c r.3) at r.2);
    unequal_in = λ i. in_collect as_disequality 0 ps i.0 i.1 refl;
    in_unequal = λ {c} i. let r = collect_in as_disequality 0 ps i in (r.0, rw (disequality_of (0 + r.0) r.1 c r.3) at r.2);
    apart_in = λ g. apart_listed g;
    in_apart = λ i. listed_apart i;
  }
