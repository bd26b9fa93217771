-- Laws of specs/Closure.
use Prim.Native.Nat.{ℕ, zero, suc, ◌+◌, ◌<◌, ◌≤◌}
use Rattle.std.specs.Prelude.{◌≡◌, true, eqb, ℤ, pos, length}
use Rattle.std.proofs.Math.Path.{refl}
use Rattle.std.proofs.Common.{◌∙◌}
use Rattle.std.proofs.Math.Bool.{false}
use mathlib.Core.List.{List, [], ◌∷◌}
use Rattle.std.proofs.Math.Option.{Option, none, some}
use native.Mathlib.Omega.{arith}
use borrow.Author.Tests.{eqb-true, eqb-false, eq-eqb, not-true, not-false}
use Rattle.integers.specs.Compare.{eq_ℤ_true, eq_eq_ℤ}
use Rattle.lists.specs.Booleans.{and_true, both_true}
use Rattle.lists.specs.Items.{Item, In, not_in_empty, item_below}
use Rattle.lists.specs.Search.{find_pair, find_pair_some, find_pair_none}
use Rattle.lists.specs.Collect.{in_collect, collect_in}
use Rattle.rules.specs.Terms.{Term, variable, auxiliary, deref, Comparison, Given, WellFormed}
use Rattle.rules.specs.Assignments.{Placement}
use Rattle.labels.specs.Steps.{State, Step, by_equality, by_congruence, Closed}
use Rattle.closure.specs.Facts.{Facts, Lists, comparison}
use Rattle.closure.specs.Join.{Label, placed, own, join, total}
use Rattle.closure.proofs.Join.{length_own, length_join, join_keeps, join_joins, join_state, own_state, join_lowers}
use Rattle.closure.specs.Closure.{Deref, as_deref, derefs, is_same_address, OneAddress, unjoined, join_all, continue, close, rounds, closure}

deref_of : (k : ℕ) (t : Term) (d : Deref) → as_deref k t ≡ some d → (t ≡ deref d.offset d.inner) × (k ≡ d.term)
deref_of k (variable x) d e = (cc, cc)
deref_of k (auxiliary x) d e = (cc, cc)
deref_of k (deref z t) d e = (cc, cc)

pub in_derefs : (ts : List Term) {d : Deref} → In d (derefs ts) → Item ts d.term (deref d.offset d.inner)
unfolding derefs
in_derefs ts {d} i =
    let r = collect_in as_deref 0 ts i in
    let of = deref_of (0 + r.0) r.1 d r.3 in
    let at : r.0 ≡ d.term = omega (arith, of.1) in
    rw at at (rw of.0 at r.2)

pub derefs_in : (ts : List Term) {d t : ℕ} {z : ℤ} → Item ts d (deref z t) → In (record { term = d; offset = z; inner = t }) (derefs ts)
unfolding derefs
derefs_in ts {d} {t} {z} i = let n : 0 + d ≡ d = omega arith in in_collect as_deref 0 ts d i (rw n)

pub same_address_true : (P : Placement) (x y : Deref) → is_same_address P x y ≡ true → OneAddress P x y
unfolding is_same_address
same_address_true P x y e =
    let r = and_true (eqb (P.block x.inner) (P.block y.inner)) _ e in
    record { block = eqb-true _ _ r.0; position = eq_ℤ_true _ _ r.1 }

pub one_address : (P : Placement) (x y : Deref) → OneAddress P x y → is_same_address P x y ≡ true
unfolding is_same_address
one_address P x y o = both_true _ _ (eq-eqb _ _ o.block) (eq_eq_ℤ _ _ o.position)

length_join_all : (l : List Label) (cs : List Comparison) → length (join_all l cs) ≡ length l
unfolding join_all
length_join_all l [] = refl
length_join_all l (c ∷ cs) = length_join_all (join l c.left c.offset c.right) cs ∙ length_join l c.left c.offset c.right

length_close : (ds : List Deref) (k : ℕ) (l : List Label) → length (close ds k l) ≡ length l
unfolding close
length_close ds zero l = refl
length_close ds (suc k) l = go (find_pair (unjoined (placed l)) ds) (λ m. length_close ds k m)
  where
    go : (o : Option (Deref × Deref)) → ((m : List Label) → length (close ds k m) ≡ length m) → length (continue l o (λ m. close ds k m)) ≡ length l
    go none ih = refl
    go (some (x, y)) ih = ih (join l x.term (pos 0) y.term) ∙ length_join l x.term (pos 0) y.term

-- a label for each term
pub length_closure : (ts : List Term) (F : Facts) → length (closure ts F) ≡ length ts
unfolding closure
length_closure ts F =
    let l = join_all (own 0 (length ts)) F.equal in
    length_close (derefs ts) (rounds l) l ∙ (length_join_all (own 0 (length ts)) F.equal ∙ length_own 0 (length ts))

module _ (ts : List Term) (G : Given) (wf : WellFormed ts G) (F : Facts) (ls : Lists F G) where
  -- a property that each step keeps, with what each step keeps anyway
  pub record Kept (Q : List Label → Type 0) (l : List Label) : Type 0 where
    pub long : length l ≡ length ts
    pub state : State ts G (placed l)
    pub holds : Q l

  module _
      (Q : List Label → Type 0)
      (keep : (l : List Label) → length l ≡ length ts → State ts G (placed l) → Q l → (a : ℕ) (z : ℤ) (b : ℕ) → Step ts G (placed l) a z b → Q (join l a z b))
    where
      kept_step : (l : List Label) → Kept Q l → (a : ℕ) (z : ℤ) (b : ℕ) → Step ts G (placed l) a z b → Kept Q (join l a z b)
      kept_step l k a z b s = record {
        long = length_join l a z b ∙ k.long;
        state = join_state ts G wf l k.long s k.state;
        holds = keep l k.long k.state k.holds a z b s;
      }

      kept_join_all : (cs : List Comparison) (l : List Label) → ((c : Comparison) → In c cs → G.equal c.left c.offset c.right) → Kept Q l → Kept Q (join_all l cs)
      unfolding join_all
      kept_join_all [] l g k = k
      kept_join_all (c ∷ cs) l g k =
          kept_join_all cs (join l c.left c.offset c.right) (λ d i. g d (suc i.0, i.1))
          (kept_step l k c.left c.offset c.right (by_equality (g c (0, refl))))

      pub pair_step : (l : List Label) (x y : Deref) → find_pair (unjoined (placed l)) (derefs ts) ≡ some (x, y) → Step ts G (placed l) x.term (pos 0) y.term
      unfolding unjoined
      pair_step l x y e =
          let r = find_pair_some (unjoined (placed l)) (derefs ts) e in
          let o = same_address_true (placed l) x y (and_true (is_same_address (placed l) x y) _ r.2).0 in
          by_congruence (in_derefs ts r.0) (in_derefs ts r.1) o.block o.position

      kept_close : (k : ℕ) (l : List Label) → Kept Q l → Kept Q (close (derefs ts) k l)
      unfolding close
      kept_close zero l h = h
      kept_close (suc k) l h = go (find_pair (unjoined (placed l)) (derefs ts)) refl (λ m j. kept_close k m j)
        where
          go :
              (o : Option (Deref × Deref)) →
              find_pair (unjoined (placed l)) (derefs ts) ≡ o →
              ((m : List Label) → Kept Q m → Kept Q (close (derefs ts) k m)) →
              Kept Q (continue l o (λ m. close (derefs ts) k m))
          go none e ih = h
          go (some (x, y)) e ih = ih (join l x.term (pos 0) y.term) (kept_step l h x.term (pos 0) y.term (pair_step l x y e))

      -- what holds at the start and is kept by each step holds of the closure
      pub closure_keeps : Q (own 0 (length ts)) → Kept Q (closure ts F)
      unfolding closure
      closure_keeps q =
          let start : Kept Q (own 0 (length ts)) = record { long = length_own 0 (length ts); state = own_state ts G wf; holds = q } in
          let l = join_all (own 0 (length ts)) F.equal in
          kept_close (rounds l) l (kept_join_all F.equal (own 0 (length ts)) (λ c i. ls.in_equal i) start)

  -- terms of one class stay in one class
  module _ (t u : ℕ) (ht : t < length ts) (hu : u < length ts) where
    abbrev Together : List Label → Type 0
    Together l = (placed l).block t ≡ (placed l).block u

    together : (l : List Label) → length l ≡ length ts → State ts G (placed l) → Together l → (a : ℕ) (z : ℤ) (b : ℕ) → Step ts G (placed l) a z b → Together (join l a z b)
    together l n S e a z b s = join_keeps l a z b (omega arith) (omega arith) e

  abbrev Anything : List Label → Type 0
  Anything l = ℕ

  anything : (l : List Label) → length l ≡ length ts → State ts G (placed l) → ℕ → (a : ℕ) (z : ℤ) (b : ℕ) → Step ts G (placed l) a z b → ℕ
  anything l n S e a z b s = e

  -- the sides of each equality that was joined are in one class
  join_all_merges :
      (cs : List Comparison) (l : List Label) →
      ((c : Comparison) → In c cs → G.equal c.left c.offset c.right) →
      Kept Anything l →
      (c : Comparison) →
      In c cs →
      (placed (join_all l cs)).block c.left ≡ (placed (join_all l cs)).block c.right
  unfolding join_all
  join_all_merges [] l g k c i = absurd (not_in_empty i)
  join_all_merges (d ∷ cs) l g k c (zero, e) =
      let same : d ≡ c = cc in
      let listed = wf.equal_listed (g d (0, refl)) in
      let m = join l d.left d.offset d.right in
      let r = kept_step Anything anything l k d.left d.offset d.right (by_equality (g d (0, refl))) in
      rw (← same)
      (kept_join_all (Together d.left d.right listed.0 listed.1) (together d.left d.right listed.0 listed.1) cs m (λ x i. g x (suc i.0, i.1))
      (record { long = r.long; state = r.state; holds = join_joins l d.left d.offset d.right (omega (arith, k.long, listed.0)) (omega (arith, k.long, listed.1)) })
      ).holds
  join_all_merges (d ∷ cs) l g k c (suc i, e) =
      join_all_merges cs (join l d.left d.offset d.right) (λ x j. g x (suc j.0, j.1))
      (kept_step Anything anything l k d.left d.offset d.right (by_equality (g d (0, refl))))
      c
      (i, e)

  pair_lowers : (l : List Label) (x y : Deref) → length l ≡ length ts → find_pair (unjoined (placed l)) (derefs ts) ≡ some (x, y) → total (join l x.term (pos 0) y.term) < total l
  unfolding unjoined
  pair_lowers l x y n e =
      let r = find_pair_some (unjoined (placed l)) (derefs ts) e in
      let two = (and_true (is_same_address (placed l) x y) _ r.2).1 in
      join_lowers l x.term (pos 0) y.term
      (omega (arith, item_below ts x.term (in_derefs ts r.0)))
      (omega (arith, item_below ts y.term (in_derefs ts r.1)))
      (eqb-false _ _ (not-true _ two))

  -- with fuel for each join that can be made, no two dereferences of one address are left in two classes
  close_closed : (k : ℕ) (l : List Label) → total l ≤ k → Kept Anything l → find_pair (unjoined (placed (close (derefs ts) k l))) (derefs ts) ≡ none
  unfolding close
  close_closed zero l h kept = go (find_pair (unjoined (placed l)) (derefs ts)) refl
    where
      go : (o : Option (Deref × Deref)) → find_pair (unjoined (placed l)) (derefs ts) ≡ o → o ≡ none
      go none e = refl
      go (some (x, y)) e = absurd (omega (arith, pair_lowers l x y kept.long e))
  close_closed (suc k) l h kept = go (find_pair (unjoined (placed l)) (derefs ts)) refl (λ m b j. close_closed k m b j)
    where
      go :
          (o : Option (Deref × Deref)) →
          find_pair (unjoined (placed l)) (derefs ts) ≡ o →
          ((m : List Label) → total m ≤ k → Kept Anything m → find_pair (unjoined (placed (close (derefs ts) k m))) (derefs ts) ≡ none) →
          find_pair (unjoined (placed (continue l o (λ m. close (derefs ts) k m)))) (derefs ts) ≡ none
      go none e ih = e
      go (some (x, y)) e ih =
          ih (join l x.term (pos 0) y.term) (omega (arith, pair_lowers l x y kept.long e))
          (kept_step Anything anything l kept x.term (pos 0) y.term (pair_step Anything anything l x y e))

  all_joined : (P : Placement) → find_pair (unjoined P) (derefs ts) ≡ none → {x y : Deref} → In x (derefs ts) → In y (derefs ts) → OneAddress P x y → P.block x.term ≡ P.block y.term
  unfolding unjoined
  all_joined P e {x} {y} i j o =
      let f : unjoined P x y ≡ false = find_pair_none (unjoined P) (derefs ts) e x y i j in
      let one = one_address P x y o in
      eqb-true _ _ (not-false _ (rw one at f))

  enough_rounds : (l : List Label) → total l ≤ rounds l
  unfolding rounds
  enough_rounds l = omega arith

  pub closure_closed : Closed ts G (placed (closure ts F))
  unfolding closure
  closure_closed =
      let start : Kept Anything (own 0 (length ts)) = record { long = length_own 0 (length ts); state = own_state ts G wf; holds = 0 } in
      let l = join_all (own 0 (length ts)) F.equal in
      let k = kept_join_all Anything anything F.equal (own 0 (length ts)) (λ c i. ls.in_equal i) start in
      record {
        state = (closure_keeps Anything anything 0).state;
        equal_joined = λ {t1} {t2} {z} g.
            let listed = wf.equal_listed g in
            let merged = join_all_merges F.equal (own 0 (length ts)) (λ c i. ls.in_equal i) start (comparison t1 z t2) (ls.equal_in g) in
            (kept_close (Together t1 t2 listed.0 listed.1) (together t1 t2 listed.0 listed.1) (rounds l) l
            (record { long = k.long; state = k.state; holds = merged })
            ).holds;
        derefs_joined = λ i j b e.
            all_joined (placed (closure ts F)) (close_closed (rounds l) l (enough_rounds l) k) (derefs_in ts i) (derefs_in ts j) (record { block = b; position = e });
      }
