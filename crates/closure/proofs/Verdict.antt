-- Laws of specs/Verdict.
use Rattle.std.specs.Prelude.{ℕ, ◌<◌, refl, ◌≢◌, ◌↔◌, Bool, true, ◌||◌, List, eqb, pos, ◌+ℤ◌, length}
use Rattle.std.proofs.Math.Path.{◌≡◌}
use Rattle.std.proofs.Common.{arith}
use Rattle.std.proofs.Math.Bool.{false, not}
use Rattle.std.proofs.Math.Option.{Option, none, some}
use borrow.Author.Tests.{eqb-true, eqb-false, eq-eqb, not-true, not-false}
use Rattle.integers.specs.Compare.{eq_ℤ_true, eq_eq_ℤ}
use Rattle.lists.specs.Booleans.{and_true, both_true, or_false}
use Rattle.lists.specs.Items.{In, item_below}
use Rattle.lists.specs.Search.{any, any_true, any_false, is_some, find_pair, find_pair_some, find_pair_none}
use Rattle.rules.specs.Terms.{Term, Comparison, Given, WellFormed}
use Rattle.rules.specs.Rules.{E0, Contradiction}
use Rattle.rules.specs.Assignments.{Placement, Holds, Assignment}
use Rattle.rules.proofs.Soundness.{no_contradiction}
use Rattle.labels.specs.Labelling.{deref_equal, equal_conflict, unequal_conflict, apart_conflict}
use Rattle.labels.specs.Unique.{Canonical, unique}
use Rattle.labels.specs.Steps.{Closed}
use Rattle.closure.specs.Facts.{Facts, Lists, comparison}
use Rattle.closure.specs.Join.{placed}
use Rattle.closure.specs.Closure.{Deref, derefs, is_same_address, OneAddress, closure}
use Rattle.closure.proofs.Closure.{in_derefs, derefs_in, same_address_true, one_address, closure_closed}
use Rattle.closure.specs.Verdict.{holds, together, clash, conflicting, contradictory}

pub holds_true : (P : Placement) (c : Comparison) → holds P c ≡ true → Holds P c.left c.offset c.right
unfolding holds
holds_true P c e =
    let r = and_true (eqb (P.block c.left) (P.block c.right)) _ e in
    record { same_block = eqb-true _ _ r.0; at_offset = eq_ℤ_true _ _ r.1 }

pub true_holds : (P : Placement) (c : Comparison) → Holds P c.left c.offset c.right → holds P c ≡ true
unfolding holds
true_holds P c h = both_true _ _ (eq-eqb _ _ h.same_block) (eq_eq_ℤ _ _ h.at_offset)

module _ (ts : List Term) (G : Given) (wf : WellFormed ts G) (F : Facts) (ls : Lists F G) (P : Placement) where
  -- a labelling with no conflict is an assignment
  no_clash : find_pair (clash P) (derefs ts) ≡ none → {x y : Deref} → In x (derefs ts) → In y (derefs ts) → OneAddress P x y → Holds P x.term (pos 0) y.term
  unfolding clash
  no_clash e {x} {y} i j o =
      let f : clash P x y ≡ false = find_pair_none (clash P) (derefs ts) e x y i j in
      let one = one_address P x y o in
      holds_true P (comparison x.term (pos 0) y.term) (not-false _ (rw one at f))

  is_some_false : {A : Type 0} (o : Option A) → is_some o ≡ false → o ≡ none
  is_some_false none e = refl
  is_some_false (some a) e = cc

  pub no_conflict : conflicting ts F P ≡ false → Assignment ts G P
  unfolding conflicting together
  no_conflict e =
      let r = or_false (any (λ c. not (holds P c)) F.equal) _ e in
      let s = or_false (is_some (find_pair (clash P) (derefs ts))) _ r.1 in
      let t = or_false (any (holds P) F.unequal) _ s.1 in
      record {
        respects = record {
          equal = λ {t1} {t2} {z} g.
              holds_true P (comparison t1 z t2) (not-false _ (any_false (λ c. not (holds P c)) F.equal r.0 (comparison t1 z t2) (ls.equal_in g)));
          congruent = λ i j b p. no_clash (is_some_false _ s.0) (derefs_in ts i) (derefs_in ts j) (record { block = b; position = p });
        };
        unequal = λ {t1} {t2} {z} g h.
            let f = any_false (holds P) F.unequal t.0 (comparison t1 z t2) (ls.unequal_in g) in
            let k = true_holds P (comparison t1 z t2) h in
            let n : ◌≡◌ {A = ℕ} 0 1 = cc in
            omega arith;
        apart = λ {t1} {t2} g h. eqb-false _ _ (any_false (together P) F.apart t.1 (record { first = t1; second = t2 }) (ls.apart_in g)) h;
      }

  -- a conflict of a closed labelling is a contradiction of the rules
  module _ (K : Closed ts G P) where
    not_at : (c : Comparison) → P.block c.left ≡ P.block c.right → holds P c ≡ false → P.position c.left ≢ c.offset +ℤ P.position c.right
    not_at c b f e =
        let k = true_holds P c (record { same_block = b; at_offset = e }) in
        let n : ◌≡◌ {A = ℕ} 0 1 = cc in
        omega arith

    equal_fails : any (λ c. not (holds P c)) F.equal ≡ true → Contradiction ts G
    equal_fails e =
        let r = any_true (λ c. not (holds P c)) F.equal e in
        let g = ls.in_equal r.1 in
        let listed = wf.equal_listed g in
        equal_conflict ts G P K.state.sound listed.0 listed.1 (E0 g) (K.equal_joined g)
        (not_at r.0 (K.equal_joined g) (not-true _ r.2))

    derefs_fail : (o : Option (Deref × Deref)) → find_pair (clash P) (derefs ts) ≡ o → is_some o ≡ true → Contradiction ts G
    unfolding clash
    derefs_fail none e s = let n : ◌≡◌ {A = ℕ} 0 1 = cc in absurd (omega arith)
    derefs_fail (some (x, y)) e s =
        let r = find_pair_some (clash P) (derefs ts) e in
        let i = in_derefs ts r.0 in
        let j = in_derefs ts r.1 in
        let t = and_true (is_same_address P x y) _ r.2 in
        let o = same_address_true P x y t.0 in
        let b = K.derefs_joined i j o.block o.position in
        equal_conflict ts G P K.state.sound (item_below ts x.term i) (item_below ts y.term j)
        (deref_equal ts G P K.state.sound wf i j o.block o.position)
        b
        (not_at (comparison x.term (pos 0) y.term) b (not-true _ t.1))

    unequal_fails : any (holds P) F.unequal ≡ true → Contradiction ts G
    unequal_fails e =
        let r = any_true (holds P) F.unequal e in
        let g = ls.in_unequal r.1 in
        let listed = wf.unequal_listed g in
        unequal_conflict ts G P K.state.sound listed.0 listed.1 g (holds_true P r.0 r.2)

    apart_fails : any (together P) F.apart ≡ true → Contradiction ts G
    unfolding together
    apart_fails e =
        let r = any_true (together P) F.apart e in
        let g = ls.in_apart r.1 in
        let listed = wf.apart_listed g in
        apart_conflict ts G P K.state.sound listed.0 listed.1 g (eqb-true _ _ r.2)

    either : (a b : Bool) → (a || b) ≡ true → (a ≡ true → Contradiction ts G) → (b ≡ true → Contradiction ts G) → Contradiction ts G
    either true b e f g = f refl
    either false b e f g = g e

    pub conflict : conflicting ts F P ≡ true → Contradiction ts G
    unfolding conflicting
    conflict e =
        either _ _ e equal_fails
        (λ e1. either _ _ e1 (derefs_fail _ refl) (λ e2. either _ _ e2 unequal_fails apart_fails))

module _ (ts : List Term) (G : Given) (wf : WellFormed ts G) (F : Facts) (ls : Lists F G) where
  pub verdict_contradiction : contradictory ts F ≡ true → Contradiction ts G
  unfolding contradictory
  verdict_contradiction e = conflict ts G wf F ls (placed (closure ts F)) (closure_closed ts G wf F ls) e

  pub verdict_satisfiable : contradictory ts F ≡ false → Assignment ts G (placed (closure ts F))
  unfolding contradictory
  verdict_satisfiable e = no_conflict ts G wf F ls (placed (closure ts F)) e

  -- contradictory exactly where one of paper 01's three conditions is derived
  pub contradiction_exact : contradictory ts F ≡ true ↔ Contradiction ts G
  contradiction_exact = (verdict_contradiction, back (contradictory ts F) refl)
    where
      back : (b : Bool) → contradictory ts F ≡ b → Contradiction ts G → b ≡ true
      back true e c = refl
      back false e c = absurd (no_contradiction ts G (placed (closure ts F)) (verdict_satisfiable e) c)

  -- contradictory exactly where no assignment exists
  pub contradiction_no_assignment : contradictory ts F ≡ true ↔ ((P : Placement) → Assignment ts G P → ⊥)
  contradiction_no_assignment =
      (λ e P A. no_contradiction ts G P A (verdict_contradiction e), back (contradictory ts F) refl)
    where
      back : (b : Bool) → contradictory ts F ≡ b → ((P : Placement) → Assignment ts G P → ⊥) → b ≡ true
      back true e n = refl
      back false e n = absurd (n (placed (closure ts F)) (verdict_satisfiable e))

  -- without contradiction the computed labelling is the one that the rules determine
  pub closure_canonical : contradictory ts F ≡ false → Canonical ts G (placed (closure ts F))
  closure_canonical e = record {
    sound = (closure_closed ts G wf F ls).state.sound;
    respects = (verdict_satisfiable e).respects;
    lowest = (closure_closed ts G wf F ls).state.lowest;
  }

  -- any labelling that is sound, closed and lowest is the computed one
  pub canonical_computed : contradictory ts F ≡ false → (Q : Placement) → Canonical ts G Q → (t : ℕ) → t < length ts → (Q.block t ≡ (placed (closure ts F)).block t) × (Q.position t ≡ (placed (closure ts F)).position t)
  canonical_computed e Q C = unique ts G Q (placed (closure ts F)) C (closure_canonical e)
