-- What is computed different is what the rules derive.
use Prim.Native.Nat.{ℕ, zero, suc, ◌<◌, ◌≤◌}
use Rattle.std.specs.Prelude.{◌≡◌, ◌≢◌, ◌⊎◌, ◌↔◌, Bool, ◌||◌, eqb, ℤ, pos, neg_ℤ, ◌+ℤ◌, ◌-ℤ◌, length}
use Rattle.std.proofs.Math.Path.{refl}
use Rattle.std.proofs.Common.{sym, ap, arith}
use Rattle.std.proofs.Math.Logic.{inl, inr, ⊎_elim}
use Rattle.std.proofs.Math.Bool.{true, false, not}
use mathlib.Core.List.{List, ◌∷◌}
use Rattle.std.proofs.Math.Option.{Option, none, some}
use Rattle.std.proofs.Math.IntN.{neg_ℤ-neg_ℤ}
use borrow.Author.Tests.{eqb-true, eq-eqb, not-true, not-false}
use Rattle.integers.specs.Linear.{linear, value, ‹◌›, #◌, ◌⊕◌, ◌⊖◌, ⊝◌}
use Rattle.integers.specs.Compare.{eq_ℤ_true, eq_ℤ_false, eq_eq_ℤ, ne_eq_ℤ}
use Rattle.lists.specs.Booleans.{and_true, both_true, false_true, or_cases, or_first, or_second, or_swap}
use Rattle.lists.specs.Items.{Item, In, item_below}
use Rattle.lists.specs.Search.{any_true, any_in, find, find_some, find_none}
use Rattle.lists.specs.Collect.{in_cross, cross_in}
use Rattle.lists.specs.Counting.{count_less}
use Rattle.rules.specs.Terms.{Term, deref, Comparison, Given, WellFormed}
use Rattle.rules.specs.Rules.{Equal, Apart, Different}
use Rattle.rules.specs.Assignments.{Placement}
use Rattle.rules.proofs.Soundness.{equal_holds}
use Rattle.labels.specs.Labelling.{class_equal}
use Rattle.labels.specs.Unique.{Canonical}
use Rattle.closure.specs.Facts.{Facts, Lists, Pair, pair, comparison}
use Rattle.closure.specs.Closure.{Deref, derefs}
use Rattle.closure.proofs.Closure.{in_derefs, derefs_in}
use Rattle.closure.specs.Differences.{distance, Two, addresses, classes_are, apart, is_other_offset, between, unequal, different_at, different_by, values_differ, addresses_differ, draws, with_drawn, draw, undrawn, twos, drawn, different}

-- the distance of the mirror image
pub distance_mirror : (P : Placement) (t1 : ℕ) (z : ℤ) (t2 : ℕ) → distance P t2 (neg_ℤ z) t1 ≡ neg_ℤ (distance P t1 z t2)
distance_mirror P t1 z t2 =
    omega (linear, value (‹ P.position t2 › ⊖ (⊝ ‹ z › ⊕ ‹ P.position t1 ›)), value (⊝ (‹ P.position t1 › ⊖ (‹ z › ⊕ ‹ P.position t2 ›))))

module _ (P : Placement) where
  pub classes : (p : Pair) (a b : ℕ) → classes_are P p a b ≡ true → (P.block p.first ≡ a) × (P.block p.second ≡ b)
  unfolding classes_are
  classes p a b e = let r = and_true (eqb (P.block p.first) a) _ e in (eqb-true _ _ r.0, eqb-true _ _ r.1)

  pub of_classes : (p : Pair) (a b : ℕ) → P.block p.first ≡ a → P.block p.second ≡ b → classes_are P p a b ≡ true
  unfolding classes_are
  of_classes p a b e f = both_true _ _ (eq-eqb _ _ e) (eq-eqb _ _ f)

  -- the parts of the tests
  pub record Between (c : Comparison) (a b : ℕ) (d : ℤ) : Type 0 where
    pub left : P.block c.left ≡ a
    pub right : P.block c.right ≡ b
    pub far : distance P c.left c.offset c.right ≡ d

  pub between_true : (c : Comparison) (a b : ℕ) (d : ℤ) → between P c a b d ≡ true → Between c a b d
  unfolding between
  between_true c a b d e =
      let r = and_true (classes_are P (pair c.left c.right) a b) _ e in
      let k = classes (pair c.left c.right) a b r.0 in
      record { left = k.0; right = k.1; far = eq_ℤ_true _ _ r.1 }

  pub true_between : (c : Comparison) (a b : ℕ) (d : ℤ) → Between c a b d → between P c a b d ≡ true
  unfolding between
  true_between c a b d r = both_true _ _ (of_classes (pair c.left c.right) a b r.left r.right) (eq_eq_ℤ _ _ r.far)

  pub other_true : (a b : ℕ) (d : ℤ) → is_other_offset P a b d ≡ true → (a ≡ b) × (d ≢ pos 0)
  unfolding is_other_offset
  other_true a b d e = let r = and_true (eqb a b) _ e in (eqb-true _ _ r.0, eq_ℤ_false _ _ (not-true _ r.1))

  pub true_other : (a b : ℕ) (d : ℤ) → a ≡ b → d ≢ pos 0 → is_other_offset P a b d ≡ true
  unfolding is_other_offset
  true_other a b d e m = rw (eq-eqb a b e, ne_eq_ℤ d (pos 0) m)

  -- a disequality of the list between the classes, one way or the other
  pub unequal_true : (cs : List Comparison) (a b : ℕ) (d : ℤ) → unequal P cs a b d ≡ true → (c : Comparison) × In c cs × (Between c a b d ⊎ Between c b a (neg_ℤ d))
  unfolding unequal
  unequal_true cs a b d e =
      let r = any_true (λ c. between P c a b d || between P c b a (neg_ℤ d)) cs e in
      (r.0, r.1, ⊎_elim (λ h. inl (between_true r.0 a b d h)) (λ h. inr (between_true r.0 b a (neg_ℤ d) h)) (or_cases _ _ r.2))

  pub true_unequal : (cs : List Comparison) (a b : ℕ) (d : ℤ) (c : Comparison) → In c cs → Between c a b d ⊎ Between c b a (neg_ℤ d) → unequal P cs a b d ≡ true
  unfolding unequal
  true_unequal cs a b d c i w =
      any_in (λ x. between P x a b d || between P x b a (neg_ℤ d)) cs c i
      (⊎_elim (λ h. or_first (between P c a b d) (between P c b a (neg_ℤ d)) (true_between c a b d h))
      (λ h. or_second (between P c a b d) (between P c b a (neg_ℤ d)) (true_between c b a (neg_ℤ d) h))
      w)

  module _ (F : Facts) (cs : List Comparison) (a b : ℕ) (d : ℤ) where
    -- the three ways to be different
    pub at_cases : (A : Type 0) → different_at P F cs a b d ≡ true → (apart P F.apart a b ≡ true → A) → (is_other_offset P a b d ≡ true → A) → (unequal P cs a b d ≡ true → A) → A
    unfolding different_at
    at_cases A e f g h =
        ⊎_elim f (λ k. ⊎_elim g h (or_cases (is_other_offset P a b d) (unequal P cs a b d) k))
        (or_cases (apart P F.apart a b) (is_other_offset P a b d || unequal P cs a b d) e)

    pub at_apart : apart P F.apart a b ≡ true → different_at P F cs a b d ≡ true
    unfolding different_at
    at_apart e = or_first _ _ e

    pub at_other : is_other_offset P a b d ≡ true → different_at P F cs a b d ≡ true
    unfolding different_at
    at_other e = or_second (apart P F.apart a b) (is_other_offset P a b d || unequal P cs a b d) (or_first _ _ e)

    pub at_unequal : unequal P cs a b d ≡ true → different_at P F cs a b d ≡ true
    unfolding different_at
    at_unequal e = or_second (apart P F.apart a b) (is_other_offset P a b d || unequal P cs a b d) (or_second (is_other_offset P a b d) (unequal P cs a b d) e)

  pub apart_symmetric : (ps : List Pair) (a b : ℕ) → apart P ps a b ≡ true → apart P ps b a ≡ true
  unfolding apart
  apart_symmetric ps a b e =
      let r = any_true (λ p. classes_are P p a b || classes_are P p b a) ps e in
      any_in (λ p. classes_are P p b a || classes_are P p a b) ps r.0 r.1 (or_swap (classes_are P r.0 a b) (classes_are P r.0 b a) r.2)

  pub at_symmetric : (F : Facts) (cs : List Comparison) (a b : ℕ) (d : ℤ) → different_at P F cs a b d ≡ true → different_at P F cs b a (neg_ℤ d) ≡ true
  at_symmetric F cs a b d e =
      at_cases F cs a b d (different_at P F cs b a (neg_ℤ d) ≡ true) e
      (λ h. at_apart F cs b a (neg_ℤ d) (apart_symmetric F.apart a b h))
      (λ h.
      let r = other_true a b d h in
      at_other F cs b a (neg_ℤ d) (true_other b a (neg_ℤ d) (sym r.0) (λ k. r.1 (omega (linear, k, value (⊝ ‹ d ›), value (# 0))))))
      (λ h.
      let r = unequal_true cs a b d h in
      at_unequal F cs b a (neg_ℤ d) (true_unequal cs b a (neg_ℤ d) r.0 r.1 (⊎_elim (λ k. inr (rw neg_ℤ-neg_ℤ k)) inl r.2)))

  -- more disequalities make no less different
  pub at_more : (F : Facts) (cs es : List Comparison) → ((c : Comparison) → In c cs → In c es) → (a b : ℕ) (d : ℤ) → different_at P F cs a b d ≡ true → different_at P F es a b d ≡ true
  at_more F cs es more a b d e =
      at_cases F cs a b d (different_at P F es a b d ≡ true) e (at_apart F es a b d) (at_other F es a b d)
      (λ h. let r = unequal_true cs a b d h in at_unequal F es a b d (true_unequal es a b d r.0 (more r.0 r.1) r.2))

  -- the sides of a disequality are different by it
  pub by_itself : (F : Facts) (cs : List Comparison) (c : Comparison) → In c cs → different_by P F cs c.left c.offset c.right ≡ true
  by_itself F cs c i =
      let a = P.block c.left in
      let b = P.block c.right in
      let d = distance P c.left c.offset c.right in
      at_unequal F cs a b d (true_unequal cs a b d c i (inl (record { left = refl; right = refl; far = refl })))

pub in_twos : (ts : List Term) {x y : Deref} → In x (derefs ts) → In y (derefs ts) → In (x, y) (twos ts)
unfolding twos
in_twos ts {x} {y} i j = in_cross (λ (v w : Deref). some (v, w)) (derefs ts) (derefs ts) i j refl

pub twos_in : (ts : List Term) {r : Two} → In r (twos ts) → In r.0 (derefs ts) × In r.1 (derefs ts)
unfolding twos
twos_in ts {r} i =
    let k = cross_in (λ (v w : Deref). some (v, w)) (derefs ts) (derefs ts) i in
    let same : ◌≡◌ {A = Two} (k.0, k.1) r = cc in
    (rw (ap (λ (s : Two). s.0) same) at k.2, rw (ap (λ (s : Two). s.1) same) at k.3)

module _ (ts : List Term) (G : Given) (wf : WellFormed ts G) (F : Facts) (ls : Lists F G) (P : Placement) (C : Canonical ts G P) where
  apart_moved : (p : Pair) (t1 t2 : ℕ) → t1 < length ts → t2 < length ts → In p F.apart → classes_are P p (P.block t1) (P.block t2) ≡ true → Apart ts G t1 t2
  apart_moved p t1 t2 h1 h2 i e =
      let g = ls.in_apart i in
      let listed = wf.apart_listed g in
      let c = classes P p (P.block t1) (P.block t2) e in
      Apart.closure (Apart.given g) (class_equal ts G P C.sound h1 listed.0 (sym c.0)) (class_equal ts G P C.sound h2 listed.1 (sym c.1))

  pub apart_true : (t1 t2 : ℕ) → t1 < length ts → t2 < length ts → apart P F.apart (P.block t1) (P.block t2) ≡ true → Apart ts G t1 t2
  unfolding apart
  apart_true t1 t2 h1 h2 e =
      let a = P.block t1 in
      let b = P.block t2 in
      let r = any_true (λ p. classes_are P p a b || classes_are P p b a) F.apart e in
      ⊎_elim
      (λ (k : classes_are P r.0 (P.block t1) (P.block t2) ≡ true). apart_moved r.0 t1 t2 h1 h2 r.1 k)
      (λ (k : classes_are P r.0 (P.block t2) (P.block t1) ≡ true). Apart.symmetry (apart_moved r.0 t2 t1 h2 h1 r.1 k))
      (or_cases _ _ r.2)

  equal_block : {t1 t2 : ℕ} {z : ℤ} → Equal ts G t1 z t2 → P.block t1 ≡ P.block t2
  equal_block e = (equal_holds ts G P C.respects e).same_block

  pub true_apart : {t1 t2 : ℕ} → Apart ts G t1 t2 → apart P F.apart (P.block t1) (P.block t2) ≡ true
  unfolding apart
  true_apart (Apart.given {t1 = t1} {t2 = t2} g) =
      let a = P.block t1 in
      let b = P.block t2 in
      any_in (λ p. classes_are P p a b || classes_are P p b a) F.apart (pair t1 t2) (ls.apart_in g) (or_first _ _ (of_classes P (pair t1 t2) a b refl refl))
  true_apart (Apart.symmetry {t1 = t1} {t2 = t2} a) = apart_symmetric P F.apart (P.block t1) (P.block t2) (true_apart a)
  true_apart (Apart.closure a e1 e2) = rw (equal_block e1, equal_block e2) (true_apart a)

  -- disequalities that are derived, and those given among them
  pub record Derived (cs : List Comparison) : Type 0 where
    pub sides : {c : Comparison} → In c cs → (c.left < length ts) × (c.right < length ts)
    pub derived : {c : Comparison} → In c cs → Different ts G c.left c.offset c.right
    pub given : {c : Comparison} → In c F.unequal → In c cs

  module _ (cs : List Comparison) (D : Derived cs) where
    -- a disequality, moved along equalities
    moved_to : (c : Comparison) (t1 : ℕ) (z : ℤ) (t2 : ℕ) → t1 < length ts → t2 < length ts → In c cs → Between P c (P.block t1) (P.block t2) (distance P t1 z t2) → Different ts G t1 z t2
    moved_to c t1 z t2 h1 h2 i k =
        let s = D.sides i in
        let y = c.offset +ℤ (P.position t1 -ℤ P.position c.left) -ℤ (P.position t2 -ℤ P.position c.right) in
        let at : z ≡ y =
        omega (linear, k.far, value (‹ P.position c.left › ⊖ (‹ c.offset › ⊕ ‹ P.position c.right ›)), value (‹ P.position t1 › ⊖ (‹ z › ⊕ ‹ P.position t2 ›)), value (‹ c.offset › ⊕ (‹ P.position t1 › ⊖ ‹ P.position c.left ›) ⊖ (‹ P.position t2 › ⊖ ‹ P.position c.right ›))) in
        rw at (Different.moved (D.derived i) (class_equal ts G P C.sound h1 s.0 (sym k.left)) (class_equal ts G P C.sound h2 s.1 (sym k.right)))

    pub by_derived : (t1 : ℕ) (z : ℤ) (t2 : ℕ) → t1 < length ts → t2 < length ts → different_by P F cs t1 z t2 ≡ true → Different ts G t1 z t2
    by_derived t1 z t2 h1 h2 e =
        let a = P.block t1 in
        let b = P.block t2 in
        let d = distance P t1 z t2 in
        at_cases P F cs a b d (Different ts G t1 z t2) e
        (λ h. Different.apart z (apart_true t1 t2 h1 h2 h))
        (λ h.
        let r = other_true P a b d h in
        Different.other_offset z (class_equal ts G P C.sound h1 h2 r.0)
        (λ k. r.1 (omega (linear, k, value (‹ P.position t1 › ⊖ ‹ P.position t2 ›), value (‹ P.position t1 › ⊖ (‹ z › ⊕ ‹ P.position t2 ›)), value (# 0)))))
        (λ h.
        let r = unequal_true P cs a b d h in
        ⊎_elim (moved_to r.0 t1 z t2 h1 h2 r.1)
        (λ k. rw neg_ℤ-neg_ℤ at (Different.symmetry (moved_to r.0 t2 (neg_ℤ z) t1 h2 h1 r.1 (rw (distance_mirror P t1 z t2) k))))
        r.2)

  -- addresses are different by them where the values read there are
  pub record Settled (cs : List Comparison) : Type 0 where
    pub only : Derived cs
    pub inverse : {x y : Deref} → In x (derefs ts) → In y (derefs ts) → values_differ P F cs (x, y) ≡ true → addresses_differ P F cs (x, y) ≡ true

  module _ (cs : List Comparison) (S : Settled cs) where
    -- a derived difference is computed
    computed : {t1 t2 : ℕ} {z : ℤ} → Different ts G t1 z t2 → different_by P F cs t1 z t2 ≡ true
    unfolding values_differ addresses_differ
    computed (Different.listed {t1 = t1} {t2 = t2} {z = z} g) = by_itself P F cs (comparison t1 z t2) (S.only.given (ls.unequal_in g))
    computed (Different.moved {t1 = t1} {t2 = t2} {u = u} {v = v} {z = z} {a = a} {b = b} d e1 e2) =
        let h1 = equal_holds ts G P C.respects e1 in
        let h2 = equal_holds ts G P C.respects e2 in
        let at : distance P u (z +ℤ a -ℤ b) v ≡ distance P t1 z t2 =
        omega (linear, h1.at_offset, h2.at_offset, value (‹ a › ⊕ ‹ P.position t1 ›), value (‹ b › ⊕ ‹ P.position t2 ›), value (‹ P.position u › ⊖ (‹ z › ⊕ ‹ a › ⊖ ‹ b › ⊕ ‹ P.position v ›)), value (‹ P.position t1 › ⊖ (‹ z › ⊕ ‹ P.position t2 ›))) in
        rw (h1.same_block, h2.same_block, at) (computed d)
    computed (Different.symmetry {t1 = t1} {t2 = t2} {z = z} d) =
        rw (distance_mirror P t1 z t2) (at_symmetric P F cs (P.block t1) (P.block t2) (distance P t1 z t2) (computed d))
    computed (Different.inverse_deref i j d) = S.inverse (derefs_in ts i) (derefs_in ts j) (computed d)
    computed (Different.other_offset {t1 = t1} {t2 = t2} {z = z} y e m) =
        let h = equal_holds ts G P C.respects e in
        at_other P F cs (P.block t1) (P.block t2) (distance P t1 y t2)
        (true_other P (P.block t1) (P.block t2) (distance P t1 y t2) h.same_block
        (λ k. m (omega (linear, k, h.at_offset, value (# 0), value (‹ z › ⊕ ‹ P.position t2 ›), value (‹ P.position t1 › ⊖ (‹ y › ⊕ ‹ P.position t2 ›))))))
    computed (Different.apart {t1 = t1} {t2 = t2} z a) = at_apart P F cs (P.block t1) (P.block t2) (distance P t1 z t2) (true_apart a)

    pub settled_exact : {t1 t2 : ℕ} {z : ℤ} → t1 < length ts → t2 < length ts → different_by P F cs t1 z t2 ≡ true ↔ Different ts G t1 z t2
    settled_exact {t1} {t2} {z} h1 h2 = (by_derived cs S.only t1 z t2 h1 h2, computed)

  kept_start : Derived F.unequal
  kept_start = record {
    sides = λ i. wf.unequal_listed (ls.in_unequal i);
    derived = λ i. Different.listed (ls.in_unequal i);
    given = λ i. i;
  }

  module _ (cs : List Comparison) (r : Two) (e : find (draws P F cs) (twos ts) ≡ some r) where
    abbrev more : List Comparison
    more = addresses r ∷ cs

    drew : In r (twos ts) × (values_differ P F cs r ≡ true) × (addresses_differ P F cs r ≡ false)
    unfolding draws
    drew =
        let f = find_some (draws P F cs) (twos ts) e in
        let t = and_true (values_differ P F cs r) _ f.1 in
        (f.0, t.0, not-true _ t.1)

    kept_more : Derived cs → Derived more
    unfolding values_differ
    kept_more K = record { sides = sides_of; derived = derived_of; given = λ i. let j = K.given i in (suc j.0, j.1) }
      where
        i : Item ts r.0.term (deref r.0.offset r.0.inner)
        i = in_derefs ts (twos_in ts drew.0).0

        j : Item ts r.1.term (deref r.1.offset r.1.inner)
        j = in_derefs ts (twos_in ts drew.0).1

        sides_of : {c : Comparison} → In c more → (c.left < length ts) × (c.right < length ts)
        sides_of {c} (zero, s) =
            let same : addresses r ≡ c = cc in
            rw (← same) (omega (arith, wf.earlier i, item_below ts r.0.term i), omega (arith, wf.earlier j, item_below ts r.1.term j))
        sides_of (suc k, s) = K.sides (k, s)

        derived_of : {c : Comparison} → In c more → Different ts G c.left c.offset c.right
        derived_of {c} (zero, s) =
            let same : addresses r ≡ c = cc in
            let d = by_derived cs K r.0.term (pos 0) r.1.term (item_below ts r.0.term i) (item_below ts r.1.term j) drew.1 in
            rw (← same) (Different.inverse_deref i j d)
        derived_of (suc k, s) = K.derived (k, s)

    fewer_undrawn : undrawn P F (twos ts) more < undrawn P F (twos ts) cs
    unfolding undrawn addresses_differ
    fewer_undrawn =
        count_less (λ s. not (addresses_differ P F cs s)) (λ s. not (addresses_differ P F more s)) (twos ts)
        (λ s n. still s (addresses_differ P F cs s) refl n) r drew.0 (rw drew.2)
        (rw (by_itself P F more (addresses r) (zero, refl)))
      where
        still : (s : Two) (b : Bool) → addresses_differ P F cs s ≡ b → not (addresses_differ P F more s) ≡ true → not b ≡ true
        still s false f n = refl
        still s true f n =
            let c = addresses s in
            let m = at_more P F cs more (λ x k. (suc k.0, k.1)) (P.block c.left) (P.block c.right) (distance P c.left c.offset c.right) f in
            false_true (not-true _ n) m

  kept_draw : (k : ℕ) (cs : List Comparison) → Derived cs → Derived (draw P F (twos ts) k cs)
  unfolding draw
  kept_draw zero cs K = K
  kept_draw (suc k) cs K = go (find (draws P F cs) (twos ts)) refl (λ more M. kept_draw k more M)
    where
      go :
          (o : Option Two) →
          find (draws P F cs) (twos ts) ≡ o →
          ((more : List Comparison) → Derived more → Derived (draw P F (twos ts) k more)) →
          Derived (with_drawn P cs o (λ more. draw P F (twos ts) k more))
      go none e ih = K
      go (some r) e ih = ih (addresses r ∷ cs) (kept_more cs r e K)

  -- with fuel for each disequality that can be added, none is left
  draw_all : (k : ℕ) (cs : List Comparison) → undrawn P F (twos ts) cs ≤ k → find (draws P F (draw P F (twos ts) k cs)) (twos ts) ≡ none
  unfolding draw
  draw_all zero cs h = go (find (draws P F cs) (twos ts)) refl
    where
      go : (o : Option Two) → find (draws P F cs) (twos ts) ≡ o → o ≡ none
      go none e = refl
      go (some r) e = absurd (omega (arith, fewer_undrawn cs r e))
  draw_all (suc k) cs h = go (find (draws P F cs) (twos ts)) refl (λ more b. draw_all k more b)
    where
      go :
          (o : Option Two) →
          find (draws P F cs) (twos ts) ≡ o →
          ((more : List Comparison) → undrawn P F (twos ts) more ≤ k → find (draws P F (draw P F (twos ts) k more)) (twos ts) ≡ none) →
          find (draws P F (with_drawn P cs o (λ more. draw P F (twos ts) k more))) (twos ts) ≡ none
      go none e ih = e
      go (some r) e ih = ih (addresses r ∷ cs) (omega (arith, fewer_undrawn cs r e))

  drawn_settled : Settled (drawn ts F P)
  unfolding drawn draws
  drawn_settled =
      let fuel = undrawn P F (twos ts) F.unequal in
      let none_left = draw_all fuel F.unequal (omega arith) in
      record {
        only = kept_draw fuel F.unequal kept_start;
        inverse = λ {x} {y} i j v.
            let f = find_none (draws P F (draw P F (twos ts) fuel F.unequal)) (twos ts) none_left (x, y) (in_twos ts i j) in
            not-false _ (rw v at f);
      }

  -- computed different exactly where the rules derive it
  pub different_exact : {t1 t2 : ℕ} {z : ℤ} → t1 < length ts → t2 < length ts → different ts F P t1 z t2 ≡ true ↔ Different ts G t1 z t2
  unfolding different
  different_exact h1 h2 = settled_exact (drawn ts F P) drawn_settled h1 h2
