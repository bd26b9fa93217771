-- The table of apart classes holds what the rules derive apart.
use Rattle.std.specs.Prelude.{ℕ, ◌+◌, ◌*◌, ◌<◌, ◌≢◌, Bool, List, ltb, ℤ, length, get_or}
use Rattle.std.proofs.Math.Path.{◌≡◌, refl, sym}
use Rattle.std.proofs.Common.{◌∙◌, ap, inl, inr, ⊎_elim, arith}
use Rattle.std.proofs.Math.Bool.{true, false}
use Rattle.std.proofs.Math.Dec.{eqb}
use borrow.Author.Tests.{eq-eqb, ltb-true, ltb-false}
use Rattle.lists.specs.Booleans.{false_true}
use Rattle.lists.specs.Items.{Item, In, item_below}
use Rattle.rules.specs.Terms.{Term, variable, block_disequality, Given, DistinctVariables, listed, WellFormed}
use Rattle.rules.specs.Rules.{Equal, E0, E1, E2, E3, E4, Apart}
use Rattle.rules.specs.Assignments.{Placement}
use Rattle.rules.proofs.Soundness.{equal_holds}
use Rattle.labels.specs.Labelling.{class_equal}
use Rattle.labels.specs.View.{view}
use Rattle.tables.specs.Records.{variable_kind, is_same_atom}
use Rattle.tables.proofs.TermTable.{length_terms_from, term_from, variable_from, atoms_differ}
use Rattle.tables.proofs.PropositionTable.{proposition_from, block_from, sides_below, well_formed_from}
use Rattle.tables.specs.Sets.{Set, terms_in, propositions_in}
use Rattle.pairbits.specs.Bits.{is_set}
use Rattle.marking.specs.Marks.{Adds, bit_cases, no_bits, zeros}
use Rattle.placing.specs.Apart.{ApartClasses}
use Rattle.columns.specs.Telling.{Labelling}

module _ (S : Set) (reps : List ℕ) (offs : List ℤ) (L : Labelling S reps offs) where
  abbrev ts : List Term
  ts = terms_in S

  abbrev G : Given
  G = listed (terms_in S) (propositions_in S)

  abbrev P : Placement
  P = view reps offs

  pub formed : WellFormed (terms_in S) (listed (terms_in S) (propositions_in S))
  formed = well_formed_from S.terms S.term S.propositions S.proposition L.accepted.terms L.accepted.propositions

  pub count : length (terms_in S) ≡ S.terms
  count = length_terms_from S.terms S.term

  -- representatives are terms, and their own
  pub rep_below : (t : ℕ) → t < S.terms → get_or reps t 0 < S.terms
  rep_below t h = omega (arith, L.canonical.lowest t (omega (arith, count)))

  same_class : {t1 t2 : ℕ} {z : ℤ} → Equal ts G t1 z t2 → get_or reps t1 0 ≡ get_or reps t2 0
  same_class e = (equal_holds ts G P L.canonical.respects e).same_block

  -- what the rules speak of is listed
  equal_within : {t1 t2 : ℕ} {z : ℤ} → Equal ts G t1 z t2 → (t1 < length ts) × (t2 < length ts)
  equal_within (E0 g) = formed.equal_listed g
  equal_within (E1 h) = (h, h)
  equal_within (E2 e) = let r = equal_within e in (r.1, r.0)
  equal_within (E3 e f) = ((equal_within e).0, (equal_within f).1)
  equal_within (E4 {d1 = d1} {d2 = d2} e i j) = (item_below ts d1 i, item_below ts d2 j)

  pub apart_within : {t1 t2 : ℕ} → Apart (terms_in S) (listed (terms_in S) (propositions_in S)) t1 t2 → (t1 < S.terms) × (t2 < S.terms)
  apart_within a = let r = go a in (omega (arith, r.0, count), omega (arith, r.1, count))
    where
      go : {t1 t2 : ℕ} → Apart ts G t1 t2 → (t1 < length ts) × (t2 < length ts)
      go (Apart.given g) = formed.apart_listed g
      go (Apart.symmetry a) = let r = go a in (r.1, r.0)
      go (Apart.closure a e1 e2) = ((equal_within e1).0, (equal_within e2).0)

  -- no variable is listed twice
  earlier_variable : (k i : ℕ) → k < S.terms → i < k → (S.term k).kind ≡ variable_kind → (S.term i).kind ≡ variable_kind → (S.term k).number ≡ (S.term i).number → ⊥
  unfolding is_same_atom
  earlier_variable k i h hi ek ei en =
      let r = S.term k in
      let s = S.term i in
      let yes1 : eqb r.kind variable_kind ≡ true = eq-eqb r.kind variable_kind ek in
      let yes2 : eqb r.kind s.kind ≡ true = eq-eqb r.kind s.kind (ek ∙ sym ei) in
      let yes3 : eqb r.number s.number ≡ true = eq-eqb r.number s.number en in
      let both : ◌≡◌ {A = Bool} true false = rw (yes1, yes2, yes3) at (atoms_differ S.terms S.term L.accepted.terms k i h hi) in
      false_true both refl

  variables_distinct : (i j : ℕ) → i < S.terms → j < S.terms → i ≢ j → (S.term i).kind ≡ variable_kind → (S.term j).kind ≡ variable_kind → (S.term i).number ≢ (S.term j).number
  variables_distinct i j hi hj m ei ej en = go (ltb i j) refl
    where
      go : (t : Bool) → ltb i j ≡ t → ⊥
      go true e = earlier_variable j i hj (ltb-true i j e) ej ei (sym en)
      go false e = let h = ltb-false i j e in earlier_variable i j hi (omega arith) ei ej en

  abbrev Classes : ℕ → ℕ → Type 0
  Classes = ApartClasses S reps

  block_in : (t1 t2 : ℕ) → In (block_disequality t1 t2) (propositions_in S) → Classes (get_or reps t1 0) (get_or reps t2 0)
  block_in t1 t2 i =
      let r = proposition_from S.terms S.propositions S.proposition L.accepted.propositions i.0 i.1 in
      inl (i.0, r.0, (r.1.kind, inl (sym (ap (λ (t : ℕ). get_or reps t 0) r.1.left), sym (ap (λ (t : ℕ). get_or reps t 0) r.1.right))))

  variables_in : (t1 t2 : ℕ) → DistinctVariables ts t1 t2 → Classes (get_or reps t1 0) (get_or reps t2 0)
  variables_in t1 t2 d =
      let a = term_from S.terms S.term L.accepted.terms t1 d.2 in
      let b = term_from S.terms S.term L.accepted.terms t2 d.3 in
      inr (t1, a.0, (t2, b.0, (a.1.kind, (b.1.kind, (λ s. d.4 (same_name d.0 d.1 (rw s at d.2) d.3), (refl, refl))))))
    where
      same_name : (x y : ℕ) → Item ts t2 (variable x) → Item ts t2 (variable y) → x ≡ y
      same_name x y i j = cc

  mirrored : (x y : ℕ) → Classes x y → Classes y x
  mirrored x y (inl (k, h, (e, inl o))) = inl (k, h, (e, inr (o.1, o.0)))
  mirrored x y (inl (k, h, (e, inr o))) = inl (k, h, (e, inl (o.1, o.0)))
  mirrored x y (inr (i, hi, (j, hj, (ei, (ej, (m, o)))))) = inr (j, hj, (i, hi, (ej, (ei, (λ s. m (sym s), (o.1, o.0))))))

  -- apart terms have apart classes
  apart_in : {t1 t2 : ℕ} → Apart ts G t1 t2 → Classes (get_or reps t1 0) (get_or reps t2 0)
  apart_in (Apart.given {t1 = t1} {t2 = t2} g) = ⊎_elim (block_in t1 t2) (variables_in t1 t2) g
  apart_in (Apart.symmetry {t1 = t1} {t2 = t2} a) = mirrored (get_or reps t1 0) (get_or reps t2 0) (apart_in a)
  apart_in (Apart.closure a e1 e2) = rw (same_class e1, same_class e2) (apart_in a)

  -- and the other way round
  moved_apart : (t1 t2 x y : ℕ) → Apart ts G t1 t2 → t1 < S.terms → t2 < S.terms → x < S.terms → y < S.terms → get_or reps x 0 ≡ get_or reps t1 0 → get_or reps y 0 ≡ get_or reps t2 0 → Apart ts G x y
  moved_apart t1 t2 x y a h1 h2 hx hy e1 e2 =
      let size = count in
      Apart.closure a (class_equal ts G P L.canonical.sound {t1 = x} {t2 = t1} (omega arith) (omega arith) e1) (class_equal ts G P L.canonical.sound {t1 = y} {t2 = t2} (omega arith) (omega arith) e2)

  in_apart : (x y : ℕ) → x < S.terms → y < S.terms → Classes (get_or reps x 0) (get_or reps y 0) → Apart ts G x y
  in_apart x y hx hy (inl (k, h, (e, inl o))) =
      let n = sides_below S.terms S.propositions S.proposition L.accepted.propositions k h in
      moved_apart (S.proposition k).left (S.proposition k).right x y (Apart.given (inl (k, block_from S.terms S.propositions S.proposition L.accepted.propositions k h e))) n.0 n.1 hx hy o.0 o.1
  in_apart x y hx hy (inl (k, h, (e, inr o))) =
      let n = sides_below S.terms S.propositions S.proposition L.accepted.propositions k h in
      moved_apart (S.proposition k).right (S.proposition k).left x y (Apart.symmetry (Apart.given (inl (k, block_from S.terms S.propositions S.proposition L.accepted.propositions k h e)))) n.1 n.0 hx hy o.0 o.1
  in_apart x y hx hy (inr (i, hi, (j, hj, (ei, (ej, (m, o)))))) =
      let d = variables_distinct i j hi hj m ei ej in
      moved_apart i j x y
      (Apart.given (inr ((S.term i).number, (S.term j).number, variable_from S.terms S.term L.accepted.terms i hi ei, variable_from S.terms S.term L.accepted.terms j hj ej, d)))
      hi hj hx hy o.0 o.1

  module _ (size : ℕ) {table : List ℕ} (A : Adds S.terms (ApartClasses S reps) (zeros size) table) where
    pub table_apart : (x y : ℕ) → x < S.terms → y < S.terms → is_set table (get_or reps x 0 * S.terms + get_or reps y 0) ≡ true → Apart (terms_in S) (listed (terms_in S) (propositions_in S)) x y
    table_apart x y hx hy e =
        ⊎_elim (λ s. absurd (no_bits size (get_or reps x 0 * S.terms + get_or reps y 0) s))
        (λ (d : Classes (get_or reps x 0) (get_or reps y 0)). in_apart x y hx hy d)
        (bit_cases S.terms Classes A (get_or reps x 0) (get_or reps y 0) (rep_below y hy) e)

    pub apart_table : (x y : ℕ) → x < S.terms → y < S.terms → Apart (terms_in S) (listed (terms_in S) (propositions_in S)) x y → is_set table (get_or reps x 0 * S.terms + get_or reps y 0) ≡ true
    apart_table x y hx hy a = A.added (get_or reps x 0) (get_or reps y 0) (rep_below x hx) (rep_below y hy) (apart_in a)
