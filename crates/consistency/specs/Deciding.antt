-- The verdict on the kept propositions: the closed labels are an assignment, or a fact contradicts them.
use Rattle.std.specs.Prelude.{ℕ, ◌<◌, refl, ◌≢◌, Bool, false, not, List, eqb, ltb, ℤ, length, get_or}
use Rattle.std.proofs.Math.Path.{◌≡◌, sym}
use Rattle.std.proofs.Common.{◌∙◌, ap, inl, inr, ⊎_elim}
use Rattle.std.proofs.Math.Bool.{true}
use native.Mathlib.Omega.{arith}
use borrow.Author.Tests.{eq-eqb, eqb-true, eqb-false, ltb-true, ltb-false}
use Rattle.lists.specs.Items.{In}
use Rattle.lists.specs.Tabulate.{from_zero, select, select_in}
use Rattle.rules.specs.Terms.{Proposition, block_disequality, DistinctVariables}
use Rattle.rules.specs.Rules.{Contradiction}
use Rattle.rules.specs.Assignments.{Placement, Holds, Assignment}
use Rattle.labels.specs.Labelling.{deref_equal, equal_conflict, unequal_conflict, apart_conflict}
use Rattle.labels.specs.View.{view}
use Rattle.closure.specs.Facts.{comparison}
use Rattle.closure.specs.Verdict.{holds}
use Rattle.closure.proofs.Verdict.{holds_true, true_holds}
use Rattle.tables.specs.Records.{TermRecord, PropositionRecord, variable_kind, disequality_kind, block_disequality_kind, is_same_atom}
use Rattle.tables.specs.Stands.{Asserts}
use Rattle.tables.proofs.TermTable.{length_terms_from, term_from, deref_from, variable_from, atoms_differ}
use Rattle.tables.proofs.PropositionTable.{sides_below, proposition_from, disequality_from, block_from}
use Rattle.tables.specs.Sets.{Set, AcceptedSet, terms_in, propositions_in}
use Rattle.consistency.specs.Live.{is_kept, kept_of, kept, LiveAt, EqualBelow, Equalities, kept_well_formed, kept_in, chain_live, equalities_live, equalities_below}
use Rattle.joins.specs.Meeting.{Clash, chain_keeps}
use Rattle.congruence.specs.Closing.{Agree, Closing, closed, clash}

-- a kept disequality or block disequality contradicts the labels, or not
pub data Judged (rec : ℕ → PropositionRecord) (marks : List ℕ) (P : Placement) (k : ℕ) : Bool → Type 0 where
  wrong_disequality : is_kept marks k ≡ true → (rec k).kind ≡ disequality_kind → Holds P (rec k).left (rec k).offset (rec k).right → Judged rec marks P k true
  wrong_blocks : is_kept marks k ≡ true → (rec k).kind ≡ block_disequality_kind → P.block (rec k).left ≡ P.block (rec k).right → Judged rec marks P k true
  right :
      (is_kept marks k ≡ true → (rec k).kind ≡ disequality_kind → Holds P (rec k).left (rec k).offset (rec k).right → ⊥) →
      (is_kept marks k ≡ true → (rec k).kind ≡ block_disequality_kind → P.block (rec k).left ≡ P.block (rec k).right → ⊥) →
      Judged rec marks P k false

pub data Refuted (m : ℕ) (rec : ℕ → PropositionRecord) (marks : List ℕ) (P : Placement) : Bool → Type 0 where
  refuted : {k : ℕ} → k < m → Judged rec marks P k true → Refuted m rec marks P true
  upheld : ((k : ℕ) → k < m → Judged rec marks P k false) → Refuted m rec marks P false

pub judged_disequality :
    {rec : ℕ → PropositionRecord} {marks : List ℕ} {P : Placement} {k : ℕ} →
    is_kept marks k ≡ true →
    (rec k).kind ≡ disequality_kind →
    (r : Bool) →
    r ≡ holds P (comparison (rec k).left (rec k).offset (rec k).right) →
    Judged rec marks P k r
judged_disequality {rec} {marks} {P} {k} i e true q = wrong_disequality i e (holds_true P _ (sym q))
judged_disequality {rec} {marks} {P} {k} i e false q =
    right
    (λ j f h. let t = true_holds P (comparison (rec k).left (rec k).offset (rec k).right) h in let z : ◌≡◌ {A = ℕ} 0 1 = cc in omega arith)
    (λ j f. absurd (omega arith))

pub judged_blocks :
    {rec : ℕ → PropositionRecord} {marks : List ℕ} {P : Placement} {k : ℕ} →
    is_kept marks k ≡ true →
    (rec k).kind ≡ block_disequality_kind →
    (r : Bool) →
    r ≡ eqb (P.block (rec k).left) (P.block (rec k).right) →
    Judged rec marks P k r
judged_blocks i e true q = wrong_blocks i e (eqb-true _ _ (sym q))
judged_blocks i e false q = right (λ j f. absurd (omega arith)) (λ j f b. eqb-false _ _ (sym q) b)

-- two variables are in one class, or none
pub data Meets (n : ℕ) (rec : ℕ → TermRecord) (reps : List ℕ) : Bool → Type 0 where
  meet : {i j : ℕ} → i < n → j < i → (rec i).kind ≡ variable_kind → (rec j).kind ≡ variable_kind → get_or reps i 0 ≡ get_or reps j 0 → Meets n rec reps true
  none_meet : ((i j : ℕ) → i < n → j < i → (rec i).kind ≡ variable_kind → (rec j).kind ≡ variable_kind → get_or reps i 0 ≡ get_or reps j 0 → ⊥) → Meets n rec reps false

-- the verdict: the labels are an assignment, or there is a contradiction
pub data Decided (S : Set) (marks : List ℕ) (reps : List ℕ) (offs : List ℤ) : Bool → Type 0 where
  consistent :
      length reps ≡ S.terms →
      length offs ≡ S.terms →
      LiveAt S marks (view reps offs) →
      Assignment (terms_in S) (kept S marks) (view reps offs) →
      Decided S marks reps offs true
  contradictory : Contradiction (terms_in S) (kept S marks) → Decided S marks reps offs false

module _ (S : Set) (marks : List ℕ) (good : AcceptedSet S) where
  listed_side : {t : ℕ} → t < S.terms → t < length (terms_in S)
  listed_side h = omega (arith, length_terms_from S.terms S.term)

  pub judged_fails : {P : Placement} {k : ℕ} → LiveAt S marks P → k < S.propositions → Judged S.proposition marks P k true → Contradiction (terms_in S) (kept S marks)
  judged_fails {P} {k} L h (wrong_disequality i e q) =
      let s = sides_below S.terms S.propositions S.proposition good.propositions k h in
      unequal_conflict (terms_in S) (kept S marks) P L.state.sound (listed_side s.0) (listed_side s.1) (kept_in S marks good k h (disequality_from S.terms S.propositions S.proposition good.propositions k h e) i) q
  judged_fails {P} {k} L h (wrong_blocks i e q) =
      let s = sides_below S.terms S.propositions S.proposition good.propositions k h in
      apart_conflict (terms_in S) (kept S marks) P L.state.sound (listed_side s.0) (listed_side s.1) (inl (kept_in S marks good k h (block_from S.terms S.propositions S.proposition good.propositions k h e) i)) q

  pub refuted_fails : {P : Placement} → LiveAt S marks P → Refuted S.propositions S.proposition marks P true → Contradiction (terms_in S) (kept S marks)
  refuted_fails L (refuted h j) = judged_fails L h j

  clash_fails : {P : Placement} {x y : ℕ} → LiveAt S marks P → Clash S.terms S.term P x y → Contradiction (terms_in S) (kept S marks)
  clash_fails {P} {x} {y} L C =
      let s = C.same in
      equal_conflict (terms_in S) (kept S marks) P L.state.sound (listed_side C.below_x) (listed_side C.below_y)
      (deref_equal (terms_in S) (kept S marks) P L.state.sound (kept_well_formed S marks good) (deref_from S.terms S.term good.terms x C.below_x s.deref_x) (deref_from S.terms S.term good.terms y C.below_y s.deref_y) s.block s.position)
      C.together
      (λ k. C.unequal (record { same_block = C.together; at_offset = k }))

  -- two variables are two atoms
  names_differ : {i j : ℕ} → i < S.terms → j < i → (S.term i).kind ≡ variable_kind → (S.term j).kind ≡ variable_kind → (S.term i).number ≢ (S.term j).number
  unfolding is_same_atom
  names_differ {i} {j} hi hj ki kj e =
      let once = atoms_differ S.terms S.term good.terms i j hi hj in
      let same : is_same_atom (S.term i) (S.term j) ≡ true =
      rw (eq-eqb _ _ ki, eq-eqb _ _ (ki ∙ sym kj), eq-eqb _ _ e) in
      let z : ◌≡◌ {A = ℕ} 0 1 = cc in
      omega arith

  pub meet_fails : {reps : List ℕ} (offs : List ℤ) → LiveAt S marks (view reps offs) → Meets S.terms S.term reps true → Contradiction (terms_in S) (kept S marks)
  meet_fails {reps} offs L (meet {i = i} {j = j} hi hj ki kj b) =
      apart_conflict (terms_in S) (kept S marks) (view reps offs) L.state.sound (listed_side hi) (listed_side (omega arith))
      (inr ((S.term i).number, (S.term j).number, variable_from S.terms S.term good.terms i hi ki, variable_from S.terms S.term good.terms j (omega arith) kj, names_differ hi hj ki kj))
      b

  -- a kept proposition of the set, and the record that asserts it
  kept_at : {x : Proposition} → In x (select (kept_of S marks) (propositions_in S)) → (k : ℕ) × (k < S.propositions) × Asserts (S.proposition k) x × (is_kept marks k ≡ true)
  kept_at i =
      let r = select_in (kept_of S marks) (propositions_in S) i in
      let a = proposition_from S.terms S.propositions S.proposition good.propositions r.0 r.1 in
      (r.0, a.0, a.1, sym (from_zero (is_kept marks) S.propositions r.0 false a.0) ∙ r.2)

  not_disequality : {P : Placement} {k : ℕ} → Judged S.proposition marks P k false → is_kept marks k ≡ true → (S.proposition k).kind ≡ disequality_kind → Holds P (S.proposition k).left (S.proposition k).offset (S.proposition k).right → ⊥
  not_disequality (right d b) = d

  not_blocks : {P : Placement} {k : ℕ} → Judged S.proposition marks P k false → is_kept marks k ≡ true → (S.proposition k).kind ≡ block_disequality_kind → P.block (S.proposition k).left ≡ P.block (S.proposition k).right → ⊥
  not_blocks (right d b) = b

  variables_apart : {reps : List ℕ} (t1 t2 : ℕ) → Meets S.terms S.term reps false → DistinctVariables (terms_in S) t1 t2 → get_or reps t1 0 ≡ get_or reps t2 0 → ⊥
  variables_apart {reps} t1 t2 (none_meet M) (x, y, i, j, m) b =
      let a1 = term_from S.terms S.term good.terms t1 i in
      let a2 = term_from S.terms S.term good.terms t2 j in
      order (ltb t2 t1) refl (ltb t1 t2) refl a1.0 a2.0 a1.1.kind a2.1.kind (λ s. m (sym a1.1.number ∙ ap (λ (t : ℕ). (S.term t).number) s ∙ a2.1.number))
    where
      order : (p : Bool) → ltb t2 t1 ≡ p → (q : Bool) → ltb t1 t2 ≡ q → t1 < S.terms → t2 < S.terms → (S.term t1).kind ≡ variable_kind → (S.term t2).kind ≡ variable_kind → (t1 ≡ t2 → ⊥) → ⊥
      order true e q f h1 h2 k1 k2 n = M t1 t2 h1 (ltb-true t2 t1 e) k1 k2 b
      order false e true f h1 h2 k1 k2 n = M t2 t1 h2 (ltb-true t1 t2 f) k2 k1 (sym b)
      order false e false f h1 h2 k1 k2 n = n (omega (arith, ltb-false t2 t1 e, ltb-false t1 t2 f))

  -- labels that agree with every kept fact are an assignment
  assignment :
      {reps : List ℕ} (offs : List ℤ) →
      EqualBelow S marks S.propositions (view reps offs) →
      Agree S.terms S.term (view reps offs) →
      Refuted S.propositions S.proposition marks (view reps offs) false →
      Meets S.terms S.term reps false →
      Assignment (terms_in S) (kept S marks) (view reps offs)
  assignment {reps} offs E C (upheld J) M = record {
    respects = record {
      equal = λ i. let r = kept_at i in rw (r.2.left, r.2.offset, r.2.right) at (E r.0 r.1 r.3 r.2.kind);
      congruent = λ {t1} {t2} {d1} {d2} {z1} {z2} i j b p.
          let a1 = term_from S.terms S.term good.terms d1 i in
          let a2 = term_from S.terms S.term good.terms d2 j in
          C d1 d2 a1.0 a2.0
          (record { deref_x = a1.1.kind; deref_y = a2.1.kind; block = rw (a1.1.number, a2.1.number) b; position = rw (a1.1.number, a2.1.number, a1.1.offset, a2.1.offset) p });
    };
    unequal = λ i h. let r = kept_at i in not_disequality (J r.0 r.1) r.3 r.2.kind (rw (r.2.left, r.2.offset, r.2.right) h);
    apart = λ {t1} {t2} g b. ⊎_elim
        (λ (i : In (block_disequality t1 t2) (select (kept_of S marks) (propositions_in S))).
        let r = kept_at i in
        not_blocks (J r.0 r.1) r.3 r.2.kind (rw (r.2.left, r.2.right) b))
        (λ (v : DistinctVariables (terms_in S) t1 t2). variables_apart t1 t2 M v b)
        g;
  }

  -- after the closure: the labels in columns, the equalities and the dereferences
  pub record Closure (reps : List ℕ) (offs : List ℤ) : Type 0 where
    pub reps_count : length reps ≡ S.terms
    pub offs_count : length offs ≡ S.terms
    pub live : LiveAt S marks (view reps offs)
    pub below : EqualBelow S marks S.propositions (view reps offs)
    pub agree : Agree S.terms S.term (view reps offs)

  pub closing_on : {p0 p : List ℕ} {o0 o : List ℤ} → Equalities S marks p0 o0 S.propositions true → Closing S.terms S.term p0 o0 p o true → Closure p o
  closing_on E (closed c L l v A) = record {
    reps_count = L.count;
    offs_count = L.links.same_length ∙ L.count;
    live = rw v (chain_live S marks good c (equalities_live S marks good E).live);
    below = rw v (λ k b m e.
        let s = sides_below S.terms S.propositions S.proposition good.propositions k b in
        chain_keeps S.terms S.term c s.0 s.1 (equalities_below S marks good E k b m e));
    agree = rw v A;
  }

  pub closing_off : {p0 p : List ℕ} {o0 o : List ℤ} → Equalities S marks p0 o0 S.propositions true → Closing S.terms S.term p0 o0 p o false → Contradiction (terms_in S) (kept S marks)
  closing_off E (clash c l C) = clash_fails (chain_live S marks good c (equalities_live S marks good E).live) C

  -- the last test
  pub decided : {reps : List ℕ} {offs : List ℤ} → Closure reps offs → Refuted S.propositions S.proposition marks (view reps offs) false → (r : Bool) → Meets S.terms S.term reps r → Decided S marks reps offs (not r)
  decided {reps} {offs} C R true M = contradictory (meet_fails offs C.live M)
  decided {reps} {offs} C R false M = consistent C.reps_count C.offs_count C.live (assignment offs C.below C.agree R M)
