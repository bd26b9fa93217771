-- The labels of a set whose marked propositions are kept: what each step keeps of them.
use Rattle.std.specs.Prelude.{ℕ, ◌+◌, ◌<◌, ◌≡◌, ◌≢◌, Bool, true, false, not, List, eqb, ℤ, neg_ℤ, length, get_or}
use Rattle.std.proofs.Common.{◌∙◌, ⊎_elim, arith, eq-eqb, ne_eqb}
use Rattle.lists.specs.Items.{Item, In}
use Rattle.lists.specs.Tabulate.{tabulate, from_zero, select, in_select, select_in}
use Rattle.rules.specs.Terms.{Proposition, Given, listed, WellFormed}
use Rattle.rules.specs.Rules.{E0, Contradiction}
use Rattle.rules.specs.Assignments.{Placement, Holds}
use Rattle.rules.specs.Monotone.{well_formed_less}
use Rattle.labels.specs.Labelling.{equal_conflict}
use Rattle.labels.specs.Relabel.{same_or_not}
use Rattle.labels.specs.Spread.{Spread}
use Rattle.labels.specs.Steps.{State, Step, by_equality, by_congruence, reversed, Bounded, joined_state, joined_spread, Fresh, fresh_state, fresh_spread}
use Rattle.labels.specs.Joins.{Linked, Joined, down, rise, joined_keeps, joined_holds}
use Rattle.outcome.proofs.BlameMinimal.{some_of}
use Rattle.tables.specs.Limits.{offset_limit}
use Rattle.tables.specs.Records.{equality_kind}
use Rattle.tables.proofs.TermTable.{length_terms_from, deref_from}
use Rattle.tables.proofs.PropositionTable.{well_formed_from, bounded_from, sides_below, equality_from}
use Rattle.tables.specs.Sets.{Set, AcceptedSet, terms_in, propositions_in}
use Rattle.unionfind.specs.declared.Joining.{Joining}
use Rattle.unionfind.specs.Forest.{Links, flat, Equated, joined, held, clashed}
use Rattle.joins.specs.Labels.{Labels}
use Rattle.joins.specs.Meeting.{Chain, start, more}

-- proposition k is kept
abbrev pub is_kept : List ℕ → ℕ → Bool
is_kept marks k = not (eqb (get_or marks k 0) 0)

abbrev pub kept_of : Set → List ℕ → List Bool
kept_of S marks = tabulate (is_kept marks) 0 S.propositions

-- the facts of the kept propositions
abbrev pub kept : Set → List ℕ → Given
kept S marks = listed (terms_in S) (select (kept_of S marks) (propositions_in S))

-- labels that are sound, with lowest representatives, and within bounds
pub record LiveAt (S : Set) (marks : List ℕ) (P : Placement) : Type 0 where
  pub state : State (terms_in S) (kept S marks) P
  pub spread : Spread offset_limit S.terms P

pub record Live (S : Set) (marks : List ℕ) (p : List ℕ) (o : List ℤ) : Type 0 where
  pub links : Links p o
  pub count : length p ≡ S.terms
  pub live : LiveAt S marks (flat p o)

module _ (S : Set) (marks : List ℕ) (good : AcceptedSet S) where
  pub kept_well_formed : WellFormed (terms_in S) (kept S marks)
  kept_well_formed =
      well_formed_less (terms_in S) (kept S marks) (listed (terms_in S) (propositions_in S)) (some_of (terms_in S) (propositions_in S) (well_formed_from S.terms S.term S.propositions S.proposition good.terms good.propositions) (kept_of S marks)) (well_formed_from S.terms S.term S.propositions S.proposition good.terms good.propositions)

  kept_bounded : Bounded offset_limit (kept S marks)
  kept_bounded t1 t2 z i = let r = select_in (kept_of S marks) (propositions_in S) i in bounded_from S.terms S.propositions S.proposition good.propositions (terms_in S) t1 t2 z (r.0, r.1)

  pub fresh_live : {p : List ℕ} {o : List ℤ} → Links p o → length p ≡ S.terms → Fresh (length p) (flat p o) → Live S marks p o
  fresh_live {p} {o} L l F =
      let G : Fresh S.terms (flat p o) = rw l at F in
      record {
        links = L;
        count = l;
        live = record {
          state = fresh_state (terms_in S) (kept S marks) (flat p o) (rw (length_terms_from S.terms S.term) G);
          spread = fresh_spread offset_limit S.terms (flat p o) G;
        };
      }

  pub live_labels : {p : List ℕ} {o : List ℤ} → Live S marks p o → Labels S.terms p o
  live_labels L = record { few = good.few_terms; links = L.links; count = L.count; spread = L.live.spread }

  -- a step that joins two classes keeps the labels so
  pub joined_live : {P : Placement} (Q : Placement) {a b : ℕ} {z : ℤ} → Step (terms_in S) (kept S marks) P a z b → Joined S.terms P Q a z b → LiveAt S marks P → LiveAt S marks Q
  joined_live {P} Q {a} {b} {z} s J L = record { state = state J; spread = spread J }
    where
      terms : (x y : ℕ) (w : ℤ) → Linked S.terms P Q x w y → Linked (length (terms_in S)) P Q x w y
      terms x y w R = rw (length_terms_from S.terms S.term) R

      state : Joined S.terms P Q a z b → State (terms_in S) (kept S marks) Q
      state (down h R) = joined_state (terms_in S) (kept S marks) kept_well_formed P Q s (terms a b z R) h L.state
      state (rise h R) = joined_state (terms_in S) (kept S marks) kept_well_formed P Q (reversed s) (terms b a (neg_ℤ z) R) h L.state

      spread : Joined S.terms P Q a z b → Spread offset_limit S.terms Q
      spread (down h R) = rw (length_terms_from S.terms S.term) at (joined_spread (terms_in S) (kept S marks) kept_well_formed P Q s (terms a b z R) h L.state offset_limit kept_bounded (rw (length_terms_from S.terms S.term) L.spread))
      spread (rise h R) = rw (length_terms_from S.terms S.term) at (joined_spread (terms_in S) (kept S marks) kept_well_formed P Q (reversed s) (terms b a (neg_ℤ z) R) h L.state offset_limit kept_bounded (rw (length_terms_from S.terms S.term) L.spread))

  -- and so do joins of dereferences of one address
  pub chain_live : {P Q : Placement} → Chain S.terms S.term P Q → LiveAt S marks P → LiveAt S marks Q
  chain_live start L = L
  chain_live (more {Q = Q} {R = R} {x = x} {y = y} c hx hy s J) L =
      joined_live R (by_congruence (deref_from S.terms S.term good.terms x hx s.deref_x) (deref_from S.terms S.term good.terms y hy s.deref_y) s.block s.position) J (chain_live c L)

-- the kept equalities below p hold
abbrev pub EqualBelow : Set → List ℕ → ℕ → Placement → Type 0
EqualBelow S marks p P =
    (k : ℕ) →
    k < p →
    is_kept marks k ≡ true →
    (S.proposition k).kind ≡ equality_kind →
    Holds P (S.proposition k).left (S.proposition k).offset (S.proposition k).right

-- the labels after proposition k was joined, if it is a kept equality; or a contradiction
pub data Advanced (S : Set) (marks : List ℕ) (P : Placement) (p : List ℕ) (o : List ℤ) (k : ℕ) : Bool → Type 0 where
  on :
      Live S marks p o →
      ((t u : ℕ) (y : ℤ) → t < S.terms → u < S.terms → Holds P t y u → Holds (flat p o) t y u) →
      (is_kept marks k ≡ true → (S.proposition k).kind ≡ equality_kind → Holds (flat p o) (S.proposition k).left (S.proposition k).offset (S.proposition k).right) →
      Advanced S marks P p o k true
  off : Contradiction (terms_in S) (kept S marks) → Advanced S marks P p o k false

-- the labels after the kept equalities below k were joined; or a contradiction
pub data Equalities (S : Set) (marks : List ℕ) (p : List ℕ) (o : List ℤ) (k : ℕ) : Bool → Type 0 where
  agree : Live S marks p o → EqualBelow S marks k (flat p o) → Equalities S marks p o k true
  disagree : Contradiction (terms_in S) (kept S marks) → Equalities S marks p o k false

module _ (S : Set) (marks : List ℕ) (good : AcceptedSet S) where
  -- a kept proposition
  pub kept_in : (k : ℕ) {x : Proposition} → k < S.propositions → Item (propositions_in S) k x → is_kept marks k ≡ true → In x (select (kept_of S marks) (propositions_in S))
  kept_in k h i e = in_select (kept_of S marks) (propositions_in S) k i (rw (from_zero (is_kept marks) S.propositions k false h) e)

  -- a proposition that is dropped, or no equality, changes nothing
  pub advance_none : {p : List ℕ} {o : List ℤ} {k : ℕ} → Live S marks p o → (is_kept marks k ≡ true → (S.proposition k).kind ≡ equality_kind → ⊥) → Advanced S marks (flat p o) p o k true
  advance_none L m = on L (λ t u y ht hu h. h) (λ i e. absurd (m i e))

  module _ {p0 : List ℕ} {o0 : List ℤ} {k : ℕ} (L : Live S marks p0 o0) (h : k < S.propositions) (i : is_kept marks k ≡ true) (e : (S.proposition k).kind ≡ equality_kind) where
    sides : ((S.proposition k).left < S.terms) × ((S.proposition k).right < S.terms)
    sides = sides_below S.terms S.propositions S.proposition good.propositions k h

    -- one that is joined, or holds already
    pub advance_joined : {p : List ℕ} {o : List ℤ} → Equated p0 o0 p o (S.proposition k).left (S.proposition k).offset (S.proposition k).right Joining.Joined → Advanced S marks (flat p0 o0) p o k true
    advance_joined {p} {o} (joined K l J) =
        let M : Joined S.terms (flat p0 o0) (flat p o) (S.proposition k).left (S.proposition k).offset (S.proposition k).right = rw L.count at J in
        let g = kept_in k h (equality_from S.terms S.propositions S.proposition good.propositions k h e) i in
        on
        (record { links = K; count = l ∙ L.count; live = joined_live S marks good (flat p o) (by_equality g) M L.live })
        (λ t u y ht hu q. joined_keeps S.terms (flat p0 o0) (flat p o) _ _ _ sides.0 sides.1 M ht hu q)
        (λ i2 e2. joined_holds S.terms (flat p0 o0) (flat p o) _ _ _ sides.0 sides.1 M)

    pub advance_held : {p : List ℕ} {o : List ℤ} → Equated p0 o0 p o (S.proposition k).left (S.proposition k).offset (S.proposition k).right Joining.Held → Advanced S marks (flat p0 o0) p o k true
    advance_held {p} {o} (held K l s q) =
        on
        (record { links = K; count = l ∙ L.count; live = rw s L.live })
        (λ t u y ht hu q2. rw s q2)
        (λ i2 e2. rw s q)

    pub advance_clashed : {p : List ℕ} {o : List ℤ} → Equated p0 o0 p o (S.proposition k).left (S.proposition k).offset (S.proposition k).right Joining.Clashed → Advanced S marks (flat p0 o0) p o k false
    advance_clashed {p} {o} (clashed K l s b m) =
        let n = length_terms_from S.terms S.term in
        off (equal_conflict (terms_in S) (kept S marks) (flat p0 o0) L.live.state.sound (omega (arith, sides.0, n)) (omega (arith, sides.1, n)) (E0 (kept_in k h (equality_from S.terms S.propositions S.proposition good.propositions k h e) i)) b m)

  -- what the next proposition adds
  pub below_next : {P : Placement} {p : List ℕ} {o : List ℤ} {k : ℕ} → k < S.propositions → EqualBelow S marks k P → Advanced S marks P p o k true → EqualBelow S marks (k + 1) (flat p o)
  below_next {k = k} h B (on L keeps here) j b m e =
      ⊎_elim
      (λ (s : j ≡ k). rw s (here (rw s at m) (rw s at e)))
      (λ (n : j ≢ k).
      let sides = sides_below S.terms S.propositions S.proposition good.propositions j (omega arith) in
      keeps _ _ _ sides.0 sides.1 (B j (omega arith) m e))
      (same_or_not j k)

  pub equalities_next : {p0 : List ℕ} {o0 : List ℤ} {p : List ℕ} {o : List ℤ} {k : ℕ} → k < S.propositions → Equalities S marks p0 o0 k true → Advanced S marks (flat p0 o0) p o k true → Equalities S marks p o (k + 1) true
  equalities_next h (agree L B) (on M keeps here) = agree M (below_next h B (on M keeps here))

  pub equalities_start : {p : List ℕ} {o : List ℤ} → Live S marks p o → Equalities S marks p o 0 true
  equalities_start L = agree L (λ j b. absurd (omega arith))

  pub equalities_live : {p : List ℕ} {o : List ℤ} {k : ℕ} → Equalities S marks p o k true → Live S marks p o
  equalities_live (agree L B) = L

  pub equalities_below : {p : List ℕ} {o : List ℤ} {k : ℕ} → Equalities S marks p o k true → EqualBelow S marks k (flat p o)
  equalities_below (agree L B) = B

  pub equalities_off : {p : List ℕ} {o : List ℤ} {k : ℕ} → Equalities S marks p o k false → Contradiction (terms_in S) (kept S marks)
  equalities_off (disagree c) = c

  pub advanced_off : {P : Placement} {p q : List ℕ} {o r : List ℤ} {j k : ℕ} → Advanced S marks P p o k false → Equalities S marks q r j false
  advanced_off (off c) = disagree c

pub dropped : (marks : List ℕ) (k : ℕ) → get_or marks k 0 ≡ 0 → is_kept marks k ≡ true → ⊥
dropped marks k e t = let f : is_kept marks k ≡ false = rw (eq-eqb (get_or marks k 0) 0 e) in let z : ◌≡◌ {A = ℕ} 0 1 = cc in omega arith

pub marked : (marks : List ℕ) (k : ℕ) → get_or marks k 0 ≢ 0 → is_kept marks k ≡ true
marked marks k m = rw (ne_eqb (get_or marks k 0) 0 m)
