-- A frame after the records read so far, which the code holds by their counts and rows.
use Rattle.std.specs.Prelude.{ℕ, ◌<◌, ◌≡◌, refl, Bool, true, false, List, [], ◌∷◌, map, leb, length, take, get_or, Result, Ok, Err, Some, None}
use Rattle.std.specs.Prelude as rust
use Rattle.std.proofs.Common.{ap, sym, ◌∙◌, arith, get_or-take}
use Rattle.std.proofs.Math.Option.{Option, none, some}
use borrow.Author.Tests.{eq-eqb, ne_eqb, lt-leb}
use Rattle.lists.specs.Items.{Item, In, item_below, get_d_item, item_map}
use Rattle.lists.specs.Search.{any, any_true, any_in}
use Rattle.types.specs.declared.Refusal.{Refusal}
use Rattle.types.specs.declared.Refusal.TheVariants.{InnerNotListed, AtomListedTwice, Malformed}
use Rattle.tables.specs.Limits.{most}
use Rattle.tables.specs.Records.{TermRecord, deref_kind, is_same_atom}
use Rattle.tables.specs.Refusals.{refuse_if, term_name_fault}
use Rattle.tables.specs.Rows.{Row, term_of_row, row_of_term, term_in}
use Rattle.text.specs.Frames.{Frame, term}
use Rattle.text.specs.Reading.{Records, is_empty, frame_fault}
use Rattle.lines.specs.declared.Frame.{Frame as Judged}
use Rattle.lines.specs.declared.Frame.TheVariants.{Term, Proposition, Question}
use Rattle.types.specs.declared.Counts.{Counts}

-- the refusal of an answer, or none
abbrev pub refusal_of : {A : Type 0} → Result A Refusal → Option Refusal
refusal_of (Ok a) = none
refusal_of (Err r) = some r

-- 9 first
abbrev pub frame_refusal : Records → Option Frame → Option Refusal
frame_refusal R none = some Malformed
frame_refusal R (some f) = frame_fault R f

-- the records of a frame's own table
abbrev pub group_count : Counts → rust.Option Judged → ℕ
group_count c (Some (Term r)) = c.terms
group_count c (Some (Proposition p)) = c.propositions
group_count c (Some (Question q)) = c.questions
group_count c None = 0

-- the frame's table, with n records, has room for its record if the frame is accepted
abbrev Admits : {A : Type 0} → Result A Refusal → ℕ → Type 0
Admits (Ok a) n = n < most
Admits (Err r) n = Unit

-- an answer r, for a frame whose table has n records
pub record Took {A : Type 0} (n : ℕ) (r : Result A Refusal) (Fault : Type 0) : Type 0 where
  pub room : Admits r n
  pub fault : Fault

-- the counts are those of the records
pub record Counted (c : Counts) (R : Records) : Type 0 where
  pub terms : c.terms ≡ length R.terms
  pub propositions : c.propositions ≡ length R.propositions
  pub questions : c.questions ≡ length R.questions

-- the rows start with those of the term records
abbrev pub Listing : List Row → List TermRecord → Type 0
Listing rows rs = take (length rs) rows ≡ map row_of_term rs

pub empty : {A : Type 0} (l : List A) → length l ≡ 0 → is_empty l ≡ true
empty [] e = refl
empty (x ∷ l) e = absurd (omega arith)

pub nonempty : {A : Type 0} (l : List A) → 0 < length l → is_empty l ≡ false
nonempty [] h = absurd (omega arith)
nonempty (x ∷ l) h = refl

module _ {A : Type 0} (p : A → Bool) (l : List A) where
  -- no item passes the test
  pub any_none : ((x : A) → In x l → p x ≡ false) → any p l ≡ false
  any_none f = go (any p l) refl
    where
      go : (b : Bool) → any p l ≡ b → b ≡ false
      go true e =
          let r = any_true p l e in
          let n = f r.0 r.1 in
          let y = r.2 in
          let z : ◌≡◌ {A = ℕ} 0 1 = cc in
          absurd (omega arith)
      go false e = refl

module _ (rows : List Row) (rs : List TermRecord) (L : Listing rows rs) (r : TermRecord) where
  row_at : (k : ℕ) (x : TermRecord) → Item rs k x → get_or rows k [] ≡ row_of_term x
  row_at k x i =
      sym (get_or-take (length rs) rows k [] (item_below rs k i)) ∙ ap (λ (l : List Row). get_or l k []) L ∙ item_map row_of_term rs k [] i

  same_at : (k : ℕ) (x : TermRecord) → Item rs k x → is_same_atom r (term_in rows k) ≡ is_same_atom r x
  unfolding term_of_row row_of_term is_same_atom
  same_at k x i = rw (row_at k x i)

  pub listed_here : (k : ℕ) → k < length rs → is_same_atom r (term_in rows k) ≡ true → any (is_same_atom r) rs ≡ true
  listed_here k h e =
      let x = get_or rs k r in
      let i : Item rs k x = get_d_item rs k r h in
      any_in (is_same_atom r) rs x (k, i) (sym (same_at k x i) ∙ e)

  pub listed_nowhere : ((k : ℕ) → k < length rs → is_same_atom r (term_in rows k) ≡ false) → any (is_same_atom r) rs ≡ false
  listed_nowhere f = any_none (is_same_atom r) rs (λ x i. sym (same_at i.0 x i.1) ∙ f i.0 (item_below rs i.0 i.1))

-- a term record in its place and within the limit: what is left are its names
module _ (R : Records) (t : TermRecord) (first : length R.propositions ≡ 0) (second : length R.questions ≡ 0) (room : length R.terms < most) where
  term_named : frame_fault R (term t) ≡ term_name_fault R.terms t
  unfolding frame_fault
  term_named = simp (empty R.propositions first, empty R.questions second, lt-leb most (length R.terms) room)

  pub inner_unlisted : t.kind ≡ deref_kind → leb (length R.terms) t.number ≡ true → frame_fault R (term t) ≡ some InnerNotListed
  unfolding term_name_fault
  inner_unlisted k e = term_named ∙ rw (eq-eqb t.kind deref_kind k, e)

  pub inner_listed : t.kind ≡ deref_kind → leb (length R.terms) t.number ≡ false → frame_fault R (term t) ≡ none
  unfolding term_name_fault is_same_atom
  inner_listed k e = term_named ∙ rw (eq-eqb t.kind deref_kind k, e, any_none (is_same_atom t) R.terms (λ x i. rw k))

  pub no_inner : (t.kind ≡ deref_kind → ⊥) → frame_fault R (term t) ≡ refuse_if (any (is_same_atom t) R.terms) AtomListedTwice
  unfolding term_name_fault
  no_inner k = term_named ∙ rw (ne_eqb t.kind deref_kind k)
