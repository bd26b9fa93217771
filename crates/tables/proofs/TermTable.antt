-- Laws of specs/TermTable.
use Rattle.std.specs.Prelude.{ℕ, ◌<◌, ◌≤◌, ◌≡◌, ◌≢◌, ◌&&◌, ℤ, length, get_or}
use Rattle.std.proofs.Common.{sym, ◌∙◌, ap, ⊎_elim, arith, SFits}
use Rattle.std.proofs.Math.Bool.{false}
use Rattle.std.proofs.Math.Option.{Option, none, some}
use Rattle.std.proofs.Math.Dec.{eqb, leb}
use Rattle.std.specs.Int.{w32}
use borrow.Author.Tests.{eq-eqb, leb-false}
use Rattle.lists.specs.Items.{Item, item_below, item_get_d, get_d_item}
use Rattle.lists.specs.Search.{any, any_false}
use Rattle.lists.specs.Tabulate.{tabulate, length_tabulate, from_zero, tabulate_ext}
use Rattle.types.specs.declared.Refusal.TheVariants.{InnerNotListed, AtomListedTwice}
use Rattle.rules.specs.Terms.{Term, variable, auxiliary, deref}
use Rattle.labels.specs.Relabel.{same_or_not}
use Rattle.integers.specs.Within.{Within}
use Rattle.tables.specs.Limits.{atom_limit, offset_limit}
use Rattle.tables.specs.Records.{TermRecord, variable_kind, deref_kind, term_of, is_same_atom, or_default}
use Rattle.tables.specs.Stands.{StandsFor}
use Rattle.tables.proofs.Stands.{stands_for, deref_within, deref_by_kind, variable_by_kind, kind_at_most}
use Rattle.tables.specs.Refusals.{refuse_if, malformed, term_name_fault, term_fault}
use Rattle.tables.specs.RefusalLaws.{or_else_none, refuse_if_none, malformed_none}
use Rattle.tables.specs.TermTable.{terms_from, AcceptedTerms}

pub default_some : {A : Type 0} (d : A) (o : Option A) (x a : A) → o ≡ some a → x ≡ or_default d o → o ≡ some x
default_some d none x a e f = cc
default_some d (some b) x a e f = ap some (sym f)

pub length_terms_from : (n : ℕ) (rec : ℕ → TermRecord) → length (terms_from n rec) ≡ n
unfolding terms_from
length_terms_from n rec = length_tabulate (λ k. or_default (auxiliary 0) (term_of (rec k))) 0 n

-- records that are the same stand for the same terms
pub terms_from_ext : (n : ℕ) (f g : ℕ → TermRecord) → ((k : ℕ) → k < n → f k ≡ g k) → terms_from n f ≡ terms_from n g
unfolding terms_from
terms_from_ext n f g same = tabulate_ext _ _ 0 n (λ k h. ap (λ (r : TermRecord). or_default (auxiliary 0) (term_of r)) (same k (omega arith)))

module _ (n : ℕ) (rec : ℕ → TermRecord) (accepted : AcceptedTerms n rec) where
  -- a term of the set, and the record that stands for it
  pub term_from : (k : ℕ) {x : Term} → Item (terms_from n rec) k x → (k < n) × StandsFor (rec k) x
  unfolding terms_from term_fault
  term_from k {x} i =
      let h : k < n = omega (arith, item_below (terms_from n rec) k i, length_terms_from n rec) in
      let well = malformed_none (term_of (rec k)) (or_else_none _ _ (accepted k h)).0 in (
        h,
        stands_for (rec k) x
            (default_some (auxiliary 0) (term_of (rec k)) x well.0 well.1
            (sym (item_get_d (terms_from n rec) k (auxiliary 0) i) ∙ from_zero (λ j. or_default (auxiliary 0) (term_of (rec j))) n k (auxiliary 0) h)),
      )

  -- and back
  pub from_term : (k : ℕ) → k < n → (x : Term) × Item (terms_from n rec) k x × StandsFor (rec k) x
  from_term k h =
      let x = get_or (terms_from n rec) k (auxiliary 0) in
      let i = get_d_item (terms_from n rec) k (auxiliary 0) (omega (arith, length_terms_from n rec)) in
      (x, i, (term_from k i).1)

  pub deref_from : (k : ℕ) → k < n → (rec k).kind ≡ deref_kind → Item (terms_from n rec) k (deref (rec k).offset (rec k).number)
  deref_from k h e =
      let r = from_term k h in
      rw (r.2.offset, r.2.number) (r.1 ∙ ap some (deref_by_kind r.0 (sym r.2.kind ∙ e)))

  pub variable_from : (k : ℕ) → k < n → (rec k).kind ≡ variable_kind → Item (terms_from n rec) k (variable (rec k).number)
  variable_from k h e =
      let r = from_term k h in
      rw r.2.number (r.1 ∙ ap some (variable_by_kind r.0 (sym r.2.kind ∙ e)))

  pub inner_before : (k : ℕ) → k < n → (rec k).kind ≡ deref_kind → (rec k).number < k
  unfolding term_fault term_name_fault
  inner_before k h d =
      let r = rec k in
      let earlier = tabulate rec 0 k in
      let late = eqb r.kind deref_kind && leb (length earlier) r.number in
      let twice = refuse_if (any (is_same_atom r) earlier) AtomListedTwice in
      let f = (or_else_none (malformed (term_of r)) (term_name_fault earlier r) (accepted k h)).1 in
      let e : late ≡ false = refuse_if_none late InnerNotListed (or_else_none (refuse_if late InnerNotListed) twice f).0 in
      let m : leb (length earlier) r.number ≡ false = rw (eq-eqb r.kind deref_kind d) at e in
      omega (arith, leb-false (length earlier) r.number m, length_tabulate rec 0 k)

  -- the offset of a dereference is within the limit
  pub offset_within : (k : ℕ) → k < n → (rec k).kind ≡ deref_kind → Within offset_limit (rec k).offset
  unfolding term_fault
  offset_within k h e =
      let well = malformed_none (term_of (rec k)) (or_else_none _ _ (accepted k h)).0 in
      deref_within (rec k) well.0 well.1 e

  -- bounds of a record's fields
  pub term_kind_below : (k : ℕ) → k < n → (rec k).kind ≤ deref_kind
  term_kind_below k h = let r = from_term k h in omega (arith, r.2.kind, kind_at_most r.0)

  pub term_number_below : (k : ℕ) → k < n → n ≤ atom_limit → (rec k).number < atom_limit
  term_number_below k h few =
      ⊎_elim
      (λ (e : (rec k).kind ≡ deref_kind). omega (arith, inner_before k h e))
      (λ (m : (rec k).kind ≢ deref_kind). (from_term k h).2.atom m)
      (same_or_not (rec k).kind deref_kind)

  pub term_offset_fits : (k : ℕ) → k < n → SFits w32 (rec k).offset
  term_offset_fits k h = (from_term k h).2.fits

  -- no atom is listed twice
  pub atoms_differ : (k j : ℕ) → k < n → j < k → is_same_atom (rec k) (rec j) ≡ false
  unfolding term_fault term_name_fault
  atoms_differ k j h l =
      let r = rec k in
      let earlier = tabulate rec 0 k in
      let late = eqb r.kind deref_kind && leb (length earlier) r.number in
      let twice = any (is_same_atom r) earlier in
      let f = (or_else_none (malformed (term_of r)) (term_name_fault earlier r) (accepted k h)).1 in
      let e : twice ≡ false = refuse_if_none twice AtomListedTwice (or_else_none (refuse_if late InnerNotListed) (refuse_if twice AtomListedTwice) f).1 in
      let i = get_d_item earlier j r (omega (arith, length_tabulate rec 0 k)) in
      any_false (is_same_atom r) earlier e (rec j) (j, rw (from_zero rec k j r l) at i)

  -- a dereference of the set names an earlier term
  pub deref_earlier : {d t : ℕ} {z : ℤ} → Item (terms_from n rec) d (deref z t) → t < d
  deref_earlier {d} i =
      let r = term_from d i in
      omega (arith, r.1.number, inner_before d r.0 r.1.kind)
