-- A term record's faults in two searches: for its own, and for an atom that is listed again.
use Rattle.std.specs.Prelude.{ℕ, zero, suc, ◌+◌, ◌<◌, ◌≡◌, refl, Bool, true, false, ◌&&◌, ◌||◌, eqb, leb}
use Rattle.std.specs.List.{list_any, range_with_len}
use Rattle.std.proofs.Common.{sym, ◌∙◌, arith}
use Rattle.std.proofs.Math.Option.{Option, none, some}
use Rattle.lists.specs.Items.{Item, item_below, item_get_d, get_d_item}
use Rattle.lists.specs.Search.{choose, is_some, find, any, any_true, any_in}
use Rattle.lists.specs.Tabulate.{tabulate, length_tabulate, from_zero}
use Rattle.types.specs.declared.Refusal.{Refusal}
use Rattle.types.specs.declared.Refusal.TheVariants.{InnerNotListed, AtomListedTwice}
use Rattle.tables.specs.Records.{TermRecord, deref_kind, term_of, is_same_atom}
use Rattle.tables.specs.Refusals.{or_else, refuse_if, malformed, term_fault, term_name_fault, first_fault}
use Rattle.tables.specs.TermTable.{term_fault_at, terms_fault}
use Rattle.refusals.specs.FirstFault.{first_ext}

-- the fault of term record r, with k records before it, whatever these are
unfoldable pub own_fault : ℕ → TermRecord → Option Refusal
own_fault k r = or_else (malformed (term_of r)) (refuse_if (eqb r.kind deref_kind && leb k r.number) InnerNotListed)

abbrev pub own_fault_at : (ℕ → TermRecord) → ℕ → Option Refusal
own_fault_at rec k = own_fault k (rec k)

-- record k lists an atom again
abbrev pub repeated : (ℕ → TermRecord) → ℕ → Bool
repeated rec k = any (is_same_atom (rec k)) (tabulate rec 0 k)

abbrev pub repeat_fault_at : (ℕ → TermRecord) → ℕ → Option Refusal
repeat_fault_at rec k = refuse_if (repeated rec k) AtomListedTwice

-- record i lists no atom again if it is of none of the earlier records
module _ (rec : ℕ → TermRecord) (i : ℕ) where
  tabulated : (j : ℕ) → j < i → Item (tabulate rec 0 i) j (rec j)
  tabulated j h = rw (from_zero rec i j (rec 0) h) at (get_d_item (tabulate rec 0 i) j (rec 0) (omega (arith, length_tabulate rec 0 i)))

  pub not_repeated : ((j : ℕ) → j < i → is_same_atom (rec i) (rec j) ≡ false) → repeated rec i ≡ false
  not_repeated before = go (repeated rec i) refl
    where
      go : (b : Bool) → repeated rec i ≡ b → b ≡ false
      go false e = refl
      go true e =
          let w = any_true (is_same_atom (rec i)) (tabulate rec 0 i) e in
          let j = w.1.0 in
          let h : j < i = omega (arith, item_below (tabulate rec 0 i) j w.1.1, length_tabulate rec 0 i) in
          let x : w.0 ≡ rec j = sym (item_get_d (tabulate rec 0 i) j (rec 0) w.1.1) ∙ from_zero rec i j (rec 0) h in
          let t : is_same_atom (rec i) (rec j) ≡ true = rw x at w.2 in
          let n : is_same_atom (rec i) (rec j) ≡ false = before j h in
          cc

  pub repeats : (j : ℕ) → j < i → is_same_atom (rec i) (rec j) ≡ true → repeat_fault_at rec i ≡ some AtomListedTwice
  repeats j h e = rw (any_in (is_same_atom (rec i)) (tabulate rec 0 i) (rec j) (j, tabulated j h) e)

  pub no_repeat : ((j : ℕ) → j < i → is_same_atom (rec i) (rec j) ≡ false) → repeat_fault_at rec i ≡ none
  no_repeat before = go (repeated rec i) refl
    where
      go : (b : Bool) → repeated rec i ≡ b → refuse_if b AtomListedTwice ≡ none
      go false e = refl
      go true e =
          let w = any_true (is_same_atom (rec i)) (tabulate rec 0 i) e in
          let j = w.1.0 in
          let h : j < i = omega (arith, item_below (tabulate rec 0 i) j w.1.1, length_tabulate rec 0 i) in
          let x : w.0 ≡ rec j = sym (item_get_d (tabulate rec 0 i) j (rec 0) w.1.1) ∙ from_zero rec i j (rec 0) h in
          let t : is_same_atom (rec i) (rec j) ≡ true = rw x at w.2 in
          let n : is_same_atom (rec i) (rec j) ≡ false = before j h in
          cc

-- by a test of the numbers of the records before
pub any_numbered : {A : Type 0} (p : A → Bool) (rec : ℕ → A) (k n : ℕ) → list_any (λ j. p (rec j)) (range_with_len k n) ≡ any p (tabulate rec k n)
unfolding any find tabulate
any_numbered p rec k zero = refl
any_numbered p rec k (suc n) = go (p (rec k)) (let s : k + 1 ≡ suc k = omega arith in rw s (any_numbered p rec (suc k) n))
  where
    go :
        (b : Bool) →
        list_any (λ j. p (rec j)) (range_with_len (k + 1) n) ≡ is_some (find p (tabulate rec (suc k) n)) →
        (b || list_any (λ j. p (rec j)) (range_with_len (k + 1) n)) ≡ is_some (choose b (some (rec k)) (find p (tabulate rec (suc k) n)))
    go true rest = refl
    go false rest = rest

or_else_assoc : {A : Type 0} (a b c : Option A) → or_else (or_else a b) c ≡ or_else a (or_else b c)
or_else_assoc none b c = refl
or_else_assoc (some x) b c = refl

fault_parts : (rec : ℕ → TermRecord) (k : ℕ) → or_else (own_fault_at rec k) (repeat_fault_at rec k) ≡ term_fault_at rec k
unfolding term_fault term_name_fault own_fault
fault_parts rec k =
    rw (length_tabulate rec 0 k)
    (or_else_assoc (malformed (term_of (rec k))) (refuse_if (eqb (rec k).kind deref_kind && leb k (rec k).number) InnerNotListed) (repeat_fault_at rec k))

pub term_faults : (rec : ℕ → TermRecord) (n : ℕ) → first_fault (λ k. or_else (own_fault_at rec k) (repeat_fault_at rec k)) 0 n ≡ terms_fault n rec
unfolding terms_fault
term_faults rec n = first_ext _ _ n (λ k h. fault_parts rec k)
