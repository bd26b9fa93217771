-- A table of bits of the atoms that are listed: an atom whose bit is 0 is in no record before.
use Rattle.std.specs.Prelude.{ℕ, ◌+◌, ◌/◌, ◌%◌, ◌<◌, ◌≡◌, refl, Bool, true, false, ◌&&◌, ◌||◌, List, eqb, length}
use Rattle.std.proofs.Common.{arith, below_none, below_more, eqb-true, eq-eqb}
use Rattle.lists.specs.Booleans.{and_true, false_true, or_first, or_second}
use Rattle.lists.specs.Search.{choose}
use Rattle.tables.specs.Records.{TermRecord, variable_kind, auxiliary_kind, is_same_atom}
use Rattle.tables.specs.Limits.{atom_limit}
use Rattle.pairbits.specs.Bits.{is_set, with_bit, is_set_with_bit}

abbrev pub is_atom_kind : TermRecord → Bool
is_atom_kind r = eqb r.kind variable_kind || eqb r.kind auxiliary_kind

-- the bit of a record's atom
unfoldable pub bit_of_atom : TermRecord → ℕ
bit_of_atom r = choose (eqb r.kind variable_kind) (r.number % atom_limit) (r.number % atom_limit + atom_limit)

-- record r noted: its atom's bit is set, and others as they were; `fresh` tells of an atom that it was 0
pub record Noted (old new : List ℕ) (r : TermRecord) (fresh : Bool) : Type 0 where
  pub kept : (b : ℕ) → is_set old b ≡ true → is_set new b ≡ true
  pub noted : is_atom_kind r ≡ true → is_set new (bit_of_atom r) ≡ true
  pub first : fresh ≡ true → is_atom_kind r ≡ true → is_set old (bit_of_atom r) ≡ false

-- the atoms of the first i records have their bits set
pub record Listed (rec : ℕ → TermRecord) (i : ℕ) (bytes : List ℕ) : Type 0 where
  pub set : (k : ℕ) → k < i → is_atom_kind (rec k) ≡ true → is_set bytes (bit_of_atom (rec k)) ≡ true

choose_below : (b : Bool) {x y n : ℕ} → x < n → y < n → choose b x y < n
choose_below true p q = p
choose_below false p q = q

pub bit_below : (r : TermRecord) → bit_of_atom r / 8 < 16384
unfolding bit_of_atom
bit_below r =
    let h : bit_of_atom r < 131072 = choose_below (eqb r.kind variable_kind) (omega arith) (omega arith) in
    omega arith

-- records of one atom have one bit
same_bit : (r s : TermRecord) → is_same_atom r s ≡ true → (is_atom_kind r ≡ true) × ((is_atom_kind s ≡ true) × (bit_of_atom s ≡ bit_of_atom r))
unfolding is_same_atom bit_of_atom
same_bit r s e =
    let p = and_true (is_atom_kind r) (eqb r.kind s.kind && eqb r.number s.number) e in
    let q = and_true (eqb r.kind s.kind) (eqb r.number s.number) p.1 in
    let k : r.kind ≡ s.kind = eqb-true r.kind s.kind q.0 in
    let n : r.number ≡ s.number = eqb-true r.number s.number q.1 in
    (p.0, (rw k at p.0, rw (k, n)))

-- what the note of a record does
pub noted_other : (l : List ℕ) (r : TermRecord) → is_atom_kind r ≡ false → Noted l l r true
noted_other l r e = record { kept = λ b h. h; noted = false_true e; first = λ f. false_true e }

pub noted_again : (l : List ℕ) (r : TermRecord) → is_set l (bit_of_atom r) ≡ true → Noted l l r false
noted_again l r e = record { kept = λ b h. h; noted = λ a. e; first = λ f. false_true refl f }

pub noted_first : (l : List ℕ) (r : TermRecord) → length l ≡ 16384 → is_set l (bit_of_atom r) ≡ false → Noted l (with_bit l (bit_of_atom r)) r true
noted_first l r long e =
    let h : bit_of_atom r / 8 < length l = omega (arith, bit_below r) in
    record {
      kept = λ b s. rw (is_set_with_bit l (bit_of_atom r) b h) (or_second (eqb b (bit_of_atom r)) (is_set l b) s);
      noted = λ a. rw (is_set_with_bit l (bit_of_atom r) (bit_of_atom r) h) (or_first (eqb (bit_of_atom r) (bit_of_atom r)) (is_set l (bit_of_atom r)) (eq-eqb (bit_of_atom r) (bit_of_atom r) refl));
      first = λ f a. e;
    }

module _ (rec : ℕ → TermRecord) where
  pub listed_none : (l : List ℕ) → Listed rec 0 l
  listed_none l = record { set = below_none (λ k. is_atom_kind (rec k) ≡ true → is_set l (bit_of_atom (rec k)) ≡ true) }

  pub listed_more : {i : ℕ} {old new : List ℕ} {fresh : Bool} → Listed rec i old → Noted old new (rec i) fresh → Listed rec (i + 1) new
  listed_more {i} {old} {new} L N =
      record { set = below_more (λ k. is_atom_kind (rec k) ≡ true → is_set new (bit_of_atom (rec k)) ≡ true) i (λ k h a. N.kept (bit_of_atom (rec k)) (L.set k h a)) N.noted }

  -- an atom whose bit was 0 is in no record before
  pub unlisted : {i : ℕ} {old new : List ℕ} {fresh : Bool} → Listed rec i old → Noted old new (rec i) fresh → fresh ≡ true → (j : ℕ) → j < i → is_same_atom (rec i) (rec j) ≡ false
  unlisted {i} {old} L N f j h = go (is_same_atom (rec i) (rec j)) refl
    where
      go : (b : Bool) → is_same_atom (rec i) (rec j) ≡ b → b ≡ false
      go false e = refl
      go true e =
          let s = same_bit (rec i) (rec j) e in
          false_true (N.first f s.0) (rw s.1.1 at (L.set j h s.1.0))
