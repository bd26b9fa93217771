-- The addresses that dereferences read, and the look for two of one address with different labels.
use Rattle.std.specs.Prelude.{Option, Some, None, ℕ, zero, suc, ◌+◌, ◌-◌, ◌*◌, ◌/◌, ◌%◌, ◌^◌, ◌<◌, ◌≤◌, ◌≡◌, refl, Bool, true, false, not, ◌||◌, List, eqb, ltb, ℤ, pos, ◌+ℤ◌, length, get_or}
use Rattle.std.proofs.Common.{sym, ◌∙◌, arith, mul-le-mul, div-lt_iff_lt-mul, mod-lt, SFits, to_z, of_z, ltb-false}
use Rattle.std.proofs.Math.Arith.{digits_lt, digits_div, digits_mod}
use Rattle.std.specs.Int.{w64}
use Rattle.std.proofs.lemmas.Int.{to_z-of_z}
use Rattle.std.proofs.lemmas.Bool.{eqb-false}
use Rattle.lists.specs.Booleans.{or_false}
use Rattle.integers.specs.Compare.{eq_ℤ, eq_ℤ_true, eq_ℤ_false}
use Rattle.integers.specs.Linear.{linear, value, ‹◌›, #◌, ◌⊕◌}
use Rattle.rules.specs.Assignments.{Placement, Holds}
use Rattle.integers.specs.Within.{Within}
use Rattle.labels.specs.Spread.{far}
use Rattle.closure.specs.Facts.{comparison}
use Rattle.closure.specs.Verdict.{holds}
use Rattle.closure.proofs.Verdict.{holds_true, true_holds}
use Rattle.types.specs.declared.TermNumber.{TermNumber}
use Rattle.tables.specs.Limits.{most, offset_limit}
use Rattle.tables.specs.Records.{TermRecord, deref_kind}
use Rattle.tables.specs.Rows.{Row, term_in}
use Rattle.tables.specs.TermTable.{AcceptedTerms}
use Rattle.tables.proofs.TermTable.{inner_before, offset_within}
use Rattle.lastlook.specs.declared.Reader.{Reader}

-- accepted terms, and a label for each
pub record Labelled (terms : List Row) (reps : List ℕ) (offs : List ℤ) : Type 0 where
  pub accepted : AcceptedTerms (length terms) (term_in terms)
  pub few : length terms ≤ most
  pub reps_length : length reps ≡ length terms
  pub offs_length : length offs ≡ length terms
  pub below : (t : ℕ) → t < length terms → get_or reps t 0 < length terms
  pub near : (t : ℕ) → t < length terms → Within far (get_or offs t (pos 0))

-- the class of the term inside the dereference x
abbrev pub class_of : (ℕ → TermRecord) → Placement → ℕ → ℕ
class_of rec P x = P.block (rec x).number

-- the address that the dereference x reads, as an offset from the representative of that class
abbrev pub address_of : (ℕ → TermRecord) → Placement → ℕ → ℤ
address_of rec P x = (rec x).offset +ℤ P.position (rec x).number

-- x and y are dereferences of one address
pub record SameAddress (rec : ℕ → TermRecord) (P : Placement) (x y : ℕ) : Type 0 where
  pub deref_x : (rec x).kind ≡ deref_kind
  pub deref_y : (rec y).kind ≡ deref_kind
  pub block : P.block (rec x).number ≡ P.block (rec y).number
  pub position : (rec x).offset +ℤ P.position (rec x).number ≡ (rec y).offset +ℤ P.position (rec y).number

-- what a test for one address finds
pub data Meeting (rec : ℕ → TermRecord) (P : Placement) (x y : ℕ) : Bool → Type 0 where
  meet : SameAddress rec P x y → Meeting rec P x y true
  apart : (SameAddress rec P x y → ⊥) → Meeting rec P x y false

-- what a test for one address with different labels finds
pub data Unequal (rec : ℕ → TermRecord) (P : Placement) (x y : ℕ) : Bool → Type 0 where
  unequal : SameAddress rec P x y → (Holds P x (pos 0) y → ⊥) → Unequal rec P x y true
  equal : (SameAddress rec P x y → Holds P x (pos 0) y) → Unequal rec P x y false

-- what a test whether a note names a term with the label of x finds
pub data Alike (n : ℕ) (P : Placement) (reader : Reader) (x : ℕ) : Bool → Type 0 where
  alike : {r : TermNumber} → reader ≡ Reader.One r → r.0 < n → Holds P r.0 (pos 0) x → Alike n P reader x true
  not_told : Alike n P reader x false

-- what a look at all dereferences finds
pub data Looked (n : ℕ) (rec : ℕ → TermRecord) (P : Placement) : Option (TermNumber × TermNumber) → Type 0 where
  pair : {x y : TermNumber} → x.0 < n → y.0 < n → SameAddress rec P x.0 y.0 → (Holds P x.0 (pos 0) y.0 → ⊥) → Looked n rec P (Some (x, y))
  closed : ((x y : ℕ) → x < n → y < n → SameAddress rec P x y → Holds P x (pos 0) y) → Looked n rec P None

-- a test of two numbers that were read
pub signed_same : (a b : ℤ) → SFits w64 a → SFits w64 b → eq_ℤ (to_z w64 (of_z w64 a)) (to_z w64 (of_z w64 b)) ≡ eq_ℤ a b
signed_same a b f g = rw (to_z-of_z w64 a f, to_z-of_z w64 b g)

pub zero_plus : (z : ℤ) → pos 0 +ℤ z ≡ z
zero_plus z = omega (linear, value (# 0 ⊕ ‹ z ›))

-- one more than the number of one of n terms
pub names_one : (n found : ℕ) → (eqb found 0 || ltb n found) ≡ false → (0 < found) × (found ≤ n)
names_one n found e =
    let r = or_false (eqb found 0) (ltb n found) e in
    (omega (arith, eqb-false found 0 r.0), omega (arith, ltb-false n found r.1))

module _ (P : Placement) where
  pub itself : (x : ℕ) → Holds P x (pos 0) x
  itself x = record { same_block = refl; at_offset = sym (zero_plus (P.position x)) }

  pub turned : {x y : ℕ} → Holds P x (pos 0) y → Holds P y (pos 0) x
  turned {x} {y} h = record {
    same_block = sym h.same_block;
    at_offset = sym (h.at_offset ∙ zero_plus (P.position y)) ∙ sym (zero_plus (P.position x));
  }

  pub onward : {x y z : ℕ} → Holds P x (pos 0) y → Holds P y (pos 0) z → Holds P x (pos 0) z
  onward {x} {y} {z} h k = record {
    same_block = h.same_block ∙ k.same_block;
    at_offset = h.at_offset ∙ zero_plus (P.position y) ∙ k.at_offset;
  }

module _ {rec : ℕ → TermRecord} {P : Placement} where
  pub swapped : {x y : ℕ} → SameAddress rec P x y → SameAddress rec P y x
  swapped s = record { deref_x = s.deref_y; deref_y = s.deref_x; block = sym s.block; position = sym s.position }

  -- dereferences of one class, and addresses compared
  pub meeting_by :
      {x y : ℕ} →
      (rec x).kind ≡ deref_kind →
      (rec y).kind ≡ deref_kind →
      class_of rec P x ≡ class_of rec P y →
      (r : Bool) →
      r ≡ eq_ℤ (address_of rec P x) (address_of rec P y) →
      Meeting rec P x y r
  meeting_by dx dy b true e = meet (record { deref_x = dx; deref_y = dy; block = b; position = eq_ℤ_true _ _ (sym e) })
  meeting_by dx dy b false e = apart (λ s. eq_ℤ_false _ _ (sym e) s.position)

  pub not_met_false : {x y : ℕ} → Meeting rec P x y false → Unequal rec P x y false
  not_met_false (apart f) = equal (λ s. absurd (f s))

  pub met_true : {x y : ℕ} → Meeting rec P x y true → SameAddress rec P x y
  met_true (meet s) = s

  pub not_met : {x y : ℕ} {r : Bool} → Meeting rec P x y r → not r ≡ true → Unequal rec P x y false
  not_met (meet s) e = let z : ◌≡◌ {A = ℕ} 0 1 = cc in absurd (omega arith)
  not_met (apart f) e = equal (λ s. absurd (f s))

  pub met : {x y : ℕ} {r : Bool} → Meeting rec P x y r → not r ≡ false → SameAddress rec P x y
  met (meet s) e = s
  met (apart f) e = let z : ◌≡◌ {A = ℕ} 0 1 = cc in absurd (omega arith)

  -- one address, and labels compared
  pub unequal_by : {x y : ℕ} → SameAddress rec P x y → (r : Bool) → r ≡ holds P (comparison x (pos 0) y) → Unequal rec P x y (not r)
  unequal_by {x} {y} s true e = equal (λ _. holds_true P (comparison x (pos 0) y) (sym e))
  unequal_by {x} {y} s false e = unequal s (λ h. let t = true_holds P (comparison x (pos 0) y) h in let z : ◌≡◌ {A = ℕ} 0 1 = cc in omega arith)

  pub not_unequal : {x y : ℕ} → Unequal rec P x y false → SameAddress rec P x y → Holds P x (pos 0) y
  not_unequal (equal f) = f

  pub unequal_pair : {n : ℕ} {x y : TermNumber} → x.0 < n → y.0 < n → Unequal rec P x.0 y.0 true → Looked n rec P (Some (x, y))
  unequal_pair hx hy (unequal s m) = pair hx hy s m

  pub closed_by_each : {n : ℕ} → ((x : ℕ) → x < n → (y : ℕ) → y < n → Unequal rec P x y false) → Looked n rec P None
  closed_by_each f = closed (λ x y hx hy. not_unequal (f x hx y hy))

  -- pair k of n × n terms is (k / n, k % n)
  pub closed_by_all : (n : ℕ) → ((k : ℕ) → k < n * n → SameAddress rec P (k / n) (k % n) → Holds P (k / n) (pos 0) (k % n)) → Looked n rec P None
  closed_by_all n f =
      closed
      (λ x y hx hy.
      rw (digits_div x hy, digits_mod x hy) at (f (x * n + y) (digits_lt hx hy)))

pub alike_by :
    {n : ℕ} {P : Placement} {reader : Reader} {r : TermNumber} {x : ℕ} →
    reader ≡ Reader.One r →
    r.0 < n →
    (b : Bool) →
    b ≡ holds P (comparison r.0 (pos 0) x) →
    Alike n P reader x b
alike_by {P = P} {r = r} {x = x} o h true e = alike o h (holds_true P (comparison r.0 (pos 0) x) (sym e))
alike_by o h false e = not_told

-- pair k of n × n terms
pub record PairBelow (n k : ℕ) : Type 0 where
  pub some : 0 < n
  pub first : k / n < n
  pub second : k % n < n

pub pair_below : (n : ℕ) {k : ℕ} → k < n * n → PairBelow n k
pair_below zero h = absurd (omega arith)
pair_below (suc n) {k} h =
    let some : 0 < suc n = omega arith in
    record { some = some; first = (div-lt_iff_lt-mul some).1 h; second = mod-lt k some }

pub pairs_few : (n : ℕ) → n ≤ most → n * n ≤ 2 ^ 18
pairs_few n h = mul-le-mul h h

-- what is known of a dereference
module _ {terms : List Row} {reps : List ℕ} {offs : List ℤ} (L : Labelled terms reps offs) {x : ℕ} (h : x < length terms) (d : (term_in terms x).kind ≡ deref_kind) where
  pub inner_below : (term_in terms x).number < length terms
  inner_below = omega (arith, inner_before (length terms) (term_in terms) L.accepted x h d)

  pub offset_limited : Within offset_limit (term_in terms x).offset
  offset_limited = offset_within (length terms) (term_in terms) L.accepted x h d

  pub inner_near : Within far (get_or offs (term_in terms x).number (pos 0))
  inner_near = L.near (term_in terms x).number inner_below

  pub class_below : get_or reps (term_in terms x).number 0 < most
  class_below = omega (arith, L.few, L.below (term_in terms x).number inner_below)

  -- its class can be read, and is the place of a note
  pub class_read : ((x < length terms) × ((term_in terms x).number < length reps)) × (get_or reps (term_in terms x).number 0 < most)
  class_read = ((h, omega (arith, inner_below, L.reps_length)), class_below)
