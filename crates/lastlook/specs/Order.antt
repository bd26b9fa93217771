-- Dereferences in the order of words that are made of their classes and addresses, and what the order shows.
use Rattle.std.specs.Prelude.{Some, None, Result, Ok, Err, IsErrAnd, ⊤, ℕ, zero, suc, ◌+◌, ◌-◌, ◌*◌, ◌/◌, ◌%◌, ◌^◌, ◌<◌, ◌≤◌, ◌≡◌, refl, Bool, true, false, List, leb, ℤ, pos, get_or}
use Rattle.std.proofs.Common.{sym, ◌∙◌, ap, arith, of_z, leb-true, leb-false}
use Rattle.std.specs.Int.{w64}
use Rattle.rules.specs.Assignments.{Placement, Holds}
use Rattle.types.specs.declared.TermNumber.{TermNumber}
use Rattle.tables.specs.Records.{TermRecord, deref_kind}
use Rattle.lastlook.specs.declared.Disorder.{Disorder}
use Rattle.lastlook.specs.declared.Reader.{Reader}
use Rattle.lastlook.specs.Addresses.{class_of, address_of, SameAddress, Unequal, Alike, alike, Looked, closed, unequal_pair, itself, turned, onward, swapped}

-- one number for a class and an address: the lower half of the address spread over 32 bits, the class, and of the upper half 12 bits
unfoldable pub key_of : ℕ → ℤ → ℕ
key_of class address =
    let a = of_z w64 address in
    ((a % 2 ^ 32 * 2654435761 + class * 2246822519) % 2 ^ 32 * 512 + class) * 4096 + a / 2 ^ 32 % 4096

-- the word of the dereference x: its key, and x in the lowest 9 bits
abbrev pub word_of : (ℕ → TermRecord) → Placement → ℕ → ℕ
word_of rec P x = key_of (class_of rec P x) (address_of rec P x) * 512 + x

-- the key does not fall from word a to word b; and where it stays, the labels do
pub record Follows (P : Placement) (a b : ℕ) : Type 0 where
  pub rises : a / 512 ≤ b / 512
  pub agrees : a / 512 ≡ b / 512 → Holds P (a % 512) (pos 0) (b % 512)

-- what a test of two neighbours, or of all, finds
pub data Tested (n : ℕ) (rec : ℕ → TermRecord) (P : Placement) (Right : Type 0) : Result ⊤ Disorder → Type 0 where
  unequal_found : {x y : TermNumber} → x.0 < n → y.0 < n → Unequal rec P x.0 y.0 true → Tested n rec P Right (Err (Disorder.Pair x y))
  right : Right → Tested n rec P Right (Ok tt)
  wrong : Tested n rec P Right (Err Disorder.Unordered)

-- each of the first words follows the one before it
pub record Ordered (P : Placement) (words : List ℕ) (count : ℕ) : Type 0 where
  pub step : (k : ℕ) → k < count → 0 < k → Follows P (get_or words (k - 1) 0) (get_or words k 0)

-- w is among the first words
pub record Stands (words : List ℕ) (count w : ℕ) : Type 0 where
  pub place : ℕ
  pub below : place < count
  pub is : get_or words place 0 ≡ w

-- what is noted for the class that x reads
abbrev pub reader_in : (ℕ → TermRecord) → Placement → List Reader → ℕ → Reader
reader_in rec P readers x = get_or readers (class_of rec P x) Reader.None

-- x has the label of the reader noted for its class, or the class is noted to have many and the word of x is among the first
pub data Shown (n : ℕ) (rec : ℕ → TermRecord) (P : Placement) (readers : List Reader) (words : List ℕ) (count x : ℕ) : Type 0 where
  as_reader : {r : TermNumber} → reader_in rec P readers x ≡ Reader.One r → r.0 < n → Holds P r.0 (pos 0) x → Shown n rec P readers words count x
  listed : reader_in rec P readers x ≡ Reader.Many → Stands words count (word_of rec P x) → Shown n rec P readers words count x

-- each of n terms that is a dereference is shown so
abbrev pub AllShown : ℕ → (ℕ → TermRecord) → Placement → List Reader → List ℕ → ℕ → Type 0
AllShown n rec P readers words count = (x : ℕ) → x < n → (rec x).kind ≡ deref_kind → Shown n rec P readers words count x

pub data Standing (n : ℕ) (rec : ℕ → TermRecord) (P : Placement) (readers : List Reader) (words : List ℕ) (count : ℕ) : Bool → Type 0 where
  all_stand : AllShown n rec P readers words count → Standing n rec P readers words count true
  not_all : Standing n rec P readers words count false

module _ {n : ℕ} {rec : ℕ → TermRecord} {P : Placement} {Right : Type 0} where
  pub tested_right : Tested n rec P Right (Ok tt) → Right
  tested_right (right r) = r

  pub tested_pair : {x y : TermNumber} → Tested n rec P Right (Err (Disorder.Pair x y)) → Looked n rec P (Some (x, y))
  tested_pair (unequal_found hx hy u) = unequal_pair hx hy u

  pub tested_as : {d : Disorder} (Other : Type 0) → Tested n rec P Right (Err d) → Tested n rec P Other (Err d)
  tested_as Other (unequal_found hx hy u) = unequal_found hx hy u
  tested_as Other wrong = wrong

  pub tested_err : {r : Result ⊤ Disorder} {d : Disorder} (Other : Type 0) → Tested n rec P Right (Err d) → IsErrAnd r (λ e. e ≡ d) → Tested n rec P Other r
  tested_err {r = Err e} Other t f = rw f (tested_as Other t)
  tested_err {r = Ok u} Other t f = absurd f

pub standing_all : {n : ℕ} {rec : ℕ → TermRecord} {P : Placement} {readers : List Reader} {words : List ℕ} {count : ℕ} → Standing n rec P readers words count true → AllShown n rec P readers words count
standing_all (all_stand f) = f

pub alike_shown :
    {n : ℕ} {rec : ℕ → TermRecord} {P : Placement} {readers : List Reader} {words : List ℕ} {count x : ℕ} {r : Reader} →
    r ≡ reader_in rec P readers x →
    Alike n P r x true →
    Shown n rec P readers words count x
alike_shown e (alike o b h) = as_reader (sym e ∙ o) b h

module _ {P : Placement} where
  pub follows_itself : (a : ℕ) → Follows P a a
  follows_itself a = record { rises = omega arith; agrees = λ _. itself P (a % 512) }

  pub follows_on : {a b c : ℕ} → Follows P a b → Follows P b c → Follows P a c
  follows_on f g = record {
    rises = omega (arith, f.rises, g.rises);
    agrees = λ e.
        onward P (f.agrees (omega (arith, f.rises, g.rises, e))) (g.agrees (omega (arith, f.rises, g.rises, e)));
  }

  -- so each word follows every earlier one
  pub follows_all : (words : List ℕ) (count : ℕ) → Ordered P words count → (i j : ℕ) → i ≤ j → j < count → Follows P (get_or words i 0) (get_or words j 0)
  follows_all words count O i zero l h = let e : i ≡ 0 = omega arith in rw e (follows_itself (get_or words 0 0))
  follows_all words count O i (suc j) l h =
      let s : suc j - 1 ≡ j = omega arith in
      go (λ m. follows_on (follows_all words count O i j m (omega arith)) (rw s at (O.step (suc j) h (omega arith)))) (leb i j) refl
    where
      go : (i ≤ j → Follows P (get_or words i 0) (get_or words (suc j) 0)) → (b : Bool) → leb i j ≡ b → Follows P (get_or words i 0) (get_or words (suc j) 0)
      go f true e = f (leb-true i j e)
      go f false e = let m : i ≡ suc j = omega (arith, leb-false i j e) in rw m (follows_itself (get_or words (suc j) 0))

module _ {n : ℕ} {rec : ℕ → TermRecord} {P : Placement} (readers : List Reader) (words : List ℕ) (count : ℕ) (few : n ≤ 512) (O : Ordered P words count) (A : AllShown n rec P readers words count) where
  -- x no later than y in the order
  agree_forward :
      (x y : ℕ) →
      x < n →
      y < n →
      (s : Stands words count (word_of rec P x)) (t : Stands words count (word_of rec P y)) →
      s.place ≤ t.place →
      SameAddress rec P x y →
      Holds P x (pos 0) y
  agree_forward x y hx hy s t l m =
      let kx = key_of (class_of rec P x) (address_of rec P x) in
      let ky = key_of (class_of rec P y) (address_of rec P y) in
      let e : kx ≡ ky = rw (m.block, m.position) in
      let f = rw (s.is, t.is) at (follows_all words count O s.place t.place l t.below) in
      let mx : (kx * 512 + x) % 512 ≡ x = omega arith in
      let my : (ky * 512 + y) % 512 ≡ y = omega arith in
      let dx : (kx * 512 + x) / 512 ≡ kx = omega arith in
      let dy : (ky * 512 + y) / 512 ≡ ky = omega arith in
      rw (mx, my) at (f.agrees (dx ∙ e ∙ sym dy))

  agree_listed :
      (x y : ℕ) →
      x < n →
      y < n →
      SameAddress rec P x y →
      (s : Stands words count (word_of rec P x)) (t : Stands words count (word_of rec P y)) (b : Bool) →
      leb s.place t.place ≡ b →
      Holds P x (pos 0) y
  agree_listed x y hx hy m s t true e = agree_forward x y hx hy s t (leb-true s.place t.place e) m
  agree_listed x y hx hy m s t false e = turned P (agree_forward y x hy hx t s (omega (arith, leb-false s.place t.place e)) (swapped m))

  -- dereferences of one class are both like its reader, or both listed
  agree_shown :
      (x y : ℕ) →
      x < n →
      y < n →
      SameAddress rec P x y →
      reader_in rec P readers x ≡ reader_in rec P readers y →
      Shown n rec P readers words count x →
      Shown n rec P readers words count y →
      Holds P x (pos 0) y
  agree_shown x y hx hy m e (as_reader {r} a b h) (as_reader {r = q} c d k) =
      let f : r ≡ q = cc in
      onward P (turned P h) (rw f k)
  agree_shown x y hx hy m e (as_reader a b h) (listed f t) = cc
  agree_shown x y hx hy m e (listed f s) (as_reader c d k) = cc
  agree_shown x y hx hy m e (listed f s) (listed g t) = agree_listed x y hx hy m s t (leb s.place t.place) refl

  -- an order that holds every dereference that is not like the reader of its class shows that there is no pair
  pub closed_by_order : Looked n rec P None
  closed_by_order = closed (λ x y hx hy m.
      agree_shown x y hx hy m (ap (λ (k : ℕ). get_or readers k Reader.None) m.block) (A x hx m.deref_x) (A y hy m.deref_y))
