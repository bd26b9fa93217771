-- Pairs of homes at which one class is read.
use Rattle.std.specs.Prelude.{ℕ, ◌+◌, ◌*◌, ◌/◌, ◌%◌, ◌<◌, ◌≤◌, ◌≡◌, refl, ◌≢◌, true, List, length, get_or, set}
use Rattle.std.proofs.Common.{sym, ◌∙◌, ⊎_elim, arith, length-set, get_or-set_same, get_or-set_other}
use Rattle.lists.specs.Booleans.{false_true}
use Rattle.lists.specs.Filled.{same_or_not}
use Rattle.tables.specs.Limits.{most}
use Rattle.buckets.specs.Buckets.{Chainable, key_of, less_or_not, NextOf}
use Rattle.points.specs.Places.{class}
use Rattle.words.specs.Words.{in_mask, mask_others, mask_stored}
use Rattle.marking.specs.Marks.{Room, zeros}
use Rattle.marking.specs.Known.{Uniform}
use Rattle.marking.specs.Rows.{no_numbers, OwnMask, zeros_long}
use Rattle.settling.specs.Settle.{Kept, one_class, Setting}

-- all leads of home h read class r, unless r stands for none
pub record Owner (n : ℕ) (keys reads : List ℕ) (h r : ℕ) : Type 0 where
  pub low : r ≤ most
  pub all : r ≢ most → (x : ℕ) → x < n → key_of keys x ≡ h → class reads x ≡ r

-- so for the first k homes
pub record Owners (n : ℕ) (keys reads : List ℕ) (k size : ℕ) (owners : List ℕ) : Type 0 where
  pub long : length owners ≡ size
  pub each : (h : ℕ) → h < k → Owner n keys reads h (get_or owners h 0)

pub owners_start : {n size : ℕ} {keys reads owners : List ℕ} → length owners ≡ size → Owners n keys reads 0 size owners
owners_start e = record { long = e; each = λ h l. absurd (omega arith) }

pub owners_more : {n k r size : ℕ} {keys reads owners : List ℕ} → k < length owners → Owner n keys reads k r → Owners n keys reads k size owners → Owners n keys reads (k + 1) size (set owners k r)
owners_more {n} {k} {r} {size} {keys} {reads} {owners} room O L = record {
  long = length-set owners k r ∙ L.long;
  each = λ h l. ⊎_elim (λ (e : h ≡ k). rw (e, get_or-set_same owners k r 0 room) O) (λ (m : h ≢ k). rw (get_or-set_other owners k h r 0 m) (L.each h (omega arith))) (same_or_not h k);
}

pub owners_done : {n k size : ℕ} {keys reads owners : List ℕ} → n ≤ k → Owners n keys reads k size owners → Owners n keys reads n size owners
owners_done h L = record { long = L.long; each = λ t l. L.each t (omega arith) }

pub owners_chainable : {n size : ℕ} {keys reads owners next : List ℕ} → n ≤ most → n ≤ size → Owners n keys reads n size owners → n ≤ length next → Chainable n 513 owners next
owners_chainable few room O h = record { few = few; keys_long = omega (arith, O.long); links_long = h; below = λ t g. omega (arith, (O.each t g).low) }

-- no class
pub no_owner : {n : ℕ} {keys reads : List ℕ} {h : ℕ} → Owner n keys reads h 512
no_owner = record { low = omega arith; all = λ m. absurd (m refl) }

-- a walk along the leads of home h: those before t read class a
pub record Reads (n : ℕ) (keys reads : List ℕ) (h a t : ℕ) : Type 0 where
  pub upto : t ≤ n
  pub here : t < n → key_of keys t ≡ h
  pub same : (x : ℕ) → x < t → key_of keys x ≡ h → class reads x ≡ a

pub reads_start : {n h f t : ℕ} {keys reads : List ℕ} → f < n → NextOf n (key_of keys) h 0 f → NextOf n (key_of keys) (key_of keys f) (f + 1) t → Reads n keys reads h (class reads f) t
reads_start {n} {h} {f} {t} {keys} {reads} l N M = record {
  upto = M.inside;
  here = λ g. M.hit g ∙ N.hit l;
  same = λ x g e. ⊎_elim (λ (b : x < f). absurd (N.none x (omega arith) b e)) (λ (b : f ≤ x). ⊎_elim (λ (s : x ≡ f). rw s) (λ (m : x ≢ f). absurd (M.none x (omega arith) g (e ∙ sym (N.hit l)))) (same_or_not x f)) (less_or_not x f);
}

pub reads_more : {n h a t f : ℕ} {keys reads : List ℕ} → t < n → NextOf n (key_of keys) (key_of keys t) (t + 1) f → class reads t ≡ a → Reads n keys reads h a t → Reads n keys reads h a f
reads_more {n} {h} {a} {t} {f} {keys} {reads} l N s R = record {
  upto = N.inside;
  here = λ g. N.hit g ∙ R.here l;
  same = λ x g e. ⊎_elim (λ (b : x < t). R.same x b e) (λ (b : t ≤ x). ⊎_elim (λ (q : x ≡ t). rw q s) (λ (m : x ≢ t). absurd (N.none x (omega arith) g (e ∙ sym (R.here l)))) (same_or_not x t)) (less_or_not x t);
}

pub reads_done : {n h a t : ℕ} {keys reads : List ℕ} → n ≤ t → a ≤ most → Reads n keys reads h a t → Owner n keys reads h a
reads_done l low R = record { low = low; all = λ _ x g e. R.same x (omega arith) e }

-- the homes of each pair in the mask have one class
pub record SameOwner (n : ℕ) (owners seen : List ℕ) : Type 0 where
  pub long : length seen ≡ 4096
  pub same : (v : ℕ) → in_mask seen v ≡ true → (v / 512 < n) × ((v % 512 < n) × ((get_or owners (v / 512) 0 < n) × (get_or owners (v / 512) 0 ≡ get_or owners (v % 512) 0)))

pub same_start : {n : ℕ} {owners seen : List ℕ} → seen ≡ zeros 4096 → SameOwner n owners seen
same_start e = record { long = zeros_long e; same = λ v m. false_true (no_numbers 4096 v) (rw e at m) }

-- one word of the row of home i
pub same_stored :
    {n a i w x : ℕ} {owners own seen : List ℕ} → n ≤ most → w < 8 → i < n → a < n → get_or owners i 0 ≡ a → OwnMask n owners a own → x ≡ get_or own w 0 → SameOwner n owners seen → SameOwner n owners (set seen (8 * i + w) x)
unfolding in_mask
same_stored {n} {a} {i} {w} {x} {owners} {own} {seen} few hw hi ha e M s L = record {
  long = length-set seen (8 * i + w) x ∙ L.long;
  same = λ v m. ⊎_elim (λ (q : v / 64 ≡ 8 * i + w). here v q m) (λ (d : v / 64 ≢ 8 * i + w). L.same v (sym (mask_others seen (8 * i + w) x v d) ∙ m)) (same_or_not (v / 64) (8 * i + w));
}
  where
    here : (v : ℕ) → v / 64 ≡ 8 * i + w → in_mask (set seen (8 * i + w) x) v ≡ true → (v / 512 < n) × ((v % 512 < n) × ((get_or owners (v / 512) 0 < n) × (get_or owners (v / 512) 0 ≡ get_or owners (v % 512) 0)))
    here v q m =
        let d : v / 512 ≡ i = omega arith in
        let g : v % 512 / 64 ≡ w = omega arith in
        let b : v % 512 % 64 ≡ v % 64 = omega arith in
        let t : in_mask own (v % 512) ≡ true = rw (g, b, ← s) (sym (mask_stored seen (8 * i + w) x v (omega (arith, L.long)) q) ∙ m) in
        let o = M.only (v % 512) t in
        rw (d, e) (hi, (o.0, (ha, sym o.1)))

-- leads of each pair of homes in the mask read one class
pub record SameReads (n : ℕ) (keys reads seen : List ℕ) : Type 0 where
  pub long : length seen ≡ 4096
  pub same : (v : ℕ) → in_mask seen v ≡ true → (x y : ℕ) → x < n → y < n → key_of keys x ≡ v / 512 → key_of keys y ≡ v % 512 → class reads x ≡ class reads y

pub same_reads : {n size : ℕ} {keys reads owners seen : List ℕ} → n ≤ most → Owners n keys reads n size owners → SameOwner n owners seen → SameReads n keys reads seen
same_reads few O L = record {
  long = L.long;
  same = λ v m x y hx hy kx ky.
      let s = L.same v m in
      let e = s.1.1.1 in
      (O.each (v / 512) s.0).all (λ z. absurd (omega (arith, s.1.1.0))) x hx kx ∙ e ∙ sym ((O.each (v % 512) s.1.0).all (λ z. absurd (omega (arith, s.1.1.0, e))) y hy ky);
}

pub kept_first : {S : Setting} {table seen : List ℕ} → Room S.n table → Uniform S.n S.points S.heights table → SameReads S.n S.keys S.reads seen → Kept S table seen
kept_first room U L = record {
  room = room;
  uniform = U;
  long = L.long;
  closed = λ v m. record { settled = λ x y kx ky R. one_class (L.same v m x y R.left R.right kx ky) };
}
