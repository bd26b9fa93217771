-- A pair table over homes, expanded to all terms: the bit of each pair is set whose homes' bit is set.
use Rattle.std.specs.Prelude.{ℕ, ◌+◌, ◌*◌, ◌/◌, ◌%◌, ◌<◌, ◌≤◌, ◌≡◌, refl, ◌≢◌, ◌⊎◌, Bool, true, false, not, ◌||◌, List, length}
use Rattle.std.proofs.Common.{sym, ◌∙◌, inl, inr, ⊎_elim, arith, eq-eqb}
use Rattle.std.proofs.Math.ListN.{get_or-eq_default}
use Rattle.std.proofs.lemmas.Bool.{not-true}
use Rattle.lists.specs.Booleans.{and_true, both_true, false_true}
use Rattle.lists.specs.Filled.{same_or_not}
use Rattle.pairbits.specs.Bits.{is_set}
use Rattle.points.specs.Homes.{home, Homes}
use Rattle.buckets.specs.Buckets.{less_or_not, NextOf}
use Rattle.points.specs.Places.{class}
use Rattle.marking.specs.Rows.{Below, MaskPair, OwnMask}
use Rattle.words.specs.Words.{Common, in_mask, is_bit_one, NextOne, one_past, Put, Rest}
use Rattle.marking.specs.Marks.{Adds, adds_already, adds_as, adds_none, adds_then, bit_cases, One, Upto}

-- homes of n terms: each is its own home
pub record Own (n : ℕ) (homes : List ℕ) : Type 0 where
  pub long : n ≤ length homes
  pub below : (t : ℕ) → t < n → home homes t < n
  pub own : (t : ℕ) → t < n → home homes (home homes t) ≡ home homes t

pub homes_own : {n : ℕ} {classes heights homes : List ℕ} → Homes n classes heights homes → Own n homes
homes_own H = record { long = H.long; below = H.below; own = H.own }

last_or_before : (k u : ℕ) → u < k + 1 → (u < k) ⊎ (u ≡ k)
last_or_before k u h = ⊎_elim (λ (e : u ≡ k). inr e) (λ (m : u ≢ k). inl (omega arith)) (same_or_not u k)

-- each term is its own home
pub record AllOwn (n : ℕ) (homes : List ℕ) : Type 0 where
  pub own : (t : ℕ) → t < n → home homes t ≡ t

pub own_none : (homes : List ℕ) → AllOwn 0 homes
own_none homes = record { own = λ t h. absurd (omega arith) }

pub own_more : {k : ℕ} {homes : List ℕ} → home homes k ≡ k → AllOwn k homes → AllOwn (k + 1) homes
own_more {k} {homes} e a = record { own = λ t h. ⊎_elim (λ (l : t < k). a.own t l) (λ (s : t ≡ k). rw s e) (last_or_before k t h) }

-- the bit of the homes of i and j is set
abbrev pub HomesSet : (n : ℕ) (homes table : List ℕ) (i j : ℕ) → Type 0
HomesSet n homes table i j = is_set table (home homes i * n + home homes j) ≡ true

-- `new` is `old` with the bit of each pair set whose homes' bit is set
abbrev pub Expanded : (n : ℕ) (homes old new : List ℕ) → Type 0
Expanded n homes old new = Adds n (λ i j. is_set old (home homes i * n + home homes j) ≡ true) old new

-- the same for the pairs in S
abbrev pub ExpandedIn : (n : ℕ) (homes : List ℕ) (S : ℕ → ℕ → Type 0) (old new : List ℕ) → Type 0
ExpandedIn n homes S old new = Adds n (λ i j. S i j × HomesSet n homes old i j) old new

-- the bits of a table are in the columns of homes
pub record HomeColumns (n : ℕ) (homes table : List ℕ) : Type 0 where
  pub column : (i j : ℕ) → i < n → j < n → is_set table (i * n + j) ≡ true → home homes j ≡ j

-- the mask has the homes of the first k terms that are not their own
pub record Hosts (k : ℕ) (homes mask : List ℕ) : Type 0 where
  pub long : length mask ≡ 8
  pub host : (t : ℕ) → t < k → home homes t ≢ t → in_mask mask (home homes t) ≡ true

pub hosts_none : {homes mask : List ℕ} → length mask ≡ 8 → Hosts 0 homes mask
hosts_none e = record { long = e; host = λ t h. absurd (omega arith) }

pub hosts_skip : {k : ℕ} {homes mask : List ℕ} → home homes k ≡ k → Hosts k homes mask → Hosts (k + 1) homes mask
hosts_skip {k} {homes} e H = record { long = H.long; host = λ t h m. ⊎_elim (λ (l : t < k). H.host t l m) (λ (s : t ≡ k). absurd (m (rw s e))) (last_or_before k t h) }

pub hosts_more : {k : ℕ} {homes mask new : List ℕ} → Put mask (home homes k) new → Hosts k homes mask → Hosts (k + 1) homes new
hosts_more {k} {homes} {mask} {new} P H = record {
  long = P.long ∙ H.long;
  host = λ t h m.
      ⊎_elim
      (λ (l : t < k). P.bits (home homes t) ∙ rw (H.host t l m))
      (λ (s : t ≡ k). rw s (P.bits (home homes k) ∙ rw (eq-eqb (home homes k) (home homes k) refl) (or_all (in_mask mask (home homes k)))))
      (last_or_before k t h);
}
  where
    or_all : (b : Bool) → (b || true) ≡ true
    or_all true = refl
    or_all false = refl

pub hosts_done : {n k : ℕ} {homes mask : List ℕ} → n ≤ k → Hosts k homes mask → Hosts n homes mask
hosts_done h H = record { long = H.long; host = λ t l. H.host t (omega arith) }

-- the pairs of home i with the terms that are not their own homes are set, or their homes are in the mask
pub record Covered (n : ℕ) (homes mask : List ℕ) (i : ℕ) (table : List ℕ) : Type 0 where
  pub host : (t : ℕ) → t < n → home homes t ≢ t → (in_mask mask (home homes t) ≡ true) ⊎ (is_set table (i * n + t) ≡ true)

-- the bits of homes with the homes of their class are set
pub record ClassSet (n : ℕ) (classes homes table : List ℕ) : Type 0 where
  pub set : (i t : ℕ) → i < n → t < n → home homes i ≡ i → class classes i ≡ class classes t → home homes t ≢ i → is_set table (i * n + home homes t) ≡ true

pub class_set_kept : {n : ℕ} {classes homes old new : List ℕ} → ((k : ℕ) → is_set old k ≡ true → is_set new k ≡ true) → ClassSet n classes homes old → ClassSet n classes homes new
class_set_kept {n} {homes = homes} kept C = record { set = λ i t hi ht o e m. kept (i * n + home homes t) (C.set i t hi ht o e m) }

-- the mask holds the terms of the class of i whose home is not i
pub record Reach (n : ℕ) (classes homes : List ℕ) (i : ℕ) (mask : List ℕ) : Type 0 where
  pub holds : (t : ℕ) → t < n → class classes t ≡ class classes i → home homes t ≢ i → in_mask mask t ≡ true
  pub only : (t : ℕ) → in_mask mask t ≡ true → t < n → (class classes t ≡ class classes i) × (home homes t ≢ i)

pub reach_rest : {n : ℕ} (classes homes : List ℕ) (i : ℕ) {own same mask : List ℕ} → n ≤ 512 → OwnMask n classes (class classes i) own → OwnMask n homes i same → Rest own same 8 mask → Reach n classes homes i mask
reach_rest {n} classes homes i {own} {same} {mask} few O M R = record {
  holds = λ t h e m. R.bits t (omega arith) ∙ both_true (in_mask own t) _ (O.holds t h e) (out t m (in_mask same t) refl);
  only = λ t e h. let r = and_true (in_mask own t) _ (sym (R.bits t (omega arith)) ∙ e) in ((O.only t r.0).1, λ s. false_true (not-true _ r.1) (M.holds t h s));
}
  where
    out : (t : ℕ) → home homes t ≢ i → (b : Bool) → in_mask same t ≡ b → not b ≡ true
    out t m true e = absurd (m (M.only t e).1)
    out t m false e = refl

pub rest_below : {n : ℕ} {own same mask : List ℕ} → Below n own → Rest own same 8 mask → Below n mask
unfolding in_mask
rest_below {n} {own} {same} {mask} B R = record { below = λ v e. ⊎_elim (λ h. B.below v (and_true (in_mask own v) _ (sym (R.bits v h) ∙ e)).0) (λ h. false_true (past v h) e) (less_or_not (v / 64) 8) }
  where
    past : (v : ℕ) → 8 ≤ v / 64 → in_mask mask v ≡ false
    past v h = rw (get_or-eq_default mask 0 {n = v / 64} (omega (arith, R.long))) (one_past 0 0 (v % 64) (omega arith) (omega arith))

-- the pair (i, j), where v is the home of j
abbrev pub GuestPair : List ℕ → ℕ → ℕ → ℕ → ℕ → ℕ → Type 0
GuestPair homes i v j x y = (home homes j ≡ v) × One i j x y

-- the pairs of i with the terms whose homes are in word w of a mask; of those in its bits before b
abbrev pub WordPair : List ℕ → ℕ → ℕ → ℕ → ℕ → ℕ → Type 0
WordPair homes i w word x y = (x ≡ i) × ((home homes y / 64 ≡ w) × (is_bit_one word (home homes y % 64) ≡ true))

abbrev pub WordBelow : List ℕ → ℕ → ℕ → ℕ → ℕ → ℕ → ℕ → Type 0
WordBelow homes i w word b x y = (home homes y % 64 < b) × WordPair homes i w word x y

-- how many of the columns from 64 * w on, of n, are in word w
pub record Width (n w r : ℕ) : Type 0 where
  pub few : r ≤ 64
  pub below : 64 * w + r ≤ n
  pub inside : (b : ℕ) → b < 64 → 64 * w + b < n → b < r

-- the pairs of term i; those with the terms whose home is before v; those of the homes before k; those of the other terms before k
abbrev pub Row : ℕ → ℕ → ℕ → Type 0
Row i x y = x ≡ i

abbrev pub RowBelow : List ℕ → ℕ → ℕ → ℕ → ℕ → Type 0
RowBelow homes i v x y = (x ≡ i) × (home homes y < v)

abbrev pub HomeRows : List ℕ → ℕ → ℕ → ℕ → Type 0
HomeRows homes k x y = (x < k) × (home homes x ≡ x)

-- those of the homes of class a before t; of the homes of the classes before a
abbrev pub ClassRows : List ℕ → List ℕ → ℕ → ℕ → ℕ → ℕ → Type 0
ClassRows classes homes a t x y = (class classes x ≡ a) × ((x < t) × (home homes x ≡ x))

abbrev pub ClassesRows : List ℕ → List ℕ → ℕ → ℕ → ℕ → Type 0
ClassesRows classes homes a x y = (class classes x < a) × (home homes x ≡ x)

-- those of i with the terms of a mask
abbrev pub ReachRow : List ℕ → ℕ → ℕ → ℕ → Type 0
ReachRow reach i x y = (x ≡ i) × (in_mask reach y ≡ true)

abbrev pub GuestRows : List ℕ → ℕ → ℕ → ℕ → Type 0
GuestRows homes k x y = (x < k) × (home homes x ≢ x)

-- the pairs of i whose bits are set in row h
abbrev pub CopyPair : ℕ → ℕ → ℕ → List ℕ → ℕ → ℕ → Type 0
CopyPair n h i table x y = (x ≡ i) × (is_set table (h * n + y) ≡ true)

-- in the rows of homes, the bit of each term is that of its home
pub record Full (n : ℕ) (homes table : List ℕ) : Type 0 where
  pub there : (h y : ℕ) → h < n → y < n → home homes h ≡ h → is_set table (h * n + y) ≡ true → is_set table (h * n + home homes y) ≡ true
  pub back : (h y : ℕ) → h < n → y < n → home homes h ≡ h → is_set table (h * n + home homes y) ≡ true → is_set table (h * n + y) ≡ true

-- a walk along the chain of class a that has expanded the rows of its homes before t
pub record ClassLoop (n : ℕ) (classes homes : List ℕ) (a t : ℕ) (old new : List ℕ) : Type 0 where
  pub upto : t ≤ n
  pub here : t < n → class classes t ≡ a
  pub done : ExpandedIn n homes (ClassRows classes homes a t) old new

module _ (n : ℕ) (homes : List ℕ) where
  -- nothing to do where each term is its own home
  pub all_own : (l : List ℕ) → AllOwn n homes → Expanded n homes l l
  all_own l a = adds_already n (HomesSet n homes l) l (λ i j hi hj w. rw (a.own i hi, a.own j hj) at w)

  nothing : (S : ℕ → ℕ → Type 0) (l : List ℕ) → ((x y : ℕ) → S x y → ⊥) → ExpandedIn n homes S l l
  nothing S l none = adds_none n (λ x y. S x y × HomesSet n homes l x y) l (λ x y d. none x y d.0)

  same_pairs : (S T : ℕ → ℕ → Type 0) {old new : List ℕ} → ((x y : ℕ) → x < n → y < n → S x y → T x y) → ((x y : ℕ) → x < n → y < n → T x y → S x y) → ExpandedIn n homes S old new → ExpandedIn n homes T old new
  same_pairs S T {old} f g a =
      adds_as n (λ x y. S x y × HomesSet n homes old x y) (λ x y. T x y × HomesSet n homes old x y) a
      (λ x y hx hy d. (f x y hx hy d.0, d.1))
      (λ x y hx hy d. (g x y hx hy d.0, d.1))

  -- a loop over the bits of a word that has set those of the homes before its bit b
  pub record WordLoop (i w word b : ℕ) (old new : List ℕ) : Type 0 where
    pub done : Adds n (WordBelow homes i w word b) old new
    pub hit : b < 64 → is_bit_one word b ≡ true

  word_jump : {i w word b r : ℕ} {old new : List ℕ} → Adds n (WordBelow homes i w word b) old new → NextOne word b r → WordLoop i w word r old new
  word_jump {i} {w} {word} {b} {r} a N = record {
    done = adds_as n (WordBelow homes i w word b) (WordBelow homes i w word r) a
        (λ x y hx hy (l, d). (omega (arith, N.after), d))
        (λ x y hx hy (l, (e, (q, o))). (⊎_elim (λ g. g) (λ g. false_true (N.none (home homes y % 64) g l (omega arith)) o) (less_or_not (home homes y % 64) b), (e, (q, o))));
    hit = N.hit;
  }

  pub word_first : {i w word r : ℕ} (l : List ℕ) → NextOne word 0 r → WordLoop i w word r l l
  word_first {i} {w} {word} l N = word_jump (adds_none n (WordBelow homes i w word 0) l (λ x y d. let h = d.0 in omega arith)) N

  pub word_next : {i w word b r : ℕ} {old mid new : List ℕ} → b < 64 → WordLoop i w word b old mid → Adds n (Upto n (GuestPair homes i (64 * w + b))) mid new → NextOne word (b + 1) r → WordLoop i w word r old new
  word_next {i} {w} {word} {b} hb L A N =
      word_jump
      (adds_then n (WordBelow homes i w word b) (Upto n (GuestPair homes i (64 * w + b))) (WordBelow homes i w word (b + 1)) L.done A
      (λ x y hx hy (l, (e, (q, o))). ⊎_elim (λ g. inl (g, (e, (q, o)))) (λ (g : home homes y % 64 ≡ b). inr (y, hy, (omega arith, (e, refl)))) (last_or_before b (home homes y % 64) l))
      (λ x y hx hy (l, d). (omega arith, d))
      (λ x y hx hy (j, hj, (e, o)). let z : home homes y ≡ 64 * w + b = rw o.1 e in let m : home homes y % 64 ≡ b = omega arith in (omega arith, (o.0, (omega arith, rw m (L.hit hb))))))
      N

  pub word_done : {i w word b r : ℕ} {old new : List ℕ} → Own n homes → Width n w r → r ≤ b → WordLoop i w word b old new → Adds n (WordPair homes i w word) old new
  word_done {i} {w} {word} {b} O W h L =
      adds_as n (WordBelow homes i w word b) (WordPair homes i w word) L.done
      (λ x y hx hy (l, d). d)
      (λ x y hx hy (e, (q, o)). (let g = W.inside (home homes y % 64) (omega arith) (omega (arith, O.below y hy)) in omega arith, (e, (q, o))))

  module _ (O : Own n homes) where
    -- the bits of homes stay as they were
    homes_kept : (S : ℕ → ℕ → Type 0) {old new : List ℕ} → ExpandedIn n homes S old new → (i j : ℕ) → i < n → j < n → HomesSet n homes new i j → HomesSet n homes old i j
    homes_kept S {old} {new} a i j hi hj w =
        ⊎_elim (λ e. e)
        (λ (d : S (home homes i) (home homes j) × HomesSet n homes old (home homes i) (home homes j)). rw (O.own i hi, O.own j hj) at d.1)
        (bit_cases n (λ x y. S x y × HomesSet n homes old x y) a (home homes i) (home homes j) (O.below j hj) w)

    -- one after the other
    expanded_then :
        (S T U : ℕ → ℕ → Type 0) {old mid new : List ℕ} →
        ((x y : ℕ) → U x y → S x y ⊎ T x y) →
        ((x y : ℕ) → S x y → U x y) →
        ((x y : ℕ) → T x y → U x y) →
        ExpandedIn n homes S old mid →
        ExpandedIn n homes T mid new →
        ExpandedIn n homes U old new
    expanded_then S T U {old} {mid} {new} split left right a b =
        adds_then n (λ x y. S x y × HomesSet n homes old x y) (λ x y. T x y × HomesSet n homes mid x y) (λ x y. U x y × HomesSet n homes old x y) a b
        (λ x y hx hy d. ⊎_elim (λ s. inl (s, d.1)) (λ t. inr (t, a.kept (home homes x * n + home homes y) d.1)) (split x y d.0))
        (λ x y hx hy d. (left x y d.0, d.1))
        (λ x y hx hy d. (right x y d.0, homes_kept S a x y hx hy d.1))

    module _ (i : ℕ) (hi : i < n) (own : home homes i ≡ i) {mask start : List ℕ} (H : Covered n homes mask i start) where
      -- one word more
      pub row_more :
          {w word : ℕ} {mid new : List ℕ} → ExpandedIn n homes (RowBelow homes i (64 * w)) start mid → Common (i * n) mid mask (64 * w) word →
          Adds n (WordPair homes i w word) mid new → ExpandedIn n homes (RowBelow homes i (64 * (w + 1))) start new
      row_more {w} {word} {mid} {new} a C A =
          expanded_then (RowBelow homes i (64 * w)) There (RowBelow homes i (64 * (w + 1)))
          (λ x y d. ⊎_elim (λ l. inl (d.0, l)) (λ g. inr (d.0, omega (arith, d.1))) (less_or_not (home homes y) (64 * w)))
          (λ x y d. (d.0, omega (arith, d.1)))
          (λ x y d. (d.0, omega (arith, d.1)))
          a
          (adds_then n (WordPair homes i w word) (λ x y. There x y × HomesSet n homes mid x y) (λ x y. There x y × HomesSet n homes mid x y) A
          (adds_already n (λ x y. There x y × HomesSet n homes mid x y) new (λ x y hx hy d. rw d.0.0 (set y hy d.0.1 (rw (d.0.0, own) at d.1))))
          (λ x y hx hy d. inr d)
          (λ x y hx hy (e, (q, o)). ((e, q), rw (e, own) (rw (at_column y q) at (C.both (home homes y % 64) (omega arith) o).1.0)))
          (λ x y hx hy d. d))
        where
          There : ℕ → ℕ → Type 0
          There x y = (x ≡ i) × (home homes y / 64 ≡ w)

          at_column : (y : ℕ) → home homes y / 64 ≡ w → i * n + 64 * w + home homes y % 64 ≡ i * n + home homes y
          at_column y q = omega arith

          at_number : (y : ℕ) → home homes y / 64 ≡ w → 64 * w + home homes y % 64 ≡ home homes y
          at_number y q = omega arith

          set : (y : ℕ) → y < n → home homes y / 64 ≡ w → is_set mid (i * n + home homes y) ≡ true → is_set new (i * n + y) ≡ true
          set y hy q s =
              ⊎_elim
              (λ (e : home homes y ≡ y). A.kept (i * n + y) (rw e at s))
              (λ (m : home homes y ≢ y).
              ⊎_elim
              (λ k. A.added i y hi hy (refl, (q, C.all (home homes y % 64) (omega arith) (rw (at_column y q) s) (rw (at_number y q) k))))
              (λ k. A.kept (i * n + y) (a.kept (i * n + y) k))
              (H.host y hy m))
              (same_or_not (home homes y) y)

    pub row_start : (i : ℕ) (l : List ℕ) → ExpandedIn n homes (RowBelow homes i (64 * 0)) l l
    row_start i l = nothing (RowBelow homes i (64 * 0)) l (λ x y d. let h = d.1 in omega arith)

    pub row_done : (i w : ℕ) {old new : List ℕ} → n ≤ 64 * w → ExpandedIn n homes (RowBelow homes i (64 * w)) old new → ExpandedIn n homes (Row i) old new
    row_done i w h a = same_pairs (RowBelow homes i (64 * w)) (Row i) (λ x y hx hy d. d.0) (λ x y hx hy d. (d, omega (arith, O.below y hy))) a

    -- the row of home i: the terms of its class by a mask, then those whose homes are in another
    module _ (classes : List ℕ) (i : ℕ) (hi : i < n) (own : home homes i ≡ i) {reach : List ℕ} (R : Reach n classes homes i reach) where
      pub class_expanded : {old new : List ℕ} → ClassSet n classes homes old → Adds n (MaskPair reach i i) old new → ExpandedIn n homes (ReachRow reach i) old new
      class_expanded {old} C A =
          adds_as n (MaskPair reach i i) (λ x y. ReachRow reach i x y × HomesSet n homes old x y) A
          (λ x y hx hy (e, (m, d)). let r = R.only y m hy in ((e, m), rw (e, own) (C.set i y hi hy own (sym r.0) r.1)))
          (λ x y hx hy ((e, m), w). (e, (m, λ s. (R.only y m hy).1 (rw s own))))

      pub class_covered :
          {hosts others old new : List ℕ} → n ≤ 512 → ((t : ℕ) → t < n → class classes (home homes t) ≡ class classes t) → Hosts n homes hosts → Rest hosts reach 8 others →
          Adds n (MaskPair reach i i) old new → Covered n homes others i new
      class_covered {hosts} {others} {old} {new} few same H T A = record { host = λ t h m. go t h m (in_mask reach (home homes t)) refl }
        where
          go : (t : ℕ) → t < n → home homes t ≢ t → (b : Bool) → in_mask reach (home homes t) ≡ b → (in_mask others (home homes t) ≡ true) ⊎ (is_set new (i * n + t) ≡ true)
          go t h m true e =
              let r = R.only (home homes t) e (O.below t h) in
              let d : home homes t ≢ i = λ s. r.1 (O.own t h ∙ s) in
              inr (A.added i t hi h (refl, (R.holds t h (sym (same t h) ∙ r.0) d, λ s. d (rw s own))))
          go t h m false e = inl (T.bits (home homes t) (let l = O.below t h in omega arith) ∙ rw (H.host t h m, e))

      pub row_expanded : {old mid new : List ℕ} → ExpandedIn n homes (ReachRow reach i) old mid → ExpandedIn n homes (Row i) mid new → ExpandedIn n homes (Row i) old new
      row_expanded = expanded_then (ReachRow reach i) (Row i) (Row i) (λ x y d. inr d) (λ x y d. d.0) (λ x y d. d)

    module _ (classes : List ℕ) where
      -- the rows of the homes of class a before t
      pub class_start : (a : ℕ) {f : ℕ} (l : List ℕ) → NextOf n (class classes) a 0 f → ClassLoop n classes homes a f l l
      class_start a {f} l N = record { upto = N.inside; here = N.hit; done = nothing (ClassRows classes homes a f) l (λ x y (c, (h, o)). N.none x (omega arith) h c) }

      next_row : {a t f x : ℕ} → NextOf n (class classes) (class classes t) (t + 1) f → class classes t ≡ a → x < f → class classes x ≡ a → (x < t) ⊎ (x ≡ t)
      next_row {a} {t} {f} {x} N e h c = ⊎_elim inl (λ g. ⊎_elim inr (λ (m : x ≢ t). absurd (N.none x (omega arith) h (c ∙ sym e))) (same_or_not x t)) (less_or_not x t)

      pub class_more : {a t f : ℕ} {old mid new : List ℕ} → t < n → home homes t ≡ t → NextOf n (class classes) (class classes t) (t + 1) f → ClassLoop n classes homes a t old mid → ExpandedIn n homes (Row t) mid new → ClassLoop n classes homes a f old new
      class_more {a} {t} {f} ht o N L b = record {
        upto = N.inside;
        here = λ g. N.hit g ∙ L.here ht;
        done = expanded_then (ClassRows classes homes a t) (Row t) (ClassRows classes homes a f)
            (λ x y (c, (h, w)). ⊎_elim (λ l. inl (c, (l, w))) inr (next_row N (L.here ht) h c))
            (λ x y (c, (h, w)). (c, (omega (arith, N.after), w)))
            (λ x y e. (rw e (L.here ht), (omega (arith, N.after), rw e o)))
            L.done b;
      }

      pub class_skip : {a t f : ℕ} {old new : List ℕ} → t < n → home homes t ≢ t → NextOf n (class classes) (class classes t) (t + 1) f → ClassLoop n classes homes a t old new → ClassLoop n classes homes a f old new
      class_skip {a} {t} {f} ht m N L = record {
        upto = N.inside;
        here = λ g. N.hit g ∙ L.here ht;
        done = same_pairs (ClassRows classes homes a t) (ClassRows classes homes a f)
            (λ x y hx hy (c, (h, w)). (c, (omega (arith, N.after), w)))
            (λ x y hx hy (c, (h, w)). (c, (⊎_elim (λ l. l) (λ (e : x ≡ t). absurd (m (rw e at w))) (next_row N (L.here ht) h c), w)))
            L.done;
      }

      pub class_done : {a t : ℕ} {old new : List ℕ} → n ≤ t → ClassLoop n classes homes a t old new → ExpandedIn n homes (ClassRows classes homes a n) old new
      class_done {a} {t} h L = same_pairs (ClassRows classes homes a t) (ClassRows classes homes a n) (λ x y hx hy (c, (g, w)). (c, (hx, w))) (λ x y hx hy (c, (g, w)). (c, (omega arith, w))) L.done

      -- class after class
      pub classes_start : (l : List ℕ) → ExpandedIn n homes (ClassesRows classes homes 0) l l
      classes_start l = nothing (ClassesRows classes homes 0) l (λ x y (c, o). let h = c in omega arith)

      pub classes_more : (a : ℕ) {old mid new : List ℕ} → ExpandedIn n homes (ClassesRows classes homes a) old mid → ExpandedIn n homes (ClassRows classes homes a n) mid new → ExpandedIn n homes (ClassesRows classes homes (a + 1)) old new
      classes_more a p q =
          same_pairs (λ x y. ClassesRows classes homes a x y ⊎ ClassRows classes homes a n x y) (ClassesRows classes homes (a + 1))
          (λ x y hx hy d. ⊎_elim (λ (c, o). (omega arith, o)) (λ (c, (h, o)). (omega arith, o)) d)
          (λ x y hx hy (c, o). ⊎_elim (λ l. inl (l, o)) (λ e. inr (e, (hx, o))) (last_or_before a (class classes x) c))
          (expanded_then (ClassesRows classes homes a) (ClassRows classes homes a n) (λ x y. ClassesRows classes homes a x y ⊎ ClassRows classes homes a n x y) (λ x y d. d) (λ x y d. inl d) (λ x y d. inr d) p q)

      pub classes_done : (a : ℕ) {old new : List ℕ} → ((t : ℕ) → t < n → class classes t < n) → n ≤ a → ExpandedIn n homes (ClassesRows classes homes a) old new → ExpandedIn n homes (HomeRows homes n) old new
      classes_done a low h p = same_pairs (ClassesRows classes homes a) (HomeRows homes n) (λ x y hx hy (c, o). (hx, o)) (λ x y hx hy (g, o). (let l = low x hx in omega arith, o)) p

    -- then those of the other terms
    pub guests_start : (l : List ℕ) → ExpandedIn n homes (GuestRows homes 0) l l
    guests_start l = nothing (GuestRows homes 0) l (λ x y d. let h = d.0 in omega arith)

    pub guests_skip : (k : ℕ) {old new : List ℕ} → home homes k ≡ k → ExpandedIn n homes (GuestRows homes k) old new → ExpandedIn n homes (GuestRows homes (k + 1)) old new
    guests_skip k e a =
        same_pairs (GuestRows homes k) (GuestRows homes (k + 1))
        (λ x y hx hy d. (omega (arith, d.0), d.1))
        (λ x y hx hy d. (⊎_elim (λ l. l) (λ (s : x ≡ k). absurd (d.1 (rw s e))) (last_or_before k x d.0), d.1))
        a

    -- the row of term k copied from that of its home
    pub guests_more :
        (k : ℕ) {old mid new : List ℕ} → k < n → home homes k ≢ k → Full n homes old → ExpandedIn n homes (GuestRows homes k) old mid →
        Adds n (CopyPair n (home homes k) k mid) mid new → ExpandedIn n homes (GuestRows homes (k + 1)) old new
    guests_more k {old} {mid} {new} hk m F a b =
        expanded_then (GuestRows homes k) (Row k) (GuestRows homes (k + 1))
        (λ x y d. ⊎_elim (λ g. inl (g, d.1)) (λ s. inr s) (last_or_before k x d.0))
        (λ x y d. (omega (arith, d.0), d.1))
        (λ x y d. (omega (arith, d), (rw d m)))
        a
        (adds_as n (CopyPair n h k mid) (λ x y. Row k x y × HomesSet n homes mid x y) b
        (λ x y hx hy d. (d.0, rw d.0 (a.kept (h * n + home homes y) (F.there h y hh hy (O.own k hk) (was y hy d.1)))))
        (λ x y hx hy d. (d.0, a.kept (h * n + y) (F.back h y hh hy (O.own k hk) (was (home homes y) (O.below y hy) (rw d.0 at d.1))))))
      where
        h : ℕ
        h = home homes k

        hh : h < n
        hh = O.below k hk

        -- the rows of homes are as they were
        was : (y : ℕ) → y < n → is_set mid (h * n + y) ≡ true → is_set old (h * n + y) ≡ true
        was y hy w = ⊎_elim (λ o. o) (λ d. absurd (d.0.1 (O.own k hk))) (bit_cases n (λ x y. GuestRows homes k x y × HomesSet n homes old x y) a h y hy w)

    pub guests_done : (k : ℕ) {old new : List ℕ} → n ≤ k → ExpandedIn n homes (GuestRows homes k) old new → ExpandedIn n homes (GuestRows homes n) old new
    guests_done k h a = same_pairs (GuestRows homes k) (GuestRows homes n) (λ x y hx hy d. (hx, d.1)) (λ x y hx hy d. (omega arith, d.1)) a

    -- the rows of homes, where bits were in the columns of homes
    pub homes_full : {old new : List ℕ} → HomeColumns n homes old → ExpandedIn n homes (HomeRows homes n) old new → Full n homes new
    homes_full {old} {new} C a = record { there = to; back = from }
      where
        to : (h y : ℕ) → h < n → y < n → home homes h ≡ h → is_set new (h * n + y) ≡ true → is_set new (h * n + home homes y) ≡ true
        to h y hh hy e w =
            ⊎_elim
            (λ o. a.kept (h * n + home homes y) (rw (C.column h y hh hy o) o))
            (λ d. a.kept (h * n + home homes y) (rw e at d.1))
            (bit_cases n (λ x y. HomeRows homes n x y × HomesSet n homes old x y) a h y hy w)

        from : (h y : ℕ) → h < n → y < n → home homes h ≡ h → is_set new (h * n + home homes y) ≡ true → is_set new (h * n + y) ≡ true
        from h y hh hy e w = a.added h y hh hy ((hh, e), homes_kept (HomeRows homes n) a h y hh hy (rw e w))

    pub expanded_both : {old mid new : List ℕ} → ExpandedIn n homes (HomeRows homes n) old mid → ExpandedIn n homes (GuestRows homes n) mid new → Expanded n homes old new
    expanded_both {old} a b =
        adds_as n (λ x y. (HomeRows homes n x y ⊎ GuestRows homes n x y) × HomesSet n homes old x y) (HomesSet n homes old)
        (expanded_then (HomeRows homes n) (GuestRows homes n) (λ x y. HomeRows homes n x y ⊎ GuestRows homes n x y) (λ x y d. d) (λ x y d. inl d) (λ x y d. inr d) a b)
        (λ x y hx hy d. d.1)
        (λ x y hx hy w. (⊎_elim (λ (e : home homes x ≡ x). inl (hx, e)) (λ (m : home homes x ≢ x). inr (hx, m)) (same_or_not (home homes x) x), w))
