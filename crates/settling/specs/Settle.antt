-- Inverse dereferencing over a table of pair bits: tables that grow by it, pairs of homes that were looked at, and a table that it adds
-- nothing to.
use Rattle.std.specs.Prelude.{ℕ, zero, suc, ◌+◌, ◌-◌, ◌*◌, ◌/◌, ◌%◌, ◌<◌, ◌≤◌, ◌≡◌, refl, ◌≢◌, ◌⊎◌, Bool, true, false, not, ◌&&◌, ◌||◌, List, eqb, length, get_or, take, drop}
use Rattle.std.proofs.Common.{sym, ◌∙◌, inl, inr, ⊎_elim, arith, eqb-true, eq-eqb, get_or-take, get_or-drop}
use Rattle.lists.specs.Booleans.{and_true, false_true, or_cases, or_false, or_first, or_second}
use Rattle.lists.specs.Search.{choose}
use Rattle.lists.specs.Filled.{same_or_not}
use Rattle.tables.specs.Limits.{most}
use Rattle.pairbits.specs.Bits.{is_set, Bytes}
use Rattle.points.specs.Places.{class, height, At, AtEither, Column}
use Rattle.points.specs.Leads.{lead}
use Rattle.buckets.specs.Buckets.{Chains, key_of, less_or_not, NextOf}
use Rattle.words.specs.Words.{Common, in_mask, is_bit_one, mask_past, NextOne, Put, Rest}
use Rattle.marking.specs.Known.{Uniform, either_moving, uniform_adds}
use Rattle.marking.specs.Marks.{Adds, Room, bit_cases, past_kept, room_kept}

-- the numbers below m that a test does not hold of
unfoldable pub missing : (ℕ → Bool) → ℕ → ℕ
missing f zero = 0
missing f (suc m) = choose (f m) 0 1 + missing f m

one_fewer : (a b : Bool) → (a ≡ true → b ≡ true) → choose {A = ℕ} b 0 1 ≤ choose a 0 1
one_fewer true true f = omega arith
one_fewer true false f = let e = f refl in false_true refl e
one_fewer false true f = omega arith
one_fewer false false f = omega arith

missing_fewer : (f g : ℕ → Bool) (m : ℕ) → ((k : ℕ) → f k ≡ true → g k ≡ true) → missing g m ≤ missing f m
unfolding missing
missing_fewer f g zero kept = omega arith
missing_fewer f g (suc m) kept = omega (arith, one_fewer (f m) (g m) (kept m), missing_fewer f g m kept)

missing_less : (f g : ℕ → Bool) (m : ℕ) → ((k : ℕ) → f k ≡ true → g k ≡ true) → (k : ℕ) → k < m → f k ≡ false → g k ≡ true → missing g m < missing f m
unfolding missing
missing_less f g zero kept k h e d = absurd (omega arith)
missing_less f g (suc m) kept k h e d =
    ⊎_elim
    (λ (s : k ≡ m). let a : f m ≡ false = rw s at e in let b : g m ≡ true = rw s at d in rw (a, b) (omega (arith, missing_fewer f g m kept)))
    (λ (o : k ≢ m). omega (arith, one_fewer (f m) (g m) (kept m), missing_less f g m kept k (omega arith) e d))
    (same_or_not k m)

-- the points of n terms, the homes of leads as keys, the places that dereferences read, and the table of apart classes
pub record Setting : Type 0 where
  pub n : ℕ
  pub points : List ℕ
  pub heights : List ℕ
  pub keys : List ℕ
  pub reads : List ℕ
  pub read_heights : List ℕ
  pub apart : List ℕ

abbrev pub setting : ℕ → List ℕ → List ℕ → List ℕ → List ℕ → List ℕ → List ℕ → Setting
setting n points heights keys reads read_heights apart = record { n = n; points = points; heights = heights; keys = keys; reads = reads; read_heights = read_heights; apart = apart }

pub record Ready (S : Setting) : Type 0 where
  pub reading : Column S.n S.reads S.read_heights
  pub keys_long : S.n ≤ length S.keys
  pub apart_room : Room S.n S.apart

module _ (S : Setting) where
  -- the home of lead x; not below n where x is none
  abbrev pub key : ℕ → ℕ
  key x = key_of S.keys x

  -- the pairs that are different if what x and y read is: those as far apart as the places that they read
  abbrev pub Drawn : ℕ → ℕ → ℕ → ℕ → Type 0
  Drawn x y = AtEither S.points S.heights (class S.reads x) (height S.read_heights x) (class S.reads y) (height S.read_heights y)

  -- their bits are set
  pub record Moved (table : List ℕ) (x y : ℕ) : Type 0 where
    pub bits : (i j : ℕ) → i < S.n → j < S.n → Drawn x y i j → is_set table (i * S.n + j) ≡ true

  -- two leads
  pub record Reading (x y : ℕ) : Type 0 where
    pub left : x < S.n
    pub right : y < S.n
    pub left_key : key x < S.n
    pub right_key : key y < S.n
    pub left_reads : class S.reads x < S.n
    pub right_reads : class S.reads y < S.n

  -- a relation between places that moves along equalities and is kept by inverse dereferencing
  pub record InverseOf (D : ℕ → ℕ → ℕ → ℕ → Bool) : Type 0 where
    pub mirrored : {a p b q : ℕ} → D a p b q ≡ true → D b q a p ≡ true
    pub moved : {a p b q i j : ℕ} → i + q ≡ j + p → D a p b q ≡ true → D a i b j ≡ true
    pub drawn :
        {x y : ℕ} → Reading x y →
        D (class S.points (key x)) (height S.heights (key x)) (class S.points (key y)) (height S.heights (key y)) ≡ true →
        D (class S.reads x) (height S.read_heights x) (class S.reads y) (height S.read_heights y) ≡ true

  -- it holds of each pair whose bit is set
  abbrev pub HoldsIn : (ℕ → ℕ → ℕ → ℕ → Bool) → List ℕ → Type 0
  HoldsIn D table =
      (i j : ℕ) → i < S.n → j < S.n → is_set table (i * S.n + j) ≡ true → D (class S.points i) (height S.heights i) (class S.points j) (height S.heights j) ≡ true

  -- `new` is `old` with bits set that inverse dereferencing gives
  pub record Grows (old new : List ℕ) : Type 0 where
    pub long : length new ≡ length old
    pub bytes : Bytes old → Bytes new
    pub kept : (k : ℕ) → is_set old k ≡ true → is_set new k ≡ true
    pub past : (k : ℕ) → S.n * S.n ≤ k → is_set new k ≡ true → is_set old k ≡ true
    pub sound : (D : ℕ → ℕ → ℕ → ℕ → Bool) → InverseOf D → HoldsIn D old → HoldsIn D new

  -- and as many bits for terms that are as far apart
  pub record Grown (old new : List ℕ) : Type 0 where
    pub grows : Grows old new
    pub room : Room S.n new
    pub uniform : Uniform S.n S.points S.heights new

  -- inverse dereferencing gives nothing more from x and y
  pub data Settled (table : List ℕ) (x y : ℕ) : Type 0 where
    one_class : class S.reads x ≡ class S.reads y → Settled table x y
    apart_classes : is_set S.apart (class S.reads x * S.n + class S.reads y) ≡ true → Settled table x y
    moved : Moved table x y → Settled table x y

  -- nor from any leads whose homes are i and h
  pub record HomesClosed (table : List ℕ) (i h : ℕ) : Type 0 where
    pub settled : (x y : ℕ) → key x ≡ i → key y ≡ h → Reading x y → Settled table x y

  -- what holds of the table of pairs and of the mask of the pairs of homes that were looked at
  pub record Kept (table seen : List ℕ) : Type 0 where
    pub room : Room S.n table
    pub uniform : Uniform S.n S.points S.heights table
    pub long : length seen ≡ 4096
    pub closed : (v : ℕ) → in_mask seen v ≡ true → HomesClosed table (v / 512) (v % 512)

  -- what a step leaves; r says whether there are more pairs of homes that were looked at
  pub record Step (r : Bool) (old new seenOld seenNew : List ℕ) : Type 0 where
    pub grows : Grows old new
    pub kept : Kept new seenNew
    pub seen_kept : (v : ℕ) → in_mask seenOld v ≡ true → in_mask seenNew v ≡ true
    pub same : r ≡ false → (new ≡ old) × (seenNew ≡ seenOld)
    pub fresh : r ≡ true → (v : ℕ) × (v < 262144) × (in_mask seenOld v ≡ false) × (in_mask seenNew v ≡ true)

  -- what a look at x and y leaves
  pub record LookedAt (x y : ℕ) (old new : List ℕ) : Type 0 where
    pub grown : Grown old new
    pub settled : Reading x y → Settled new x y

  -- x and u are closed; u and all leads whose home is h
  abbrev pub With : ℕ → ℕ → List ℕ → Type 0
  With x u table = Reading x u → Settled table x u

  abbrev pub WithHome : ℕ → ℕ → List ℕ → Type 0
  WithHome h u table = (v : ℕ) → v < S.n → key v ≡ h → With u v table

  -- a walk along the leads whose home is h: P holds of those before t
  pub record Walking (h t : ℕ) (P : ℕ → List ℕ → Type 0) (old new : List ℕ) : Type 0 where
    pub upto : t ≤ S.n
    pub here : t < S.n → key t ≡ h
    pub grown : Grown old new
    pub done : (u : ℕ) → u < t → key u ≡ h → P u new

  -- of all of them
  pub record Walked (h : ℕ) (P : ℕ → List ℕ → Type 0) (old new : List ℕ) : Type 0 where
    pub grown : Grown old new
    pub done : (u : ℕ) → u < S.n → key u ≡ h → P u new

  -- a pair of homes whose bit is set, and that was not looked at
  pub record Fresh (table seen : List ℕ) (pair : ℕ) : Type 0 where
    pub left : pair / 512 < S.n
    pub right : pair % 512 < S.n
    pub set : is_set table (pair / 512 * S.n + pair % 512) ≡ true
    pub unseen : in_mask seen pair ≡ false

  -- what a look at a pair of homes leaves
  pub record LookedPair (pair : ℕ) (r : Bool) (old new seenOld seenNew : List ℕ) : Type 0 where
    pub step : Step r old new seenOld seenNew
    pub new_one : Fresh old seenOld pair → r ≡ true

  -- the pairs of homes at the bits of a word are such
  abbrev pub FreshBits : List ℕ → List ℕ → ℕ → ℕ → Type 0
  FreshBits table seen start word = (b : ℕ) → b < 64 → is_bit_one word b ≡ true → Fresh table seen (start + b)

  -- what looks at them leave: if nothing is done, there are none
  pub record WordSwept (start word : ℕ) (r : Bool) (old new seenOld seenNew : List ℕ) : Type 0 where
    pub step : Step r old new seenOld seenNew
    pub empty : FreshBits old seenOld start word → r ≡ false → (b : ℕ) → b < 64 → is_bit_one word b ≡ false

  -- what looks at home i with the fresh homes leave: if nothing is done, the bit of none of them is set
  pub record WordsSwept (fresh : List ℕ) (i : ℕ) (r : Bool) (old new seenOld seenNew : List ℕ) : Type 0 where
    pub step : Step r old new seenOld seenNew
    pub none : r ≡ false → (h : ℕ) → in_mask fresh h ≡ true → is_set new (i * S.n + h) ≡ true → ⊥

  -- home i with the homes of a mask
  pub record RowClosed (hosts : List ℕ) (i : ℕ) (table : List ℕ) : Type 0 where
    pub closed : (h : ℕ) → in_mask hosts h ≡ true → is_set table (i * S.n + h) ≡ true → HomesClosed table i h

  pub record RowSwept (hosts : List ℕ) (i : ℕ) (r : Bool) (old new seenOld seenNew : List ℕ) : Type 0 where
    pub step : Step r old new seenOld seenNew
    pub closed : r ≡ false → RowClosed hosts i new

  -- all leads, each with those whose homes are not after its own
  pub record TableClosed (table : List ℕ) : Type 0 where
    pub closed : (x y : ℕ) → key y ≤ key x → Reading x y → is_set table (key x * S.n + key y) ≡ true → Settled table x y

  pub record Swept (r : Bool) (old new seenOld seenNew : List ℕ) : Type 0 where
    pub step : Step r old new seenOld seenNew
    pub closed : r ≡ false → TableClosed new

  -- the last look set nothing
  pub record Settling (old new : List ℕ) : Type 0 where
    pub grows : Grows old new
    pub closed : TableClosed new

  -- the same of the first r leads
  pub record Done (r : ℕ) (leads : List ℕ) (old new : List ℕ) : Type 0 where
    pub grows : Grows old new
    pub closed :
        (u v : ℕ) → u < r → v < r → key (lead leads v) ≤ key (lead leads u) → Reading (lead leads u) (lead leads v) → is_set new (key (lead leads u) * S.n + key (lead leads v)) ≡ true →
        Settled new (lead leads u) (lead leads v)

  -- a loop that looks at a pair of homes first, then at others
  pub record Draining (start turn pair : ℕ) (c : Bool) (old new seenOld seenNew : List ℕ) : Type 0 where
    pub step : Step c old new seenOld seenNew
    pub first : turn ≡ 0 → (pair ≡ start) × (c ≡ false)
    pub later : 0 < turn → Fresh old seenOld start → c ≡ true

  -- a loop over the bits of a word that are 1: as long as nothing is done, there is none before b
  pub record Bits (start word b : ℕ) (c : Bool) (old new seenOld seenNew : List ℕ) : Type 0 where
    pub step : Step c old new seenOld seenNew
    pub hit : b < 64 → is_bit_one word b ≡ true
    pub none : FreshBits old seenOld start word → c ≡ false → (k : ℕ) → k < b → k < 64 → is_bit_one word k ≡ false

  -- a loop over the words of row i: as long as nothing is done, none of the fresh homes has its bit set
  pub record Words (fresh : List ℕ) (i w : ℕ) (c : Bool) (old new seenOld seenNew : List ℕ) : Type 0 where
    pub step : Step c old new seenOld seenNew
    pub none : c ≡ false → (h : ℕ) → h / 64 < w → in_mask fresh h ≡ true → is_set new (i * S.n + h) ≡ true → ⊥

  -- a loop over the homes: those of leads that are before i are in the mask
  pub record Rows (first hosts : List ℕ) (i : ℕ) (c : Bool) (old new seenOld seenNew : List ℕ) : Type 0 where
    pub upto : i ≤ S.n
    pub long : length hosts ≡ 8
    pub below : (h : ℕ) → in_mask hosts h ≡ true → h < i
    pub all : (h : ℕ) → h < i → get_or first h 0 < S.n → in_mask hosts h ≡ true
    pub step : Step c old new seenOld seenNew
    pub closed : c ≡ false → (u h : ℕ) → u < i → h ≤ u → get_or first u 0 < S.n → get_or first h 0 < S.n → is_set new (u * S.n + h) ≡ true → HomesClosed new u h

  -- looks so far: all is closed unless another is to follow
  pub record Looking (again : Bool) (old new seen : List ℕ) : Type 0 where
    pub grows : Grows old new
    pub kept : Kept new seen
    pub closed : again ≡ false → TableClosed new

-- the numbers of a mask are not above i, of which there are not too many
pub record Upto (i : ℕ) (mask : List ℕ) : Type 0 where
  pub upto : (h : ℕ) → in_mask mask h ≡ true → h ≤ i

-- leads that were looked at, and read places as far apart as x and y
pub record Repeated (n : ℕ) (keys reads read_heights seen : List ℕ) (x y : ℕ) : Type 0 where
  pub u : ℕ
  pub v : ℕ
  pub left : u < n
  pub right : v < n
  pub left_key : key_of keys u < n
  pub right_key : key_of keys v < n
  pub seen_pair : in_mask seen (key_of keys u * 512 + key_of keys v) ≡ true
  pub left_class : class reads u ≡ class reads x
  pub right_class : class reads v ≡ class reads y
  pub far : height read_heights u + height read_heights y ≡ height read_heights v + height read_heights x

pub repeated_true :
    {n : ℕ} (keys reads read_heights seen : List ℕ) (x y u v : ℕ) → u < n → v < n → key_of keys u < n → key_of keys v < n → in_mask seen (key_of keys u * 512 + key_of keys v) ≡ true →
    ((eqb (class reads u) (class reads x) && eqb (class reads v) (class reads y)) && eqb (height read_heights u + height read_heights y) (height read_heights v + height read_heights x)) ≡ true →
    Repeated n keys reads read_heights seen x y
repeated_true keys reads read_heights seen x y u v hu hv ku kv e t =
    let r = and_true (eqb (class reads u) (class reads x) && eqb (class reads v) (class reads y)) _ t in
    let s = and_true (eqb (class reads u) (class reads x)) _ r.0 in
    record { u = u; v = v; left = hu; right = hv; left_key = ku; right_key = kv; seen_pair = e; left_class = eqb-true _ _ s.0; right_class = eqb-true _ _ s.1; far = eqb-true _ _ r.1 }

hosted : {hosts mask : List ℕ} {i h : ℕ} → Put hosts i mask → (in_mask hosts h ≡ true) ⊎ (h ≡ i) → in_mask mask h ≡ true
hosted {hosts} {mask} {i} {h} P o = P.bits h ∙ ⊎_elim (λ e. or_first (in_mask hosts h) (eqb h i) e) (λ (e : h ≡ i). or_second (in_mask hosts h) (eqb h i) (eq-eqb h i e)) o

module _ {S : Setting} where
  grows_none : (l : List ℕ) → Grows S l l
  grows_none l = record { long = refl; bytes = λ b. b; kept = λ k e. e; past = λ k h e. e; sound = λ D I H. H }

  grows_then : {old mid new : List ℕ} → Grows S old mid → Grows S mid new → Grows S old new
  grows_then p q = record {
    long = q.long ∙ p.long;
    bytes = λ h. q.bytes (p.bytes h);
    kept = λ k e. q.kept k (p.kept k e);
    past = λ k h e. p.past k h (q.past k h e);
    sound = λ D I H. q.sound D I (p.sound D I H);
  }

  -- the pairs that different dereferences give
  grows_drawn : {x y : ℕ} {old new : List ℕ} → Reading S x y → is_set old (key S x * S.n + key S y) ≡ true → Adds S.n (Drawn S x y) old new → Grows S old new
  grows_drawn {x} {y} {old} {new} R e A = record {
    long = A.long;
    bytes = A.bytes;
    kept = A.kept;
    past = past_kept S.n (Drawn S x y) A;
    sound = λ D I H i j hi hj s. ⊎_elim (H i j hi hj) (holds D I (H (key S x) (key S y) R.left_key R.right_key e) i j) (bit_cases S.n (Drawn S x y) A i j hj s);
  }
    where
      holds :
          (D : ℕ → ℕ → ℕ → ℕ → Bool) → InverseOf S D →
          D (class S.points (key S x)) (height S.heights (key S x)) (class S.points (key S y)) (height S.heights (key S y)) ≡ true →
          (i j : ℕ) → Drawn S x y i j → D (class S.points i) (height S.heights i) (class S.points j) (height S.heights j) ≡ true
      holds D I d i j (inl a) = rw (a.left, a.right) (I.moved a.far (I.drawn R d))
      holds D I d i j (inr a) = I.mirrored (rw (a.left, a.right) (I.moved a.far (I.drawn R d)))

  pub grown_none : {l seen : List ℕ} → Kept S l seen → Grown S l l
  grown_none {l} K = record { grows = grows_none l; room = K.room; uniform = K.uniform }

  grown_then : {old mid new : List ℕ} → Grown S old mid → Grown S mid new → Grown S old new
  grown_then p q = record { grows = grows_then p.grows q.grows; room = q.room; uniform = q.uniform }

  settled_grown : {old new : List ℕ} {x y : ℕ} → Grows S old new → Settled S old x y → Settled S new x y
  settled_grown g (one_class e) = one_class e
  settled_grown g (apart_classes e) = apart_classes e
  settled_grown g (moved m) = moved (record { bits = λ i j hi hj d. g.kept (i * S.n + j) (m.bits i j hi hj d) })

  homes_grown : {old new : List ℕ} {i h : ℕ} → Grows S old new → HomesClosed S old i h → HomesClosed S new i h
  homes_grown g C = record { settled = λ x y a b R. settled_grown g (C.settled x y a b R) }

  pub kept_grown : {old new seen : List ℕ} → Kept S old seen → Grown S old new → Kept S new seen
  kept_grown K g = record { room = g.room; uniform = g.uniform; long = K.long; closed = λ v e. homes_grown g.grows (K.closed v e) }

  -- looks that set nothing
  module _ {x y : ℕ} {l seen : List ℕ} (K : Kept S l seen) where
    pub looked_class : class S.reads x ≡ class S.reads y → LookedAt S x y l l
    looked_class e = record { grown = grown_none K; settled = λ _. one_class e }

    pub looked_unread : S.n ≤ class S.reads x → LookedAt S x y l l
    looked_unread h = record { grown = grown_none K; settled = λ R. absurd (omega (arith, R.left_reads)) }

    pub looked_unread_right : S.n ≤ class S.reads y → LookedAt S x y l l
    looked_unread_right h = record { grown = grown_none K; settled = λ R. absurd (omega (arith, R.right_reads)) }

    pub looked_apart : is_set S.apart (class S.reads x * S.n + class S.reads y) ≡ true → LookedAt S x y l l
    looked_apart e = record { grown = grown_none K; settled = λ _. apart_classes e }

    -- dereferences that read places as far apart give the same pairs
    pub looked_repeated :
        S.n ≤ most → class S.reads x ≢ class S.reads y → is_set S.apart (class S.reads x * S.n + class S.reads y) ≡ false →
        Repeated S.n S.keys S.reads S.read_heights seen x y → LookedAt S x y l l
    looked_repeated few differ clear W = record { grown = grown_none K; settled = λ R. go (there R) }
      where
        there : Reading S x y → Settled S l W.u W.v
        there R =
            (K.closed (key S W.u * 512 + key S W.v) W.seen_pair).settled W.u W.v (omega (arith, W.right_key)) (omega (arith, W.right_key))
            (record { left = W.left; right = W.right; left_key = W.left_key; right_key = W.right_key; left_reads = rw W.left_class R.left_reads; right_reads = rw W.right_class R.right_reads })

        as_far : (i j : ℕ) → At S.points S.heights (class S.reads x) (height S.read_heights x) (class S.reads y) (height S.read_heights y) i j → At S.points S.heights (class S.reads W.u) (height S.read_heights W.u) (class S.reads W.v) (height S.read_heights W.v) i j
        as_far i j d = record { left = d.left ∙ sym W.left_class; right = d.right ∙ sym W.right_class; far = let e = d.far in let f = W.far in omega arith }

        go : Settled S l W.u W.v → Settled S l x y
        go (one_class e) = absurd (differ (sym W.left_class ∙ e ∙ W.right_class))
        go (apart_classes e) = false_true clear (rw (W.left_class, W.right_class) at e)
        go (moved m) = moved (record { bits = λ i j hi hj d. m.bits i j hi hj (⊎_elim (λ a. inl (as_far i j a)) (λ a. inr (as_far j i a)) d) })

    -- the pairs that they give are set
    pub looked_drawn : {new : List ℕ} → x < S.n → y < S.n → key S x < S.n → key S y < S.n → class S.reads x < S.n → class S.reads y < S.n → is_set l (key S x * S.n + key S y) ≡ true → Adds S.n (Drawn S x y) l new → LookedAt S x y l new
    looked_drawn hx hy kx ky rx ry e A = record {
      grown = record {
        grows = grows_drawn (record { left = hx; right = hy; left_key = kx; right_key = ky; left_reads = rx; right_reads = ry }) e A;
        room = room_kept S.n A K.room;
        uniform = uniform_adds (Drawn S x y) (either_moving S.n S.points S.heights _ _ _ _) K.uniform A;
      };
      settled = λ _. moved (record { bits = A.added });
    }

  -- walks along the leads of one home
  module _ {h : ℕ} {P : ℕ → List ℕ → Type 0} where
    pub walk_start : {f : ℕ} {l seen : List ℕ} → NextOf S.n (key S) h 0 f → Kept S l seen → Walking S h f P l l
    walk_start N K = record { upto = N.inside; here = N.hit; grown = grown_none K; done = λ u g e. absurd (N.none u (omega arith) g e) }

    pub walk_more :
        {t f : ℕ} {old mid new : List ℕ} → t < S.n → NextOf S.n (key S) (key S t) (t + 1) f → ((u : ℕ) → Grows S mid new → P u mid → P u new) →
        Walking S h t P old mid → Grown S mid new → P t new → Walking S h f P old new
    walk_more {t} {f} {new = new} ht N keeps W g p = record {
      upto = N.inside;
      here = λ l. N.hit l ∙ W.here ht;
      grown = grown_then W.grown g;
      done = λ u l e. ⊎_elim (λ o. keeps u g.grows (W.done u o e)) (λ o. ⊎_elim (λ (s : u ≡ t). rw s p) (λ (m : u ≢ t). absurd (N.none u (omega arith) l (e ∙ sym (W.here ht)))) (same_or_not u t)) (less_or_not u t);
    }

    pub walk_done : {t : ℕ} {old new : List ℕ} → S.n ≤ t → Walking S h t P old new → Walked S h P old new
    walk_done l W = record { grown = W.grown; done = λ u g e. W.done u (omega arith) e }

  pub with_grown : {x : ℕ} {old new : List ℕ} (u : ℕ) → Grows S old new → With S x u old → With S x u new
  with_grown u g w R = settled_grown g (w R)

  pub home_grown : {h : ℕ} {old new : List ℕ} (u : ℕ) → Grows S old new → WithHome S h u old → WithHome S h u new
  home_grown u g w v l e R = settled_grown g (w v l e R)

  -- steps
  pub step_none : {l seen : List ℕ} → Kept S l seen → Step S false l l seen seen
  step_none {l} K = record { grows = grows_none l; kept = K; seen_kept = λ v e. e; same = λ _. (refl, refl); fresh = λ e. false_true refl e }

  pub step_then : {a b : Bool} {old mid new seenOld seenMid seenNew : List ℕ} → Step S a old mid seenOld seenMid → Step S b mid new seenMid seenNew → Step S (a || b) old new seenOld seenNew
  step_then {a} {b} {seenOld = seenOld} {seenNew = seenNew} p q = record {
    grows = grows_then p.grows q.grows;
    kept = q.kept;
    seen_kept = λ v e. q.seen_kept v (p.seen_kept v e);
    same = λ e. let r = or_false a b e in ((q.same r.1).0 ∙ (p.same r.0).0, (q.same r.1).1 ∙ (p.same r.0).1);
    fresh = λ e. ⊎_elim (λ f. let r = p.fresh f in (r.0, r.1, r.2, q.seen_kept r.0 r.3)) (λ f. later f (in_mask seenOld (q.fresh f).0) refl) (or_cases a b e);
  }
    where
      later : (f : b ≡ true) (t : Bool) → in_mask seenOld (q.fresh f).0 ≡ t → (v : ℕ) × (v < 262144) × (in_mask seenOld v ≡ false) × (in_mask seenNew v ≡ true)
      later f false e = let r = q.fresh f in (r.0, r.1, e, r.3)
      later f true e = let r = q.fresh f in false_true r.2 (p.seen_kept r.0 e)

  pub step_long : {r : Bool} {old new seenOld seenNew : List ℕ} → Kept S old seenOld → Step S r old new seenOld seenNew → length seenNew ≡ length seenOld
  step_long K p = p.kept.long ∙ sym K.long

  -- a look at a pair of homes
  module _ {pair : ℕ} where
    pub pair_off : {l seen : List ℕ} → Kept S l seen → (Fresh S l seen pair → ⊥) → LookedPair S pair false l l seen seen
    pair_off K no-look = record { step = step_none K; new_one = λ F. absurd (no-look F) }

    pub pair_looked :
        {old new seenOld seenNew : List ℕ} → pair < 262144 → Kept S old seenOld → in_mask seenOld pair ≡ false →
        Walked S (pair / 512) (WithHome S (pair % 512)) old new → Put seenOld pair seenNew → LookedPair S pair true old new seenOld seenNew
    pair_looked {old} {new} {seenOld} {seenNew} few K e W P = record {
      step = record {
        grows = W.grown.grows;
        kept = record { room = W.grown.room; uniform = W.grown.uniform; long = P.long ∙ K.long; closed = λ v m. ⊎_elim (λ o. homes_grown W.grown.grows (K.closed v o)) (λ o. rw (eqb-true v pair o) here) (or_cases (in_mask seenOld v) (eqb v pair) (sym (P.bits v) ∙ m)) };
        seen_kept = λ v m. P.bits v ∙ or_first (in_mask seenOld v) (eqb v pair) m;
        same = λ f. false_true f refl;
        fresh = λ _. (pair, few, e, P.bits pair ∙ or_second (in_mask seenOld pair) (eqb pair pair) (eq-eqb pair pair refl));
      };
      new_one = λ _. refl;
    }
      where
        here : HomesClosed S new (pair / 512) (pair % 512)
        here = record { settled = λ x y a b R. W.done x R.left a y R.right b R }

  pub draining_start : {start : ℕ} {l seen : List ℕ} → Kept S l seen → Draining S start 0 start false l l seen seen
  draining_start K = record { step = step_none K; first = λ _. (refl, refl); later = λ h. absurd (omega arith) }

  pub draining_more :
      {start turn pair next : ℕ} {c r : Bool} {old mid new seenOld seenMid seenNew : List ℕ} → Draining S start turn pair c old mid seenOld seenMid → LookedPair S pair r mid new seenMid seenNew →
      Draining S start (turn + 1) next (c || r) old new seenOld seenNew
  draining_more {start} {turn} {pair} {next} {c} {r} {old} {mid} {new} {seenOld} {seenMid} D q = record {
    step = step_then D.step q.step;
    first = λ e. absurd (omega arith);
    later = λ _ F. ⊎_elim (λ (z : turn ≡ 0). or_second c r (q.new_one (fresh_now z F))) (λ (m : turn ≢ 0). or_first c r (D.later (omega arith) F)) (same_or_not turn 0);
  }
    where
      fresh_now : turn ≡ 0 → Fresh S old seenOld start → Fresh S mid seenMid pair
      fresh_now z F = let f = D.first z in let s = D.step.same f.1 in rw (f.0, s.0, s.1) F

  pub draining_done : {start turn pair : ℕ} {c : Bool} {old new seenOld seenNew : List ℕ} → 0 < turn → Draining S start turn pair c old new seenOld seenNew → LookedPair S start c old new seenOld seenNew
  draining_done h D = record { step = D.step; new_one = D.later h }

  pub bits_start : {start word b : ℕ} {l seen : List ℕ} → Kept S l seen → NextOne word 0 b → Bits S start word b false l l seen seen
  bits_start K N = record { step = step_none K; hit = N.hit; none = λ _ _ k h. N.none k (omega arith) h }

  -- something was done
  bits_done : {start word b : ℕ} {c r : Bool} {old mid new seenOld seenMid seenNew : List ℕ} → b < 64 → Bits S start word b c old mid seenOld seenMid → LookedPair S (start + b) r mid new seenMid seenNew → FreshBits S old seenOld start word → (c || r) ≡ true
  bits_done {start} {word} {b} {c} {r} {old} {mid} {seenOld = seenOld} {seenMid = seenMid} h B q F = go c refl
    where
      go : (t : Bool) → c ≡ t → (c || r) ≡ true
      go true e = or_first c r e
      go false e = let s = B.step.same e in let f : Fresh S old seenOld (start + b) = F b h (B.hit h) in or_second c r (q.new_one (rw (s.0, s.1) f))

  pub bits_more :
      {start word b next : ℕ} {c r : Bool} {old mid new seenOld seenMid seenNew : List ℕ} → b < 64 → Bits S start word b c old mid seenOld seenMid → LookedPair S (start + b) r mid new seenMid seenNew → NextOne word (b + 1) next →
      Bits S start word next (c || r) old new seenOld seenNew
  bits_more h B q N = record { step = step_then B.step q.step; hit = N.hit; none = λ F e. false_true e (bits_done h B q F) }

  pub bits_left :
      {start word b : ℕ} {c r : Bool} {old mid new seenOld seenMid seenNew : List ℕ} → b < 64 → Bits S start word b c old mid seenOld seenMid → LookedPair S (start + b) r mid new seenMid seenNew →
      WordSwept S start word (c || r) old new seenOld seenNew
  bits_left h B q = record { step = step_then B.step q.step; empty = λ F e. false_true e (bits_done h B q F) }

  pub bits_end : {start word b : ℕ} {c : Bool} {old new seenOld seenNew : List ℕ} → 64 ≤ b → Bits S start word b c old new seenOld seenNew → WordSwept S start word c old new seenOld seenNew
  bits_end h B = record { step = B.step; empty = λ F e k l. B.none F e k (omega arith) l }

  pub words_start : {fresh : List ℕ} {i : ℕ} {l seen : List ℕ} → Kept S l seen → Words S fresh i 0 false l l seen seen
  words_start K = record { step = step_none K; none = λ _ h g. absurd (omega arith) }

  pub words_left : {fresh : List ℕ} {i start word w : ℕ} {c r : Bool} {old mid new seenOld seenMid seenNew : List ℕ} → (c || r) ≡ true → Words S fresh i w c old mid seenOld seenMid → WordSwept S start word r mid new seenMid seenNew → WordsSwept S fresh i true old new seenOld seenNew
  words_left e L q = record { step = rw e at (step_then L.step q.step); none = λ f. false_true f refl }

  pub rows_upto : {first hosts mask : List ℕ} {i : ℕ} {c : Bool} {old new seenOld seenNew : List ℕ} → Rows S first hosts i c old new seenOld seenNew → Put hosts i mask → Upto i mask
  rows_upto {hosts = hosts} {i = i} L P = record { upto = λ h e. ⊎_elim (λ o. omega (arith, L.below h o)) (λ o. omega (arith, eqb-true h i o)) (or_cases (in_mask hosts h) (eqb h i) (sym (P.bits h) ∙ e)) }

  pub rows_start : {first hosts : List ℕ} {l seen : List ℕ} → Kept S l seen → length hosts ≡ 8 → ((h : ℕ) → in_mask hosts h ≡ false) → Rows S first hosts 0 false l l seen seen
  rows_start K long empty = record { upto = omega arith; long = long; below = λ h e. false_true (empty h) e; all = λ h l. absurd (omega arith); step = step_none K; closed = λ _ u h l. absurd (omega arith) }

  -- i is the home of no lead
  pub rows_skip : {first hosts : List ℕ} {i : ℕ} {c : Bool} {old new seenOld seenNew : List ℕ} → i < S.n → S.n ≤ get_or first i 0 → Rows S first hosts i c old new seenOld seenNew → Rows S first hosts (i + 1) c old new seenOld seenNew
  rows_skip {first} {hosts} {i} {c} {old} {new} hi none L = record {
    upto = omega arith;
    long = L.long;
    below = λ h e. omega (arith, L.below h e);
    all = λ h l g. L.all h (earlier h l g) g;
    step = L.step;
    closed = λ e u h l o gu gh s. L.closed e u h (earlier u l gu) o gu gh s;
  }
    where
      earlier : (h : ℕ) → h < i + 1 → get_or first h 0 < S.n → h < i
      earlier h l g = ⊎_elim (λ (e : h ≡ i). let q : get_or first i 0 < S.n = rw e at g in absurd (omega arith)) (λ (m : h ≢ i). omega arith) (same_or_not h i)

  pub rows_more :
      {first hosts mask : List ℕ} {i : ℕ} {c r : Bool} {old mid new seenOld seenMid seenNew : List ℕ} → i < S.n → Rows S first hosts i c old mid seenOld seenMid → Put hosts i mask → RowSwept S mask i r mid new seenMid seenNew →
      Rows S first mask (i + 1) (c || r) old new seenOld seenNew
  rows_more {first} {hosts} {mask} {i} {c} {r} {old} {mid} {new} hi L P q = record {
    upto = omega arith;
    long = P.long ∙ L.long;
    below = λ h e. omega (arith, (rows_upto L P).upto h e);
    all = λ h l g. in_mask_lem h l g;
    step = step_then L.step q.step;
    closed = λ e u h l o gu gh s. let t = or_false c r e in ⊎_elim (λ (a : u ≡ i). here t.1 u h a o gh s) (λ (m : u ≢ i). earlier t.0 t.1 u h (omega arith) o gu gh s) (same_or_not u i);
  }
    where
      in_mask_lem : (h : ℕ) → h < i + 1 → get_or first h 0 < S.n → in_mask mask h ≡ true
      in_mask_lem h l g = hosted P (⊎_elim (λ (e : h ≡ i). inr e) (λ (m : h ≢ i). inl (L.all h (omega arith) g)) (same_or_not h i))

      here : r ≡ false → (u h : ℕ) → u ≡ i → h ≤ u → get_or first h 0 < S.n → is_set new (u * S.n + h) ≡ true → HomesClosed S new u h
      here f u h a o gh s = rw a ((q.closed f).closed h (in_mask_lem h (omega arith) gh) (rw a at s))

      earlier : c ≡ false → r ≡ false → (u h : ℕ) → u < i → h ≤ u → get_or first u 0 < S.n → get_or first h 0 < S.n → is_set new (u * S.n + h) ≡ true → HomesClosed S new u h
      earlier e f u h l o gu gh s = homes_grown q.step.grows (L.closed e u h l o gu gh (rw (q.step.same f).0 at s))

  pub rows_left :
      {first hosts mask : List ℕ} {i : ℕ} {c r : Bool} {old mid new seenOld seenMid seenNew : List ℕ} → (c || r) ≡ true → Rows S first hosts i c old mid seenOld seenMid → RowSwept S mask i r mid new seenMid seenNew → Swept S true old new seenOld seenNew
  rows_left e L q = record { step = rw e at (step_then L.step q.step); closed = λ f. false_true f refl }

  pub rows_done :
      {size : ℕ} {first next hosts : List ℕ} {i : ℕ} {c : Bool} {old new seenOld seenNew : List ℕ} → Chains S.n size S.keys first next → S.n ≤ size → S.n ≤ i → Rows S first hosts i c old new seenOld seenNew → Swept S c old new seenOld seenNew
  rows_done {size} {first} {next} {hosts} {i} {c} {old} {new} C enough h L = record {
    step = L.step;
    closed = λ e. record { closed = λ x y o R s. (L.closed e (key S x) (key S y) (omega (arith, R.left_key)) o (is_host x R.left R.left_key) (is_host y R.right R.right_key) s).settled x y refl refl R };
  }
    where
      is_host : (x : ℕ) → x < S.n → key S x < S.n → get_or first (key S x) 0 < S.n
      is_host x hx kx = ⊎_elim (λ l. l) (λ (g : S.n ≤ get_or first (key S x) 0). absurd ((C.starts.from (key S x) (omega arith)).none x (omega arith) (omega arith) refl)) (less_or_not (get_or first (key S x) 0) S.n)

  pub looking_start : {l seen : List ℕ} → Kept S l seen → Looking S true l l seen
  looking_start {l} K = record { grows = grows_none l; kept = K; closed = λ e. false_true e refl }

  pub looking_more : {a again : Bool} {old mid new seenMid seenNew : List ℕ} → Looking S a old mid seenMid → Swept S again mid new seenMid seenNew → Looking S again old new seenNew
  looking_more p q = record { grows = grows_then p.grows q.step.grows; kept = q.step.kept; closed = q.closed }

  pub looking_done : {again : Bool} {old new seen : List ℕ} → again ≡ false → Looking S again old new seen → Settling S old new
  looking_done e p = record { grows = p.grows; closed = p.closed e }

  -- a first look that set nothing, and one before others
  pub settling_first : {a : Bool} {old new seenOld seenNew : List ℕ} → a ≡ false → Swept S a old new seenOld seenNew → Settling S old new
  settling_first e p = record { grows = p.step.grows; closed = p.closed e }

  pub settling_after : {a : Bool} {old mid new seenOld seenMid : List ℕ} → Swept S a old mid seenOld seenMid → Settling S mid new → Settling S old new
  settling_after p d = record { grows = grows_then p.step.grows d.grows; closed = d.closed }

-- homes up to i that were not looked at with it
pub record FreshIn (i : ℕ) (fresh seen : List ℕ) : Type 0 where
  pub upto : (h : ℕ) → in_mask fresh h ≡ true → h ≤ i
  pub unseen : (h : ℕ) → in_mask fresh h ≡ true → in_mask seen (i * 512 + h) ≡ false

module _ (S : Setting) {fresh seenOld : List ℕ} {i : ℕ} (few : S.n ≤ most) (hi : i < S.n) (F : FreshIn i fresh seenOld) where
  pub words_more :
      {w word : ℕ} {c r : Bool} {old mid new seenMid seenNew : List ℕ} → Words S fresh i w c old mid seenOld seenMid → Common (i * S.n) mid fresh (64 * w) word →
      WordSwept S (i * 512 + 64 * w) word r mid new seenMid seenNew → Words S fresh i (w + 1) (c || r) old new seenOld seenNew
  words_more {w} {word} {c} {r} {old} {mid} {new} {seenMid} {seenNew} L C q = record {
    step = step_then L.step q.step;
    none = λ e. let s = or_false c r e in both s.0 s.1;
  }
    where
      bits : c ≡ false → FreshBits S mid seenMid (i * 512 + 64 * w) word
      bits e b l o =
          let t = C.both b l o in
          let u = F.upto (64 * w + b) t.1.1 in
          let d : (i * 512 + 64 * w + b) / 512 ≡ i = omega arith in
          let m : (i * 512 + 64 * w + b) % 512 ≡ 64 * w + b = omega arith in
          let z : i * S.n + 64 * w + b ≡ i * S.n + (64 * w + b) = omega arith in
          let a : i * 512 + 64 * w + b ≡ i * 512 + (64 * w + b) = omega arith in
          record { left = rw d hi; right = rw m (omega arith); set = rw (d, m, ← z) t.1.0; unseen = rw ((L.step.same e).1, a) (F.unseen (64 * w + b) t.1.1) }

      both : c ≡ false → r ≡ false → (h : ℕ) → h / 64 < w + 1 → in_mask fresh h ≡ true → is_set new (i * S.n + h) ≡ true → ⊥
      both e f h l m o =
          ⊎_elim (λ (g : h / 64 < w). L.none e h g m (rw (q.step.same f).0 at o))
          (λ (g : w ≤ h / 64).
          let s : 64 * w + h % 64 ≡ h = omega arith in
          let z : i * S.n + 64 * w + h % 64 ≡ i * S.n + h = omega arith in
          let v : (64 * w) % 64 + h % 64 < 64 = omega arith in
          let p : is_set mid (i * S.n + h) ≡ true = rw (q.step.same f).0 at o in
          false_true (q.empty (bits e) f (h % 64) (omega arith)) (C.all (h % 64) v (rw z p) (rw s m)))
          (less_or_not (h / 64) w)

  pub words_done : {w : ℕ} {c : Bool} {old new seenNew : List ℕ} → i / 64 < w → Words S fresh i w c old new seenOld seenNew → WordsSwept S fresh i c old new seenOld seenNew
  words_done hw L = record { step = L.step; none = λ e h m. L.none e h (omega (arith, F.upto h m)) m }

-- the row of home i in the mask of what was looked at
pub row_part : (seen : List ℕ) (i h : ℕ) → h < 512 → in_mask (take (8 * i + 8 - 8 * i) (drop (8 * i) seen)) h ≡ in_mask seen (i * 512 + h)
unfolding in_mask
row_part seen i h l =
    let a : (i * 512 + h) / 64 ≡ 8 * i + h / 64 = omega arith in
    let b : (i * 512 + h) % 64 ≡ h % 64 = omega arith in
    rw (a, b, get_or-take (8 * i + 8 - 8 * i) (drop (8 * i) seen) (h / 64) 0 (omega arith), get_or-drop (8 * i) seen (h / 64) 0)

-- the rest of a mask that is not in that row
module _ (seen : List ℕ) {hosts fresh : List ℕ} {i : ℕ} (few : i < most) (U : Upto i hosts) (X : Rest hosts (take (8 * i + 8 - 8 * i) (drop (8 * i) seen)) 8 fresh) where
  rest_bits : (h : ℕ) → h < 512 → in_mask fresh h ≡ (in_mask hosts h && not (in_mask seen (i * 512 + h)))
  rest_bits h l = X.bits h (omega arith) ∙ rw (row_part seen i h l)

  fresh_low : (h : ℕ) → in_mask fresh h ≡ true → h < 512
  fresh_low h e = ⊎_elim (λ l. l) (λ (g : 512 ≤ h). false_true (mask_past fresh h (omega (arith, X.long))) e) (less_or_not h 512)

  pub fresh_rest : FreshIn i fresh seen
  fresh_rest = record { upto = λ h e. U.upto h (parts h e).0; unseen = λ h e. not_so (in_mask seen (i * 512 + h)) (parts h e).1 }
    where
      parts : (h : ℕ) → in_mask fresh h ≡ true → (in_mask hosts h ≡ true) × (not (in_mask seen (i * 512 + h)) ≡ true)
      parts h e = and_true (in_mask hosts h) _ (sym (rest_bits h (fresh_low h e)) ∙ e)

      not_so : (t : Bool) → not t ≡ true → t ≡ false
      not_so true f = sym f
      not_so false f = refl

  pub row_swept : (S : Setting) {c : Bool} {old new seenNew : List ℕ} → WordsSwept S fresh i c old new seen seenNew → RowSwept S hosts i c old new seen seenNew
  row_swept S {c} {old} {new} {seenNew} q = record {
    step = q.step;
    closed = λ e. record { closed = λ h m o. go e h m o (in_mask fresh h) refl };
  }
    where
      go : c ≡ false → (h : ℕ) → in_mask hosts h ≡ true → is_set new (i * S.n + h) ≡ true → (t : Bool) → in_mask fresh h ≡ t → HomesClosed S new i h
      go e h m o true f = absurd (q.none e h f o)
      go e h m o false f =
          let l : h < 512 = omega (arith, U.upto h m) in
          let d : (i * 512 + h) / 512 ≡ i = omega arith in
          let g : (i * 512 + h) % 512 ≡ h = omega arith in
          rw (d, g) at (q.step.kept.closed (i * 512 + h) (q.step.seen_kept (i * 512 + h) (is_so (in_mask seen (i * 512 + h)) (sym (rest_bits h l) ∙ f))))
        where
          is_so : (t : Bool) → (in_mask hosts h && not t) ≡ false → t ≡ true
          is_so true z = refl
          is_so false z = false_true z (rw m)

-- how much is left: the pairs of homes that were not looked at, and one for a further look
abbrev pub left : Bool → List ℕ → ℕ
left again seen = choose again 1 0 + missing (in_mask seen) 262144

pub left_less : {S : Setting} {again : Bool} {mid new seenMid seenNew : List ℕ} → Swept S again mid new seenMid seenNew → left again seenNew < left true seenMid
left_less {S} {again} {mid} {new} {seenMid} {seenNew} q = go again refl
  where
    go : (b : Bool) → again ≡ b → left b seenNew < left true seenMid
    go true e = let f = q.step.fresh e in omega (arith, missing_less (in_mask seenMid) (in_mask seenNew) 262144 q.step.seen_kept f.0 f.1 f.2 f.3)
    go false e = omega (arith, missing_fewer (in_mask seenMid) (in_mask seenNew) 262144 q.step.seen_kept)
