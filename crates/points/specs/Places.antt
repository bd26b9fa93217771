-- Places: a class, and a height in it. Heights are offsets above a level that lies below all of them.
use Rattle.std.specs.Prelude.{◌≡◌, ℕ, ◌+◌, ◌*◌, ◌/◌, ◌%◌, ◌^◌, ◌<◌, ◌≤◌, Bool, true, ◌&&◌, ◌⊎◌, List, length, ◌==◌, slice_index}
use Rattle.std.proofs.Common.{sym, ◌∙◌, arith, eqb-true, eq-eqb}
use Rattle.lists.specs.Booleans.{and_true, both_true}
use Rattle.tables.specs.Limits.{most}
use Rattle.buckets.specs.Buckets.{NextOf, Chains, KeyChains, Chainable, key_of}

-- heights are below this
abbrev pub top : ℕ
top = 2 ^ 48

-- how many classes there are at most, with the one that stands for none
abbrev pub class_slots : ℕ
class_slots = 513

-- how many buckets there are for places
abbrev pub slots : ℕ
slots = 4096

-- the bucket of a place
unfoldable pub slot_of : ℕ → ℕ → ℕ
slot_of class height = (height % 2 ^ 32 + height / 2 ^ 32 * 31 + class * 40503) % 2 ^ 32 * 2654435761 % 2 ^ 32 / 2 ^ 20

-- the places of n numbers: their classes, of which the last stands for none, and their heights
pub record Column (n : ℕ) (classes heights : List ℕ) : Type 0 where
  pub few : n ≤ most
  pub classes_long : n ≤ length classes
  pub heights_long : n ≤ length heights
  pub below : (t : ℕ) → t < n → slice_index classes t ≤ n
  pub low : (t : ℕ) → t < n → slice_index heights t < top

abbrev pub class : List ℕ → ℕ → ℕ
class classes t = slice_index classes t

abbrev pub height : List ℕ → ℕ → ℕ
height heights t = slice_index heights t

-- the places of n terms, whose classes are among them
pub record Terms (n : ℕ) (classes heights : List ℕ) : Type 0 where
  pub column : Column n classes heights
  pub inside : (t : ℕ) → t < n → class classes t < n

-- i and j are in the classes a and b, and as far apart as the heights p and q
pub record At (classes heights : List ℕ) (a p b q i j : ℕ) : Type 0 where
  pub left : class classes i ≡ a
  pub right : class classes j ≡ b
  pub far : height heights i + q ≡ height heights j + p

-- in either order
abbrev pub AtEither : List ℕ → List ℕ → ℕ → ℕ → ℕ → ℕ → ℕ → ℕ → Type 0
AtEither classes heights a p b q i j = At classes heights a p b q i j ⊎ At classes heights a p b q j i

-- j is at the place (b, h)
pub record Here (classes heights : List ℕ) (b h j : ℕ) : Type 0 where
  pub class_is : class classes j ≡ b
  pub height_is : height heights j ≡ h

abbrev pub is_here : List ℕ → List ℕ → ℕ → ℕ → ℕ → Bool
is_here classes heights b h j = class classes j == b && height heights j == h

pub here_true : (classes heights : List ℕ) (b h j : ℕ) → is_here classes heights b h j ≡ true → Here classes heights b h j
here_true classes heights b h j e =
    let r = and_true (class classes j == b) _ e in
    record { class_is = eqb-true _ _ r.0; height_is = eqb-true _ _ r.1 }

pub true_here : {classes heights : List ℕ} {b h j : ℕ} → Here classes heights b h j → is_here classes heights b h j ≡ true
true_here r = both_true _ _ (eq-eqb _ _ r.class_is) (eq-eqb _ _ r.height_is)

-- i and j are as far apart as p and q, j in class b
pub record Opposite (classes heights : List ℕ) (p b q i j : ℕ) : Type 0 where
  pub class_is : class classes j ≡ b
  pub far : height heights i + q ≡ height heights j + p

-- the bucket of each number's place
abbrev pub place_slot : List ℕ → List ℕ → ℕ → ℕ
place_slot classes heights t = slot_of (class classes t) (height heights t)

-- the chains of a column by place, and by class
pub record SlotChains (n : ℕ) (classes heights first next : List ℕ) : Type 0 where
  pub chains : KeyChains n slots (place_slot classes heights) first next

pub record Chained (n : ℕ) (classes heights classFirst classNext slotFirst slotNext : List ℕ) : Type 0 where
  pub column : Column n classes heights
  pub by_class : Chains n class_slots classes classFirst classNext
  pub by_slot : SlotChains n classes heights slotFirst slotNext

slot_below : (c h : ℕ) → slot_of c h < slots
unfolding slot_of
slot_below c h = omega arith

-- what the chains of a column are made from
pub slot_keys : {n size : ℕ} {classes heights slotted next : List ℕ} → Column n classes heights → n ≤ length slotted → n ≤ length next → slots ≤ size → ((t : ℕ) → t < n → key_of slotted t ≡ place_slot classes heights t) → Chainable n size slotted next
slot_keys {n} {size} {classes} {heights} C long room enough filled = record {
  few = C.few;
  keys_long = long;
  links_long = room;
  below = λ t h. rw (filled t h) (let b = slot_below (class classes t) (height heights t) in omega arith);
}

pub class_keys : {n size : ℕ} {classes heights next : List ℕ} → Column n classes heights → n ≤ length next → size ≡ class_slots → Chainable n size classes next
class_keys C room e = record {
  few = C.few;
  keys_long = C.classes_long;
  links_long = room;
  below = λ t h. omega (arith, C.below t h, C.few);
}

module _ {n : ℕ} {classes heights first next : List ℕ} (S : SlotChains n classes heights first next) where
  pub slot_start : (k : ℕ) → k < slots → NextOf n (place_slot classes heights) k 0 (slice_index first k)
  slot_start k h = S.chains.starts.from k h

  pub slot_link : (t : ℕ) → t < n → NextOf n (place_slot classes heights) (place_slot classes heights t) (t + 1) (slice_index next t)
  slot_link t h = S.chains.links.links t (omega arith) h
