-- The disequalities by their left class and the distance of their sides, and chains of them.
use Rattle.std.specs.Prelude.{ℕ, ◌+◌, ◌-◌, ◌<◌, ◌≤◌, ◌≡◌, List, length}
use Rattle.std.proofs.Common.{arith}
use Rattle.lists.specs.Filled.{Filled}
use Rattle.lists.specs.Tabulate.{tabulate, from_zero}
use Rattle.tables.specs.Limits.{most}
use Rattle.buckets.specs.Buckets.{Chainable, Chains, key_chains}
use Rattle.points.specs.Places.{class, height, slot_of, SlotChains, slots, top}

-- how far the height p is above q, as a number
abbrev pub distance : ℕ → ℕ → ℕ
distance p q = p + top - q

-- heights as far apart have one distance
pub same_distance : (g h p q : ℕ) → h < top → q < top → g + q ≡ h + p → distance g h ≡ distance p q
same_distance g h p q lh lq e = omega arith

-- the left classes of m propositions, and the heights of their sides
pub record SideColumns (m : ℕ) (leftClasses leftHeights rightHeights : List ℕ) : Type 0 where
  pub few : m ≤ most
  pub classes_long : m ≤ length leftClasses
  pub left_long : m ≤ length leftHeights
  pub right_long : m ≤ length rightHeights
  pub below : (k : ℕ) → k < m → class leftClasses k ≤ most
  pub left_low : (k : ℕ) → k < m → height leftHeights k < top
  pub right_low : (k : ℕ) → k < m → height rightHeights k < top

-- the bucket of proposition k
abbrev pub slot_of_side : List ℕ → List ℕ → List ℕ → ℕ → ℕ
slot_of_side leftClasses leftHeights rightHeights k = slot_of (class leftClasses k) (distance (height leftHeights k) (height rightHeights k))

-- the distance of the sides of each of m propositions
unfoldable pub distances : ℕ → List ℕ → List ℕ → List ℕ
distances m leftHeights rightHeights = tabulate (λ k. distance (height leftHeights k) (height rightHeights k)) 0 m

pub distance_at : (m : ℕ) (leftHeights rightHeights : List ℕ) (k : ℕ) → k < m → height (distances m leftHeights rightHeights) k ≡ distance (height leftHeights k) (height rightHeights k)
unfolding distances
distance_at m leftHeights rightHeights k h = from_zero (λ k. distance (height leftHeights k) (height rightHeights k)) m k 0 h

-- the chains of the propositions by left class and distance
abbrev pub SideChains : ℕ → List ℕ → List ℕ → List ℕ → List ℕ → List ℕ → Type 0
SideChains m leftClasses leftHeights rightHeights first next = SlotChains m leftClasses (distances m leftHeights rightHeights) first next

slot_low : (c h : ℕ) → slot_of c h < slots
unfolding slot_of
slot_low c h = omega arith

-- what they are made from
pub side_keys :
    {m size : ℕ} {leftClasses leftHeights rightHeights keys next : List ℕ} →
    SideColumns m leftClasses leftHeights rightHeights →
    Filled (slot_of_side leftClasses leftHeights rightHeights) 0 m most keys →
    m ≤ length next →
    size ≡ slots →
    Chainable m size keys next
side_keys {m} {size} {leftClasses} {leftHeights} {rightHeights} C F room e = record {
  few = C.few;
  keys_long = omega (arith, F.long, C.few);
  links_long = room;
  below = λ k h. rw (F.done k h) (let b = slot_low (class leftClasses k) (distance (height leftHeights k) (height rightHeights k)) in omega arith);
}

pub side_chains :
    {m : ℕ} {leftClasses keys first next : List ℕ} (leftHeights rightHeights : List ℕ) →
    Filled (slot_of_side leftClasses leftHeights rightHeights) 0 m most keys →
    Chains m slots keys first next →
    SideChains m leftClasses leftHeights rightHeights first next
side_chains {m} {leftClasses} {keys} leftHeights rightHeights F C = record {
  chains = key_chains (λ k h. rw (distance_at m leftHeights rightHeights k h) (F.done k h)) C;
}
