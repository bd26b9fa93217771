-- Blocks apart and terms different, computed from the closure's labelling: by the classes of two terms and the distance between them.
use Rattle.std.specs.Prelude.{ℕ, zero, suc, Bool, not, ◌&&◌, ◌||◌, List, ◌∷◌, eqb, ℤ, pos, neg_ℤ, ◌+ℤ◌, ◌-ℤ◌}
use Rattle.std.proofs.Math.Option.{Option, none, some}
use Rattle.integers.specs.Compare.{eq_ℤ}
use Rattle.lists.specs.Search.{any, find}
use Rattle.lists.specs.Collect.{cross}
use Rattle.lists.specs.Counting.{count}
use Rattle.rules.specs.Terms.{Term, Comparison}
use Rattle.rules.specs.Assignments.{Placement}
use Rattle.closure.specs.Facts.{Facts, Pair, pair, comparison}
use Rattle.closure.specs.Closure.{Deref, derefs}

-- how far t1 stands above z + t2
abbrev pub distance : Placement → ℕ → ℤ → ℕ → ℤ
distance P t1 z t2 = P.position t1 -ℤ (z +ℤ P.position t2)

-- two dereferences, and the comparison of the addresses that they read
abbrev pub Two : Type 0
Two = Deref × Deref

abbrev pub addresses : Two → Comparison
addresses (x, y) = comparison x.inner (y.offset -ℤ x.offset) y.inner

module _ (P : Placement) where
  -- a is the class of the pair's first term, and b that of its second
  unfoldable pub classes_are : Pair → ℕ → ℕ → Bool
  classes_are p a b = eqb (P.block p.first) a && eqb (P.block p.second) b

  -- the classes a and b are given apart
  unfoldable pub apart : List Pair → ℕ → ℕ → Bool
  apart ps a b = any (λ p. classes_are p a b || classes_are p b a) ps

  -- one class, at another offset
  unfoldable pub is_other_offset : ℕ → ℕ → ℤ → Bool
  is_other_offset a b d = eqb a b && not (eq_ℤ d (pos 0))

  -- the disequality is between the classes a and b, at distance d
  unfoldable pub between : Comparison → ℕ → ℕ → ℤ → Bool
  between c a b d = classes_are (pair c.left c.right) a b && eq_ℤ (distance P c.left c.offset c.right) d

  unfoldable pub unequal : List Comparison → ℕ → ℕ → ℤ → Bool
  unequal cs a b d = any (λ c. between c a b d || between c b a (neg_ℤ d)) cs

  -- terms of the classes a and b at distance d are different, with the disequalities cs
  unfoldable pub different_at : Facts → List Comparison → ℕ → ℕ → ℤ → Bool
  different_at F cs a b d = apart F.apart a b || (is_other_offset a b d || unequal cs a b d)

  -- t1 is different from z + t2
  abbrev pub different_by : Facts → List Comparison → ℕ → ℤ → ℕ → Bool
  different_by F cs t1 z t2 = different_at F cs (P.block t1) (P.block t2) (distance P t1 z t2)

  -- what two dereferences read is different
  unfoldable pub values_differ : Facts → List Comparison → Two → Bool
  values_differ F cs (x, y) = different_by F cs x.term (pos 0) y.term

  -- and so are the addresses
  unfoldable pub addresses_differ : Facts → List Comparison → Two → Bool
  addresses_differ F cs r = let c = addresses r in different_by F cs c.left c.offset c.right

  -- inverse dereferencing gives a further disequality: the values differ, and the addresses not yet
  unfoldable pub draws : Facts → List Comparison → Two → Bool
  draws F cs r = values_differ F cs r && not (addresses_differ F cs r)

  abbrev pub with_drawn : List Comparison → Option Two → (List Comparison → List Comparison) → List Comparison
  with_drawn cs none next = cs
  with_drawn cs (some r) next = next (addresses r ∷ cs)

  -- adds the first disequality that inverse dereferencing gives, again and again, at most k times
  unfoldable pub draw : Facts → List Two → ℕ → List Comparison → List Comparison
  draw F rs zero cs = cs
  draw F rs (suc k) cs = with_drawn cs (find (draws F cs) rs) (λ more. draw F rs k more)

  -- how often to add one: each makes further addresses different
  unfoldable pub undrawn : Facts → List Two → List Comparison → ℕ
  undrawn F rs cs = count (λ r. not (addresses_differ F cs r)) rs

unfoldable pub twos : List Term → List Two
twos ts = cross (λ x y. some (x, y)) (derefs ts) (derefs ts)

-- the disequalities, those given and those that inverse dereferencing gives
unfoldable pub drawn : List Term → Facts → Placement → List Comparison
drawn ts F P = draw P F (twos ts) (undrawn P F (twos ts) F.unequal) F.unequal

unfoldable pub different : List Term → Facts → Placement → ℕ → ℤ → ℕ → Bool
different ts F P t1 z t2 = different_by P F (drawn ts F P) t1 z t2
