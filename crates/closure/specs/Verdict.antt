-- The verdict: the closure's labelling contradicts a given fact, or is an assignment.
use Rattle.std.specs.Prelude.{Bool, ◌&&◌, ◌||◌, List, eqb, pos, ◌+ℤ◌}
use Rattle.std.proofs.Math.Bool.{not}
use Rattle.integers.specs.Compare.{eq_ℤ}
use Rattle.lists.specs.Search.{any, is_some, find_pair}
use Rattle.rules.specs.Terms.{Term, Comparison}
use Rattle.rules.specs.Assignments.{Placement}
use Rattle.closure.specs.Facts.{Facts, Pair, comparison}
use Rattle.closure.specs.Join.{placed}
use Rattle.closure.specs.Closure.{Deref, derefs, is_same_address, closure}

-- the comparison holds as an equality
unfoldable pub holds : Placement → Comparison → Bool
holds P c = eqb (P.block c.left) (P.block c.right) && eq_ℤ (P.position c.left) (c.offset +ℤ P.position c.right)

-- the two are in one block
unfoldable pub together : Placement → Pair → Bool
together P p = eqb (P.block p.first) (P.block p.second)

-- the two read one address and are not equal
unfoldable pub clash : Placement → Deref → Deref → Bool
clash P x y = is_same_address P x y && not (holds P (comparison x.term (pos 0) y.term))

-- the labelling fails as an assignment of the given facts
unfoldable pub conflicting : List Term → Facts → Placement → Bool
conflicting ts F P =
    any (λ c. not (holds P c)) F.equal || (is_some (find_pair (clash P) (derefs ts)) || (any (holds P) F.unequal || any (together P) F.apart))

unfoldable pub contradictory : List Term → Facts → Bool
contradictory ts F = conflicting ts F (placed (closure ts F))
