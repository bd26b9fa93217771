-- The closure under the given equalities and congruence, computed.
use Prim.Native.Nat.{ℕ, zero, suc}
use Rattle.std.specs.Prelude.{◌≡◌, Bool, not, ◌&&◌, eqb, ℤ, pos, ◌+ℤ◌, length}
use mathlib.Core.List.{List, [], ◌∷◌}
use Rattle.std.proofs.Math.Option.{Option, none, some}
use Rattle.integers.specs.Compare.{eq_ℤ}
use Rattle.lists.specs.Search.{find_pair}
use Rattle.lists.specs.Collect.{collect}
use Rattle.rules.specs.Terms.{Term, variable, auxiliary, deref, Comparison}
use Rattle.rules.specs.Assignments.{Placement}
use Rattle.closure.specs.Facts.{Facts}
use Rattle.closure.specs.Join.{Label, placed, own, join, total}

-- a listed dereference: its number, its offset and the term inside
pub record Deref : Type 0 where
  pub term : ℕ
  pub offset : ℤ
  pub inner : ℕ

abbrev pub as_deref : ℕ → Term → Option Deref
as_deref d (variable x) = none
as_deref d (auxiliary x) = none
as_deref d (deref z t) = some (record { term = d; offset = z; inner = t })

unfoldable pub derefs : List Term → List Deref
derefs ts = collect as_deref 0 ts

-- the two read one address
unfoldable pub is_same_address : Placement → Deref → Deref → Bool
is_same_address P x y =
    eqb (P.block x.inner) (P.block y.inner) && eq_ℤ (x.offset +ℤ P.position x.inner) (y.offset +ℤ P.position y.inner)

pub record OneAddress (P : Placement) (x y : Deref) : Type 0 where
  pub block : P.block x.inner ≡ P.block y.inner
  pub position : x.offset +ℤ P.position x.inner ≡ y.offset +ℤ P.position y.inner

-- the two read one address and are not in one class
unfoldable pub unjoined : Placement → Deref → Deref → Bool
unjoined P x y = is_same_address P x y && not (eqb (P.block x.term) (P.block y.term))

unfoldable pub join_all : List Label → List Comparison → List Label
join_all l [] = l
join_all l (c ∷ cs) = join_all (join l c.left c.offset c.right) cs

abbrev pub continue : List Label → Option (Deref × Deref) → (List Label → List Label) → List Label
continue l none next = l
continue l (some (x, y)) next = next (join l x.term (pos 0) y.term)

-- joins the first two dereferences of one address that are in two classes, again and again, at most k times
unfoldable pub close : List Deref → ℕ → List Label → List Label
close ds zero l = l
close ds (suc k) l = continue l (find_pair (unjoined (placed l)) ds) (λ m. close ds k m)

-- how often to join: each join lowers the sum of the representatives' numbers
unfoldable pub rounds : List Label → ℕ
rounds l = total l

unfoldable pub closure : List Term → Facts → List Label
closure ts F = let l = join_all (own 0 (length ts)) F.equal in close (derefs ts) (rounds l) l
