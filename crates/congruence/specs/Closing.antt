-- How the joins end.
use Rattle.std.specs.Prelude.{ℕ, ◌<◌, ◌≡◌, Bool, true, false, List, ℤ, pos, length}
use Rattle.std.proofs.Common.{◌∙◌}
use Rattle.rules.specs.Assignments.{Placement, Holds}
use Rattle.labels.specs.View.{view}
use Rattle.tables.specs.Records.{TermRecord}
use Rattle.unionfind.specs.Forest.{flat}
use Rattle.lastlook.specs.Addresses.{SameAddress}
use Rattle.joins.specs.Labels.{Labels}
use Rattle.joins.specs.Meeting.{Chain, chain_append, Clash, Chased, going}

module _ (n : ℕ) (rec : ℕ → TermRecord) where
  -- all dereferences of one address agree
  abbrev pub Agree : Placement → Type 0
  Agree P = (x y : ℕ) → x < n → y < n → SameAddress rec P x y → Holds P x (pos 0) y

  -- in true: the labels, in columns, on which all dereferences of one address agree
  pub data Closing (p0 : List ℕ) (o0 : List ℤ) (p : List ℕ) (o : List ℤ) : Bool → Type 0 where
    closed : Chain n rec (flat p0 o0) (flat p o) → Labels n p o → length p ≡ length p0 → view p o ≡ flat p o → Agree (flat p o) → Closing p0 o0 p o true
    clash : {x y : ℕ} → Chain n rec (flat p0 o0) (flat p o) → length p ≡ length p0 → Clash n rec (flat p o) x y → Closing p0 o0 p o false

  pub closing_then : {p0 p1 p2 : List ℕ} {o0 o1 o2 : List ℤ} {b : Bool} → Chased n rec p0 o0 p1 o1 true → Closing p1 o1 p2 o2 b → Closing p0 o0 p2 o2 b
  closing_then (going c L l) (closed d M m v A) = closed (chain_append n rec c d) M (m ∙ l) v A
  closing_then (going c L l) (clash d m C) = clash (chain_append n rec c d) (m ∙ l) C

  pub chased_clash : {p0 p : List ℕ} {o0 o : List ℤ} → Chased n rec p0 o0 p o false → Closing p0 o0 p o false
  chased_clash (Chased.clash c l C) = clash c l C
