-- The last looks: each finds that all dereferences of one address agree, or two that do not, which are joined.
use Rattle.std.specs.Prelude.{Some, None, ℕ, ◌<◌, ◌≡◌, true, false, List, ℤ, pos, length}
use Rattle.std.proofs.Common.{sym, ◌∙◌, ap, arith}
use Rattle.rules.specs.Assignments.{Placement, Holds}
use Rattle.integers.specs.Within.{within_zero}
use Rattle.labels.specs.View.{view}
use Rattle.labels.specs.Joins.{weight, joined_lighter}
use Rattle.types.specs.declared.TermNumber.{TermNumber}
use Rattle.tables.specs.Records.{TermRecord}
use Rattle.tables.specs.Rows.{Row, term_in}
use Rattle.tables.specs.TermTable.{AcceptedTerms}
use Rattle.unionfind.specs.declared.Joining.{Joining}
use Rattle.unionfind.specs.Forest.{flat, Equated, Flattened}
use Rattle.lastlook.specs.Addresses.{SameAddress, Labelled, Looked}
use Rattle.joins.specs.Labels.{Labels, Unchanged, Columns, labels_rooted, labels_near, joined_labels}
use Rattle.joins.specs.Meeting.{more, Chased, going, own_labels, unchanged_chased, chased_labels, chased_chain, chased_long}
use Rattle.congruence.specs.Closing.{Closing}

pub flattened_unchanged : {p0 p : List ℕ} {o0 o : List ℤ} → Flattened p0 o0 p o → Unchanged p0 o0 p o
flattened_unchanged F = record { links = F.links; same = F.same; long = F.long }

-- the columns hold the labels
pub flattened_view : {p0 p : List ℕ} {o0 o : List ℤ} → Flattened p0 o0 p o → view p o ≡ flat p o
flattened_view F = F.labels ∙ sym F.same

-- labels in columns, as the last look wants them
pub labelled : (terms : List Row) {p : List ℕ} {o : List ℤ} → AcceptedTerms (length terms) (term_in terms) → Labels (length terms) p o → view p o ≡ flat p o → Labelled terms p o
labelled terms {p} {o} A L v = record {
  accepted = A;
  few = L.few;
  reps_length = L.count;
  offs_length = L.links.same_length ∙ L.count;
  below = λ t h. omega (arith, ap (λ (P : Placement). P.block t) v, (labels_rooted L).below h);
  near = λ t h. rw (ap (λ (P : Placement). P.position t) v) ((labels_near L).near (rw L.count h));
}

-- what was chased before the links were flattened was chased
pub flattened_chased :
    {n : ℕ} {rec : ℕ → TermRecord} {p0 p1 p2 : List ℕ} {o0 o1 o2 : List ℤ} →
    Flattened p1 o1 p2 o2 →
    Chased n rec p0 o0 p1 o1 true →
    Chased n rec p0 o0 p2 o2 true
flattened_chased F C = unchanged_chased _ _ (chased_labels _ _ C) (chased_chain _ _ C) (chased_long _ _ C) (flattened_unchanged F)

module _ (n : ℕ) (rec : ℕ → TermRecord) where
  -- two dereferences of one address that do not agree
  pub record Apart (P : Placement) (x y : ℕ) : Type 0 where
    pub below_x : x < n
    pub below_y : y < n
    pub same : SameAddress rec P x y
    pub unequal : Holds P x (pos 0) y → ⊥

  pub looked_pair : {P : Placement} {x y : TermNumber} → Looked n rec P (Some (x, y)) → Apart P x.0 y.0
  looked_pair (Looked.pair a b s m) = record { below_x = a; below_y = b; same = s; unequal = m }

  module _ {p0 p1 : List ℕ} {o0 o1 : List ℤ} where
    -- nothing is found
    pub settled : Chased n rec p0 o0 p1 o1 true → view p1 o1 ≡ flat p1 o1 → Looked n rec (view p1 o1) None → Closing n rec p0 o0 p1 o1 true
    settled (going c L l) v (Looked.closed f) = Closing.closed c L l v (rw v at f)

    module _ {p2 : List ℕ} {o2 : List ℤ} {x y : ℕ} where
      -- two are found, and joined
      pub pair_joined : Chased n rec p0 o0 p1 o1 true → Apart (flat p1 o1) x y → Equated p1 o1 p2 o2 x (pos 0) y Joining.Joined → Chased n rec p0 o0 p2 o2 true
      pair_joined (going c L l) A (Equated.joined K k J) =
          let M = rw L.count at J in
          going (more c A.below_x A.below_y A.same M) (joined_labels K k A.below_x A.below_y within_zero M L) (k ∙ l)

      pub pair_lighter : Chased n rec p0 o0 p1 o1 true → Apart (flat p1 o1) x y → Equated p1 o1 p2 o2 x (pos 0) y Joining.Joined → weight n (flat p2 o2) < weight n (flat p1 o1)
      pair_lighter (going c L l) A (Equated.joined K k J) = joined_lighter n (flat p1 o1) (flat p2 o2) x (pos 0) y A.below_x A.below_y (rw L.count at J)

      -- they cannot hold already
      pub pair_held : Apart (flat p1 o1) x y → Equated p1 o1 p2 o2 x (pos 0) y Joining.Held → Closing n rec p0 o0 p2 o2 false
      pair_held A (Equated.held K k s h) = absurd (A.unequal h)

      pub pair_clashed : Chased n rec p0 o0 p1 o1 true → Apart (flat p1 o1) x y → Equated p1 o1 p2 o2 x (pos 0) y Joining.Clashed → Closing n rec p0 o0 p2 o2 false
      pair_clashed (going c L l) A (Equated.clashed K k s b m) =
          Closing.clash {x = x} {y = y} (rw s c) (k ∙ l)
          (rw s (record { below_x = A.below_x; below_y = A.below_y; same = A.same; together = b; unequal = A.unequal }))

  -- what the tests of the labels in columns want
  pub closing_columns : {p0 p : List ℕ} {o0 o : List ℤ} → Closing n rec p0 o0 p o true → Columns p o
  closing_columns (Closing.closed c L l v A) = record {
    few = rw L.count L.few;
    same_length = L.links.same_length;
    below = λ t h. omega (arith, ap (λ (P : Placement). P.block t) v, (labels_rooted (own_labels L)).below h);
    near = λ t h. rw (ap (λ (P : Placement). P.position t) v) ((labels_near L).near h);
  }
