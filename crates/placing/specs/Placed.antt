-- What the functions that fill columns ask of their callers, and the laws of columns that a loop has begun to fill.
use Rattle.std.specs.Prelude.{ℕ, ◌+◌, ◌-◌, ◌^◌, ◌<◌, ◌≤◌, ◌≡◌, refl, ◌≢◌, List, ℤ, pos, ◌+ℤ◌, length, get_or, set}
use Rattle.std.proofs.Common.{sym, ◌∙◌, ⊎_elim, arith, lit<, length-set, get_or-set_same, get_or-set_other, SFits, of_z}
use Rattle.std.specs.Int.{w64}
use Rattle.integers.specs.Linear.{up, dn, linear, value, ‹◌›, #◌, ◌⊕◌}
use Rattle.integers.specs.Within.{Within, within_sum, within_more}
use Rattle.offsets.specs.Fits.{within_fits}
use Rattle.lists.specs.Filled.{same_or_not}
use Rattle.labels.specs.Spread.{far}
use Rattle.tables.specs.Limits.{most, offset_limit}
use Rattle.tables.specs.Records.{TermRecord, PropositionRecord, deref_kind, disequality_kind}
use Rattle.tables.specs.Rows.{Row, term_in, proposition_in}
use Rattle.tables.specs.TermTable.{AcceptedTerms}
use Rattle.tables.proofs.TermTable.{inner_before, offset_within}
use Rattle.tables.specs.PropositionTable.{AcceptedPropositions}
use Rattle.tables.proofs.PropositionTable.{sides_below, proposition_offset_within}
use Rattle.tables.specs.Sets.{set_of, AcceptedSet}
use Rattle.points.specs.Places.{top}
use Rattle.placing.specs.Filling.{level, Lifted, TermPlaces, ReadPlace, ReadPlaces, SidePlace, SidePlaces}

-- the classes of n terms
pub record Classes (n : ℕ) (reps : List ℕ) : Type 0 where
  pub few : n ≤ most
  pub long : length reps ≡ n
  pub below : (t : ℕ) → t < n → get_or reps t 0 < n

-- and their offsets
pub record Offsets (n : ℕ) (offs : List ℤ) : Type 0 where
  pub long : length offs ≡ n
  pub near : (t : ℕ) → t < n → Within far (get_or offs t (pos 0))

-- term t has an offset
pub record Near (offs : List ℤ) (t : ℕ) : Type 0 where
  pub there : t < length offs
  pub near : Within far (get_or offs t (pos 0))

-- an accepted set with its labels
pub record Labelled (terms propositions : List Row) (reps : List ℕ) (offs : List ℤ) : Type 0 where
  pub accepted : AcceptedSet (set_of terms propositions)
  pub few : length propositions ≤ most
  pub classes : Classes (length terms) reps
  pub offsets : Offsets (length terms) offs

-- what of it the functions need that read terms alone,
pub record LabelledTerms (terms : List Row) (reps : List ℕ) (offs : List ℤ) : Type 0 where
  pub accepted : AcceptedTerms (length terms) (term_in terms)
  pub classes : Classes (length terms) reps
  pub offsets : Offsets (length terms) offs

-- propositions alone,
pub record LabelledSides (n : ℕ) (propositions : List Row) (reps : List ℕ) (offs : List ℤ) : Type 0 where
  pub accepted : AcceptedPropositions n (length propositions) (proposition_in propositions)
  pub few : length propositions ≤ most
  pub classes : Classes n reps
  pub offsets : Offsets n offs

-- and classes alone
pub record Classed (terms propositions : List Row) (reps : List ℕ) : Type 0 where
  pub accepted : AcceptedPropositions (length terms) (length propositions) (proposition_in propositions)
  pub classes : Classes (length terms) reps

module _ {terms propositions : List Row} {reps : List ℕ} {offs : List ℤ} (L : Labelled terms propositions reps offs) where
  pub labelled_offsets : Offsets (length offs) offs
  labelled_offsets = record { long = refl; near = λ t h. L.offsets.near t (omega (arith, L.offsets.long)) }

  pub labelled_few : length offs ≤ most
  labelled_few = omega (arith, L.offsets.long, L.classes.few)

  pub labelled_terms : LabelledTerms terms reps offs
  labelled_terms = record { accepted = L.accepted.terms; classes = L.classes; offsets = L.offsets }

  pub labelled_sides : LabelledSides (length terms) propositions reps offs
  labelled_sides = record { accepted = L.accepted.propositions; few = L.few; classes = L.classes; offsets = L.offsets }

  pub labelled_classes : Classed terms propositions reps
  labelled_classes = record { accepted = L.accepted.propositions; classes = L.classes }

-- offsets that are lifted are within this: sums of an offset of a row and one of a label
abbrev pub liftable : ℕ
liftable = 2 ^ 42

pub level_fits : (z : ℤ) → Within liftable z → SFits w64 (z +ℤ pos level)
level_fits z w = let v = value (‹ z › ⊕ # level) in within_fits {B = 2 ^ 48} (lit< tt) (record { above = omega (arith, v, w.above); below = omega (arith, v, w.below) })

pub lifted_bits : (z : ℤ) → Within liftable z → Lifted (of_z w64 (z +ℤ pos level)) z
lifted_bits z w =
    let h = up z + level - dn z in
    let e : z +ℤ pos level ≡ pos h = omega (linear, value (‹ z › ⊕ # level), value (# h), w.above, w.below) in
    rw e (record { is = sym e; low = omega (arith, w.above, w.below) })

-- an offset of a row and one of a label
pub moved_within : {z o : ℤ} → Within offset_limit z → Within far o → Within liftable (z +ℤ o)
moved_within v w = within_more liftable (within_sum v w) (omega arith)

pub moved_fits : {z o : ℤ} → Within offset_limit z → Within far o → SFits w64 (z +ℤ o)
moved_fits v w = within_fits {B = liftable} (lit< tt) (moved_within v w)

pub near_liftable : {o : ℤ} → Within far o → Within liftable o
near_liftable w = within_more liftable w (omega arith)

-- the heights of the first k terms
module _ {offs : List ℤ} where
  pub heights_none : {heights : List ℕ} → length heights ≡ most → TermPlaces 0 offs heights
  heights_none e = record { long = e; at = λ t h. absurd (omega arith) }

  pub heights_more : {k v : ℕ} {heights : List ℕ} → TermPlaces k offs heights → k < most → Lifted v (get_or offs k (pos 0)) → TermPlaces (k + 1) offs (set heights k v)
  heights_more {k} {v} {heights} F h p = record {
    long = length-set heights k v ∙ F.long;
    at = λ t b. ⊎_elim
        (λ (s : t ≡ k). rw (s, get_or-set_same heights k v 0 (omega (arith, F.long))) p)
        (λ (m : t ≢ k). rw (get_or-set_other heights k t v 0 m) (F.at t (omega arith)))
        (same_or_not t k);
  }

  pub heights_done : {n k : ℕ} {heights : List ℕ} → n ≤ k → TermPlaces k offs heights → TermPlaces n offs heights
  heights_done h F = record { long = F.long; at = λ t b. F.at t (omega arith) }

-- the class that a term reads, and the height
pub record ReadClass (n : ℕ) (r : TermRecord) (reps : List ℕ) (a : ℕ) : Type 0 where
  pub deref_class : r.kind ≡ deref_kind → a ≡ get_or reps r.number 0
  pub other : r.kind ≢ deref_kind → a ≡ n

pub record ReadHeight (r : TermRecord) (offs : List ℤ) (h : ℕ) : Type 0 where
  pub deref_height : r.kind ≡ deref_kind → Lifted h (r.offset +ℤ get_or offs r.number (pos 0))
  pub low : h < top

pub read_place : {n a h : ℕ} {r : TermRecord} {reps : List ℕ} {offs : List ℤ} → ReadClass n r reps a → ReadHeight r offs h → ReadPlace n r reps offs a h
read_place c d = record { deref_class = c.deref_class; deref_height = d.deref_height; other = c.other; low = d.low }

module _ {terms : List Row} {reps : List ℕ} {offs : List ℤ} (L : LabelledTerms terms reps offs) where
  inner_below : {t : ℕ} → t < length terms → (term_in terms t).kind ≡ deref_kind → (term_in terms t).number < length terms
  inner_below {t} h d = omega (arith, inner_before (length terms) (term_in terms) L.accepted t h d)

  -- the term inside a dereference has a class
  pub inner_classed : {t : ℕ} → t < length terms → (term_in terms t).kind ≡ deref_kind → (term_in terms t).number < length reps
  inner_classed h d = omega (arith, inner_below h d, L.classes.long)

  -- and an offset
  pub inner_near : {t : ℕ} → t < length terms → (term_in terms t).kind ≡ deref_kind → Within offset_limit (term_in terms t).offset × Near offs (term_in terms t).number
  inner_near {t} h d = (
    offset_within (length terms) (term_in terms) L.accepted t h d,
    record { there = omega (arith, inner_below h d, L.offsets.long); near = L.offsets.near (term_in terms t).number (inner_below h d) },
  )

module _ {n : ℕ} {rec : ℕ → TermRecord} {reps : List ℕ} {offs : List ℤ} where
  pub reads_none : {reads read_heights : List ℕ} → length reads ≡ most → length read_heights ≡ most → ReadPlaces n rec reps offs 0 reads read_heights
  reads_none e f = record { classes_long = e; heights_long = f; at = λ t h. absurd (omega arith) }

  pub reads_more :
      {k a p : ℕ} {reads read_heights : List ℕ} →
      ReadPlaces n rec reps offs k reads read_heights →
      k < most →
      ReadPlace n (rec k) reps offs a p →
      ReadPlaces n rec reps offs (k + 1) (set reads k a) (set read_heights k p)
  reads_more {k} {a} {p} {reads} {read_heights} F h here = record {
    classes_long = length-set reads k a ∙ F.classes_long;
    heights_long = length-set read_heights k p ∙ F.heights_long;
    at = λ t b. ⊎_elim
        (λ (s : t ≡ k). rw (s, get_or-set_same reads k a 0 (omega (arith, F.classes_long)), get_or-set_same read_heights k p 0 (omega (arith, F.heights_long))) here)
        (λ (m : t ≢ k). rw (get_or-set_other reads k t a 0 m, get_or-set_other read_heights k t p 0 m) (F.at t (omega arith)))
        (same_or_not t k);
  }

  pub reads_done : {m k : ℕ} {reads read_heights : List ℕ} → m ≤ k → ReadPlaces n rec reps offs k reads read_heights → ReadPlaces n rec reps offs m reads read_heights
  reads_done h F = record { classes_long = F.classes_long; heights_long = F.heights_long; at = λ t b. F.at t (omega arith) }

-- the class of a proposition's left side
pub record LeftClass (n : ℕ) (r : PropositionRecord) (reps : List ℕ) (a : ℕ) : Type 0 where
  pub left_class : r.kind ≡ disequality_kind → a ≡ get_or reps r.left 0
  pub other : r.kind ≢ disequality_kind → a ≡ n

pub side_place :
    {n a p b q : ℕ} {r : PropositionRecord} {reps : List ℕ} {offs : List ℤ} →
    LeftClass n r reps a →
    Lifted p (get_or offs r.left (pos 0)) →
    b ≡ get_or reps r.right 0 →
    Lifted q (r.offset +ℤ get_or offs r.right (pos 0)) →
    SidePlace n r reps offs a p b q
side_place c p b q = record { left_class = c.left_class; left_height = p; right_class = b; right_height = q; other = c.other }

module _ {n : ℕ} {propositions : List Row} {reps : List ℕ} {offs : List ℤ} (L : LabelledSides n propositions reps offs) where
  sides : {k : ℕ} → k < length propositions → ((proposition_in propositions k).left < n) × ((proposition_in propositions k).right < n)
  sides {k} h = sides_below n (length propositions) (proposition_in propositions) L.accepted k h

  -- the sides of a proposition have classes
  pub left_classed : {k : ℕ} → k < length propositions → (proposition_in propositions k).left < length reps
  left_classed h = omega (arith, (sides h).0, L.classes.long)

  pub right_classed : {k : ℕ} → k < length propositions → (proposition_in propositions k).right < length reps
  right_classed h = omega (arith, (sides h).1, L.classes.long)

  -- and offsets
  pub left_near : {k : ℕ} → k < length propositions → Near offs (proposition_in propositions k).left
  left_near {k} h = record { there = omega (arith, (sides h).0, L.offsets.long); near = L.offsets.near (proposition_in propositions k).left (sides h).0 }

  pub right_near : {k : ℕ} → k < length propositions → Near offs (proposition_in propositions k).right
  right_near {k} h = record { there = omega (arith, (sides h).1, L.offsets.long); near = L.offsets.near (proposition_in propositions k).right (sides h).1 }

  pub side_near : {k : ℕ} → k < length propositions → Within offset_limit (proposition_in propositions k).offset
  side_near {k} h = proposition_offset_within n (length propositions) (proposition_in propositions) L.accepted k h

module _ {n : ℕ} {rec : ℕ → PropositionRecord} {reps : List ℕ} {offs : List ℤ} where
  pub sides_none :
      {leftClasses leftHeights rightClasses rightHeights : List ℕ} →
      length leftClasses ≡ most →
      length leftHeights ≡ most →
      length rightClasses ≡ most →
      length rightHeights ≡ most →
      SidePlaces n rec reps offs 0 leftClasses leftHeights rightClasses rightHeights
  sides_none d e f g = record { left_long = d; left_heights_long = e; right_long = f; right_heights_long = g; at = λ j h. absurd (omega arith) }

  pub sides_more :
      {k a p b q : ℕ} {leftClasses leftHeights rightClasses rightHeights : List ℕ} →
      SidePlaces n rec reps offs k leftClasses leftHeights rightClasses rightHeights →
      k < most →
      SidePlace n (rec k) reps offs a p b q →
      SidePlaces n rec reps offs (k + 1) (set leftClasses k a) (set leftHeights k p) (set rightClasses k b) (set rightHeights k q)
  sides_more {k} {a} {p} {b} {q} {leftClasses} {leftHeights} {rightClasses} {rightHeights} F h here = record {
    left_long = length-set leftClasses k a ∙ F.left_long;
    left_heights_long = length-set leftHeights k p ∙ F.left_heights_long;
    right_long = length-set rightClasses k b ∙ F.right_long;
    right_heights_long = length-set rightHeights k q ∙ F.right_heights_long;
    at = λ j l. ⊎_elim
        (λ (s : j ≡ k).
        rw
        (s, get_or-set_same leftClasses k a 0 (omega (arith, F.left_long)), get_or-set_same leftHeights k p 0 (omega (arith, F.left_heights_long)), get_or-set_same rightClasses k b 0 (omega (arith, F.right_long)), get_or-set_same rightHeights k q 0 (omega (arith, F.right_heights_long)))
        here)
        (λ (m : j ≢ k). rw (get_or-set_other leftClasses k j a 0 m, get_or-set_other leftHeights k j p 0 m, get_or-set_other rightClasses k j b 0 m, get_or-set_other rightHeights k j q 0 m) (F.at j (omega arith)))
        (same_or_not j k);
  }

  pub sides_done :
      {m k : ℕ} {leftClasses leftHeights rightClasses rightHeights : List ℕ} →
      m ≤ k →
      SidePlaces n rec reps offs k leftClasses leftHeights rightClasses rightHeights →
      SidePlaces n rec reps offs m leftClasses leftHeights rightClasses rightHeights
  sides_done h F = record { left_long = F.left_long; left_heights_long = F.left_heights_long; right_long = F.right_long; right_heights_long = F.right_heights_long; at = λ j l. F.at j (omega arith) }
