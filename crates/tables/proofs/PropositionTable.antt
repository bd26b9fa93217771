-- Laws of specs/PropositionTable.
use Rattle.std.specs.Prelude.{ℕ, ◌<◌, ◌≤◌, ◌≡◌, List, leb, length, get_or}
use Rattle.std.proofs.Common.{sym, ◌∙◌, ap, ⊎_elim, arith, SFits}
use Rattle.std.proofs.Math.Option.{some}
use Rattle.std.specs.Int.{w32}
use borrow.Author.Tests.{leb-false}
use Rattle.lists.specs.Booleans.{or_false}
use Rattle.lists.specs.Items.{Item, In, item_below, item_get_d, get_d_item}
use Rattle.lists.specs.Tabulate.{length_tabulate, from_zero, tabulate_ext}
use Rattle.types.specs.declared.Refusal.TheVariants.{PropositionTermNotListed}
use Rattle.rules.specs.Terms.{Term, Proposition, equality, disequality, block_disequality, DistinctVariables, listed, WellFormed}
use Rattle.integers.specs.Within.{Within}
use Rattle.labels.specs.Steps.{Bounded}
use Rattle.tables.specs.Limits.{offset_limit}
use Rattle.tables.specs.Records.{TermRecord, PropositionRecord, equality_kind, disequality_kind, block_disequality_kind, proposition_of, or_default}
use Rattle.tables.specs.Stands.{left_of, right_of, Asserts}
use Rattle.tables.proofs.Stands.{asserts, equality_by_kind, disequality_by_kind, block_by_kind, proposition_kind_at_most}
use Rattle.tables.specs.Refusals.{malformed, proposition_name_fault, proposition_fault}
use Rattle.tables.specs.RefusalLaws.{or_else_none, refuse_if_none, malformed_none}
use Rattle.tables.specs.TermTable.{AcceptedTerms, terms_from}
use Rattle.tables.proofs.TermTable.{length_terms_from, deref_earlier, default_some}
use Rattle.tables.specs.PropositionTable.{propositions_from, AcceptedPropositions}

pub length_propositions_from : (m : ℕ) (rec : ℕ → PropositionRecord) → length (propositions_from m rec) ≡ m
unfolding propositions_from
length_propositions_from m rec = length_tabulate (λ k. or_default (block_disequality 0 0) (proposition_of (rec k))) 0 m

-- records that are the same assert the same propositions
pub propositions_from_ext : (m : ℕ) (f g : ℕ → PropositionRecord) → ((k : ℕ) → k < m → f k ≡ g k) → propositions_from m f ≡ propositions_from m g
unfolding propositions_from
propositions_from_ext m f g same = tabulate_ext _ _ 0 m (λ k h. ap (λ (r : PropositionRecord). or_default (block_disequality 0 0) (proposition_of r)) (same k (omega arith)))

module _ (n m : ℕ) (rec : ℕ → PropositionRecord) (accepted : AcceptedPropositions n m rec) where
  -- a proposition of the set, and the record that asserts it
  pub proposition_from : (k : ℕ) {x : Proposition} → Item (propositions_from m rec) k x → (k < m) × Asserts (rec k) x
  unfolding propositions_from proposition_fault
  proposition_from k {x} i =
      let h : k < m = omega (arith, item_below (propositions_from m rec) k i, length_propositions_from m rec) in
      let well = malformed_none (proposition_of (rec k)) (or_else_none _ _ (accepted k h)).0 in (
        h,
        asserts (rec k) x
            (default_some (block_disequality 0 0) (proposition_of (rec k)) x well.0 well.1
            (sym (item_get_d (propositions_from m rec) k (block_disequality 0 0) i) ∙ from_zero (λ j. or_default (block_disequality 0 0) (proposition_of (rec j))) m k (block_disequality 0 0) h)),
      )

  -- and back
  from_proposition : (k : ℕ) → k < m → (x : Proposition) × Item (propositions_from m rec) k x × Asserts (rec k) x
  from_proposition k h =
      let x = get_or (propositions_from m rec) k (block_disequality 0 0) in
      let i = get_d_item (propositions_from m rec) k (block_disequality 0 0) (omega (arith, length_propositions_from m rec)) in
      (x, i, (proposition_from k i).1)

  pub equality_from : (k : ℕ) → k < m → (rec k).kind ≡ equality_kind → Item (propositions_from m rec) k (equality (rec k).left (rec k).offset (rec k).right)
  equality_from k h e =
      let r = from_proposition k h in
      rw (r.2.left, r.2.offset, r.2.right) (r.1 ∙ ap some (equality_by_kind r.0 (sym r.2.kind ∙ e)))

  pub disequality_from : (k : ℕ) → k < m → (rec k).kind ≡ disequality_kind → Item (propositions_from m rec) k (disequality (rec k).left (rec k).offset (rec k).right)
  disequality_from k h e =
      let r = from_proposition k h in
      rw (r.2.left, r.2.offset, r.2.right) (r.1 ∙ ap some (disequality_by_kind r.0 (sym r.2.kind ∙ e)))

  pub block_from : (k : ℕ) → k < m → (rec k).kind ≡ block_disequality_kind → Item (propositions_from m rec) k (block_disequality (rec k).left (rec k).right)
  block_from k h e =
      let r = from_proposition k h in
      rw (r.2.left, r.2.right) (r.1 ∙ ap some (block_by_kind r.0 (sym r.2.kind ∙ e)))

  -- its sides are listed
  pub sides_below : (k : ℕ) → k < m → ((rec k).left < n) × ((rec k).right < n)
  unfolding proposition_fault proposition_name_fault
  sides_below k h =
      let p = rec k in
      let f = (or_else_none (malformed (proposition_of p)) (proposition_name_fault n p) (accepted k h)).1 in
      let b = or_false (leb n p.left) (leb n p.right) (refuse_if_none _ PropositionTermNotListed f) in
      (leb-false n p.left b.0, leb-false n p.right b.1)

  -- its offset is within the limit
  pub proposition_offset_within : (k : ℕ) → k < m → Within offset_limit (rec k).offset
  proposition_offset_within k h = (from_proposition k h).2.within

  -- and fits 32 bits
  pub proposition_offset_fits : (k : ℕ) → k < m → SFits w32 (rec k).offset
  proposition_offset_fits k h = (from_proposition k h).2.fits

  pub proposition_kind_below : (k : ℕ) → k < m → (rec k).kind ≤ block_disequality_kind
  proposition_kind_below k h = let r = from_proposition k h in omega (arith, r.2.kind, proposition_kind_at_most r.0)

  names_below : (k : ℕ) {x : Proposition} → Item (propositions_from m rec) k x → (left_of x < n) × (right_of x < n)
  names_below k i =
      let r = proposition_from k i in
      let s = sides_below k r.0 in
      (omega (arith, s.0, r.1.left), omega (arith, s.1, r.1.right))

  -- its offsets are within the limit
  pub bounded_from : (ts : List Term) → Bounded offset_limit (listed ts (propositions_from m rec))
  bounded_from ts t1 t2 z i = let r = (proposition_from i.0 i.1).1 in rw r.offset at r.within

-- the set of two accepted tables is well formed
pub well_formed_from :
    (n : ℕ) (terms : ℕ → TermRecord) (m : ℕ) (rec : ℕ → PropositionRecord) →
    AcceptedTerms n terms →
    AcceptedPropositions n m rec →
    WellFormed (terms_from n terms) (listed (terms_from n terms) (propositions_from m rec))
well_formed_from n terms m rec T P = record {
  earlier = λ i. deref_earlier n terms T i;
  equal_listed = λ i. names i.0 i.1;
  unequal_listed = λ i. names i.0 i.1;
  apart_listed = λ {t1} {t2} g. ⊎_elim
      (λ (i : In (block_disequality t1 t2) (propositions_from m rec)). names i.0 i.1)
      (λ (v : DistinctVariables (terms_from n terms) t1 t2). (item_below (terms_from n terms) t1 v.2, item_below (terms_from n terms) t2 v.3))
      g;
}
  where
    names : (k : ℕ) {x : Proposition} → Item (propositions_from m rec) k x → (left_of x < length (terms_from n terms)) × (right_of x < length (terms_from n terms))
    names k i = let s = names_below n m rec P k i in (omega (arith, s.0, length_terms_from n terms), omega (arith, s.1, length_terms_from n terms))
