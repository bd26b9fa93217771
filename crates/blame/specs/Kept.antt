-- The verdict on the kept propositions of an accepted set, and on all of them.
use Rattle.std.specs.Prelude.{ℕ, ◌<◌, ◌≡◌, refl, Bool, true, false, not, List, ℤ, length, get_or, replicate}
use Rattle.std.proofs.Common.{sym, ◌∙◌, arith, ext_get_or}
use Rattle.std.proofs.lemmas.List.{length-replicate, get_or-replicate}
use Rattle.lists.specs.Tabulate.{length_tabulate, from_zero}
use Rattle.rules.specs.Terms.{listed, WellFormed}
use Rattle.rules.proofs.Soundness.{no_contradiction}
use Rattle.labels.specs.View.{view}
use Rattle.closure.specs.Facts.{facts}
use Rattle.closure.specs.Verdict as closure
use Rattle.outcome.specs.Blame.{kept_contradictory}
use Rattle.outcome.proofs.BlameMinimal.{kept_exact, select_all}
use Rattle.tables.proofs.PropositionTable.{length_propositions_from, well_formed_from}
use Rattle.tables.specs.Sets.{Set, AcceptedSet, terms_in, propositions_in}
use Rattle.consistency.specs.Live.{is_kept, kept_of, kept}
use Rattle.consistency.specs.Deciding.{Decided, consistent, contradictory}

-- every proposition is kept
abbrev pub AllKept : List ℕ → ℕ → Type 0
AllKept marks m = (k : ℕ) → k < m → get_or marks k 0 ≡ 1

-- the set has a contradiction
abbrev pub is_contradictory : Set → Bool
is_contradictory S = closure.contradictory (terms_in S) (facts (terms_in S) (propositions_in S))

abbrev pub kept_is_contradictory : Set → List ℕ → Bool
kept_is_contradictory S marks = kept_contradictory (terms_in S) (propositions_in S) (kept_of S marks)

pub kept_at : (S : Set) (marks : List ℕ) (k : ℕ) → k < S.propositions → get_or (kept_of S marks) k false ≡ is_kept marks k
kept_at S marks k h = from_zero (is_kept marks) S.propositions k false h

pub length_kept : (S : Set) (marks : List ℕ) → length (kept_of S marks) ≡ S.propositions
length_kept S marks = length_tabulate (is_kept marks) 0 S.propositions

-- all marks at once
pub kept_all : (S : Set) (marks : List ℕ) → AllKept marks S.propositions → kept_of S marks ≡ replicate (length (propositions_in S)) true
kept_all S marks A =
    let n = length_propositions_from S.propositions S.proposition in
    ext_get_or false (kept_of S marks) (replicate (length (propositions_in S)) true)
    (length_kept S marks ∙ sym (length-replicate (length (propositions_in S)) true ∙ n))
    (λ k b.
    let h : k < S.propositions = omega (arith, length_kept S marks) in
    kept_at S marks k h ∙ rw (A k h) (sym (get_or-replicate (length (propositions_in S)) k true false (omega (arith, n)))))

-- marks that are all 1
pub ones_kept : {marks : List ℕ} {k m : ℕ} → marks ≡ replicate k 1 → k ≡ m → AllKept marks m
ones_kept {k = k} e h j b = rw e (get_or-replicate k j 1 0 (omega arith))

-- with all propositions kept, the given facts are those listed
pub kept_listed : (S : Set) (marks : List ℕ) → AllKept marks S.propositions → kept S marks ≡ listed (terms_in S) (propositions_in S)
kept_listed S marks A = rw (kept_all S marks A, select_all (propositions_in S))

module _ (S : Set) (good : AcceptedSet S) where
  pub set_well_formed : WellFormed (terms_in S) (listed (terms_in S) (propositions_in S))
  set_well_formed = well_formed_from S.terms S.term S.propositions S.proposition good.terms good.propositions

  -- the verdict decides whether the kept propositions are contradictory
  pub decided_kept : {marks reps : List ℕ} {offs : List ℤ} (r : Bool) → Decided S marks reps offs r → kept_is_contradictory S marks ≡ not r
  decided_kept {marks} {reps} {offs} true (consistent nr lo L A) = go (kept_is_contradictory S marks) refl
    where
      go : (b : Bool) → kept_is_contradictory S marks ≡ b → b ≡ false
      go true e = absurd (no_contradiction (terms_in S) (kept S marks) (view reps offs) A ((kept_exact (terms_in S) (propositions_in S) set_well_formed (kept_of S marks)).0 e))
      go false e = refl
  decided_kept {marks} false (contradictory c) = (kept_exact (terms_in S) (propositions_in S) set_well_formed (kept_of S marks)).1 c

  -- with all propositions kept, it is the set's
  pub decided_all : {marks reps : List ℕ} {offs : List ℤ} (r : Bool) → AllKept marks S.propositions → Decided S marks reps offs r → is_contradictory S ≡ not r
  unfolding kept_contradictory
  decided_all {marks} r A D = rw (kept_all S marks A, select_all (propositions_in S)) at (decided_kept r D)

  module _ {marks reps : List ℕ} {offs : List ℤ} {r : Bool} (A : AllKept marks S.propositions) (D : Decided S marks reps offs r) where
    pub not_contradictory : r ≡ true → is_contradictory S ≡ false
    not_contradictory e = decided_all r A D ∙ rw e

    pub is_contradictory_lem : r ≡ false → is_contradictory S ≡ true
    is_contradictory_lem e = decided_all r A D ∙ rw e
