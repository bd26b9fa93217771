-- Paper 01's marked examples W1 to W12.
use Rattle.std.specs.Prelude.{ℕ, ◌≡◌, refl, List, [], ◌∷◌, map, ℤ, pos, negsuc, ◌+ℤ◌}
use Rattle.std.proofs.Common.{◌∙◌, ap}
use Rattle.std.proofs.Math.IntN.{+ℤ_idl}
use Rattle.types.specs.declared.Verdict.{Verdict}
use Rattle.types.specs.declared.Verdict.TheVariants.{Satisfiable, Contradiction}
use Rattle.rules.specs.Terms.{Term, variable, auxiliary, deref, Proposition, equality, disequality, block_disequality, Comparison, listed}
use Rattle.rules.specs.Assignments.{Placement, Holds, Differs, Assignment}
use Rattle.closure.specs.Facts.{comparison}
use Rattle.integers.specs.Compare.{eq_ℤ}
use Rattle.lists.specs.Items.{Item}
use Rattle.lists.specs.Search.{find, any, find_pair}
use Rattle.lists.specs.Collect.{collect, cross}
use Rattle.lists.specs.Counting.{count}
use Rattle.lists.specs.Tabulate.{tabulate, select}
use Rattle.closure.specs.Facts.{facts}
use Rattle.closure.specs.Join.{placed, own, link, join, total}
use Rattle.closure.specs.Closure.{derefs, is_same_address, unjoined, join_all, close, rounds, closure}
use Rattle.closure.specs.Verdict.{holds, together, clash, conflicting, contradictory}
use Rattle.closure.specs.Differences.{classes_are, apart, is_other_offset, between, unequal, different_at, values_differ, addresses_differ, draws, draw, undrawn, twos, drawn, different}
use Rattle.outcome.specs.Blame.{kept_contradictory, drop_below, blame}
use Rattle.outcome.specs.PairBits.{number, pair_bit, pair_bits}
use Rattle.outcome.specs.Outcome.{Outcome, outcome, satisfiable, contradiction, answer}

pub record Example : Type 0 where
  pub terms : List Term
  pub propositions : List Proposition
  pub questions : List Comparison
  pub leaves : Outcome

-- terms, propositions, questions; then verdict, representatives, offsets, marks, pair bits, answers
abbrev example : List Term → List Proposition → List Comparison → Verdict → List ℕ → List ℤ → List ℕ → List ℕ → List ℕ → Example
example ts ps qs v rs os ms bits answers = record {
  terms = ts;
  propositions = ps;
  questions = qs;
  leaves = record { verdict = v; representatives = rs; offsets = os; marks = ms; pairs = bits; answers = answers };
}

abbrev a : Term
a = auxiliary 0

abbrev b : Term
b = auxiliary 1

abbrev c : Term
c = auxiliary 2

abbrev pub w9 : Example
w9 =
    example
    (a ∷ b ∷ deref (pos 0) 0 ∷ deref (pos 1) 0 ∷ deref (pos 0) 1 ∷ deref (pos 1) 1 ∷ [])
    (equality 4 (pos 0) 3 ∷ disequality 2 (pos 0) 5 ∷ [])
    (comparison 0 (pos 1) 1 ∷ comparison 0 (pos 0) 1 ∷ [])
    Satisfiable
    (0 ∷ 1 ∷ 2 ∷ 3 ∷ 3 ∷ 5 ∷ [])
    (pos 0 ∷ pos 0 ∷ pos 0 ∷ pos 0 ∷ pos 0 ∷ pos 0 ∷ [])
    (0 ∷ 0 ∷ [])
    (0 ∷ 0 ∷ 2 ∷ 0 ∷ 1 ∷ [])
    (2 ∷ 0 ∷ [])

-- W1 to W12, in order
unfoldable pub examples : List Example
examples =
    example [] [] [] Satisfiable [] [] [] [] []
    ∷ example (a ∷ []) (equality 0 (pos 0) 0 ∷ []) [] Satisfiable (0 ∷ []) (pos 0 ∷ []) (0 ∷ []) (0 ∷ []) []
    ∷ example (a ∷ []) (equality 0 (pos 1) 0 ∷ []) [] Contradiction (0 ∷ []) (pos 0 ∷ []) (1 ∷ []) (0 ∷ []) []
    ∷ example (a ∷ []) (disequality 0 (pos 1) 0 ∷ []) [] Satisfiable (0 ∷ []) (pos 0 ∷ []) (0 ∷ []) (0 ∷ []) []
    ∷ example (a ∷ []) (block_disequality 0 0 ∷ []) [] Contradiction (0 ∷ []) (pos 0 ∷ []) (1 ∷ []) (0 ∷ []) []
    ∷ example (variable 1 ∷ variable 2 ∷ []) (equality 0 (pos 8) 1 ∷ []) [] Contradiction (0 ∷ 1 ∷ []) (pos 0 ∷ pos 0 ∷ []) (1 ∷ []) (0 ∷ []) []
    ∷ example
    (a ∷ b ∷ deref (pos 0) 0 ∷ deref (pos 0) 1 ∷ deref (pos 0) 2 ∷ deref (pos 0) 3 ∷ [])
    (equality 0 (pos 0) 1 ∷ [])
    (comparison 4 (pos 0) 5 ∷ [])
    Satisfiable
    (0 ∷ 0 ∷ 2 ∷ 2 ∷ 4 ∷ 4 ∷ [])
    (pos 0 ∷ pos 0 ∷ pos 0 ∷ pos 0 ∷ pos 0 ∷ pos 0 ∷ [])
    (0 ∷ [])
    (0 ∷ 0 ∷ 0 ∷ 0 ∷ 0 ∷ [])
    (1 ∷ [])
    ∷ example
    (a ∷ b ∷ [])
    (equality 0 (pos 0) 1 ∷ equality 0 (pos 0) 1 ∷ disequality 0 (pos 0) 1 ∷ [])
    []
    Contradiction
    (0 ∷ 1 ∷ [])
    (pos 0 ∷ pos 0 ∷ [])
    (1 ∷ 0 ∷ 1 ∷ [])
    (0 ∷ [])
    []
    ∷ w9
    ∷ example
    (a ∷ b ∷ [])
    (equality 0 (negsuc 2147483647) 1 ∷ [])
    []
    Satisfiable
    (0 ∷ 0 ∷ [])
    (pos 0 ∷ pos 2147483648 ∷ [])
    (0 ∷ [])
    (6 ∷ [])
    []
    ∷ example
    (variable 1 ∷ auxiliary 1 ∷ deref (pos 0) 0 ∷ deref (pos 4) 1 ∷ [])
    (equality 1 (negsuc 3) 0 ∷ disequality 3 (pos 0) 2 ∷ [])
    (comparison 3 (pos 0) 2 ∷ comparison 0 (pos 4) 1 ∷ comparison 0 (pos 0) 1 ∷ comparison 2 (pos 0) 0 ∷ [])
    Contradiction
    (0 ∷ 1 ∷ 2 ∷ 3 ∷ [])
    (pos 0 ∷ pos 0 ∷ pos 0 ∷ pos 0 ∷ [])
    (1 ∷ 1 ∷ [])
    (0 ∷ 0 ∷ [])
    (3 ∷ 3 ∷ 3 ∷ 3 ∷ [])
    ∷ example
    (a ∷ b ∷ c ∷ deref (pos 0) 0 ∷ deref (pos 0) 1 ∷ [])
    (equality 2 (pos 0) 0 ∷ disequality 3 (pos 0) 4 ∷ [])
    (comparison 0 (pos 0) 1 ∷ comparison 2 (pos 0) 1 ∷ [])
    Satisfiable
    (0 ∷ 1 ∷ 0 ∷ 3 ∷ 4 ∷ [])
    (pos 0 ∷ pos 0 ∷ pos 0 ∷ pos 0 ∷ pos 0 ∷ [])
    (0 ∷ 0 ∷ [])
    (162 ∷ 8 ∷ 136 ∷ 0 ∷ [])
    (2 ∷ 2 ∷ [])
    ∷ []

-- each example leaves just what is listed for it
pub examples_hold : map (λ e. outcome e.terms e.propositions e.questions) examples ≡ map (λ e. e.leaves) examples
unfolding examples outcome satisfiable contradiction answer blame drop_below kept_contradictory pair_bits pair_bit number
    contradictory conflicting holds together clash different drawn twos undrawn draw draws addresses_differ values_differ different_at unequal between is_other_offset apart classes_are
    closure close rounds join_all unjoined is_same_address derefs join link placed own total facts eq_ℤ find any find_pair collect cross count tabulate select
examples_hold = refl

-- W9 answers "neither" for a against 0 + b, though they differ in every assignment
pub w9_differs : (P : Placement) → Assignment w9.terms (listed w9.terms w9.propositions) P → Differs P 0 (pos 0) 1
w9_differs P A h = A.unequal (1, refl) (then (then (inner 2 4 (pos 0) refl refl) (A.respects.equal (0, refl))) (inner 3 5 (pos 1) refl refl))
  where
    -- dereferences of a and of b at one offset, if a is b
    inner : (x y : ℕ) (z : ℤ) → Item w9.terms x (deref z 0) → Item w9.terms y (deref z 1) → Holds P x (pos 0) y
    inner x y z i j = A.respects.congruent i j h.same_block (ap (λ (p : ℤ). z +ℤ p) (h.at_offset ∙ +ℤ_idl (P.position 1)))

    then : {x y w : ℕ} → Holds P x (pos 0) y → Holds P y (pos 0) w → Holds P x (pos 0) w
    then {x} {y} {w} f g = record { same_block = f.same_block ∙ g.same_block; at_offset = f.at_offset ∙ (+ℤ_idl (P.position y) ∙ g.at_offset) }
