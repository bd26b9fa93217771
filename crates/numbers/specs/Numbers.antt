-- The number that stands for what a call returns, and for whether it asks for blame.
use Rattle.std.specs.Prelude.{ℕ, zero, suc, ◌+◌, ◌*◌, ◌/◌, ◌%◌, ◌^◌, ◌<◌, ◌≤◌, ◌≡◌, refl, Result, Ok, Err}
use Rattle.std.proofs.Common.{arith}
use Rattle.types.specs.declared.Blame.{Blame}
use Rattle.types.specs.declared.Refusal.{Refusal}
use Rattle.types.specs.declared.Fault.{Fault}
use Rattle.types.specs.declared.Counts.{Counts}
use Rattle.types.specs.declared.Verdict.{Verdict}
use Rattle.types.specs.Numbers.{number_of_verdict, number_of_refusal}

-- The verdict's number; a refusal has its number in the higher and its place in the lower 16 bits.
abbrev pub number_of_solved : Result Verdict Fault → ℕ
number_of_solved (Ok Verdict.Satisfiable) = number_of_verdict Verdict.Satisfiable
number_of_solved (Ok Verdict.Contradiction) = number_of_verdict Verdict.Contradiction
number_of_solved (Err f) = 2 ^ 16 * number_of_refusal f.refusal + f.place % 2 ^ 16

-- The counts of an accepted text in 16 bits each; a refusal has its number in the highest 16 bits and its frame in the others.
-- No count is above 512, so the highest 16 bits of an accepted text are 0.
abbrev pub number_of_read : Result Counts Fault → ℕ
number_of_read (Ok c) = 2 ^ 32 * (c.terms % 2 ^ 16) + 2 ^ 16 * (c.propositions % 2 ^ 16) + c.questions % 2 ^ 16
number_of_read (Err f) = 2 ^ 48 * number_of_refusal f.refusal + f.place % 2 ^ 48

pub refusal_small : (r : Refusal) → number_of_refusal r ≤ 10
refusal_small Refusal.TooManyTerms = omega arith
refusal_small Refusal.TooManyPropositions = omega arith
refusal_small Refusal.TooManyQuestions = omega arith
refusal_small Refusal.InnerNotListed = omega arith
refusal_small Refusal.AtomListedTwice = omega arith
refusal_small Refusal.PropositionTermNotListed = omega arith
refusal_small Refusal.QuestionTermNotListed = omega arith
refusal_small Refusal.TooShort = omega arith
refusal_small Refusal.Malformed = omega arith
refusal_small Refusal.GroupOrder = omega arith

-- A number tells a refusal and its place, in the bits from w on and below: w is 16 for `solve` and `verdict`, 48 for `read`,
pub record Tells (w n : ℕ) (f : Fault) : Type 0 where
  pub refusal : n / 2 ^ w ≡ number_of_refusal f.refusal
  pub place : n % 2 ^ w ≡ f.place

-- or the counts of an accepted text.
pub record TellsCounts (n : ℕ) (c : Counts) : Type 0 where
  pub refusal : n / 2 ^ 48 ≡ 0
  pub terms : n / 2 ^ 32 % 2 ^ 16 ≡ c.terms
  pub propositions : n / 2 ^ 16 % 2 ^ 16 ≡ c.propositions
  pub questions : n % 2 ^ 16 ≡ c.questions

pub solved_tells : (f : Fault) → f.place < 2 ^ 16 → Tells 16 (number_of_solved (Err f)) f
solved_tells f h = record { refusal = omega arith; place = omega arith }

pub refused_tells : (f : Fault) → f.place < 2 ^ 48 → Tells 48 (number_of_read (Err f)) f
refused_tells f h = record { refusal = omega arith; place = omega arith }

pub accepted_tells : (c : Counts) → c.terms < 2 ^ 16 → c.propositions < 2 ^ 16 → c.questions < 2 ^ 16 → TellsCounts (number_of_read (Ok c)) c
accepted_tells c t p q = record { refusal = omega arith; terms = omega arith; propositions = omega arith; questions = omega arith }

-- 0 does not ask for blame, every other number does
abbrev pub blame_of_number : ℕ → Blame
blame_of_number zero = Blame.NotAsked
blame_of_number (suc n) = Blame.Asked

pub asks_unless_zero : (blame_of_number 0 ≡ Blame.NotAsked) × ((n : ℕ) → 0 < n → blame_of_number n ≡ Blame.Asked)
asks_unless_zero = (refl, go)
  where
    go : (n : ℕ) → 0 < n → blame_of_number n ≡ Blame.Asked
    go zero h = absurd (omega arith)
    go (suc n) h = refl
