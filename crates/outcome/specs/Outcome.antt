-- What a run on an accepted set leaves, and a call that asks for blame or does not.
use Rattle.std.specs.Prelude.{ℕ, List, map, ℤ, pos, length, replicate}
use Rattle.lists.specs.Search.{choose}
use Rattle.types.specs.declared.Verdict.{Verdict}
use Rattle.types.specs.declared.Verdict.TheVariants.{Satisfiable, Contradiction}
use Rattle.types.specs.declared.Answer.{Answer}
use Rattle.types.specs.declared.Answer.TheVariants.{Neither, Equal, Different, Contradictory}
use Rattle.types.specs.declared.Blame.{Blame}
use Rattle.types.specs.declared.Blame.TheVariants.{Asked, NotAsked}
use Rattle.types.specs.Numbers.{number_of_answer}
use Rattle.rules.specs.Terms.{Term, Proposition, Comparison}
use Rattle.rules.specs.Assignments.{Placement}
use Rattle.closure.specs.Facts.{Facts, facts}
use Rattle.closure.specs.Join.{placed, own}
use Rattle.closure.specs.Closure.{closure}
use Rattle.closure.specs.Verdict.{holds, contradictory}
use Rattle.closure.specs.Differences.{different}
use Rattle.outcome.specs.Blame.{blame}
use Rattle.outcome.specs.PairBits.{bit_value, pair_bytes, pair_bits}

pub record Outcome : Type 0 where
  pub verdict : Verdict
  pub representatives : List ℕ
  pub offsets : List ℤ
  pub marks : List ℕ
  pub pairs : List ℕ
  pub answers : List ℕ

-- the answer to a question, without contradiction
unfoldable pub answer : List Term → Facts → Placement → Comparison → Answer
answer ts F P q =
    choose (holds P q) Equal (let d = different ts F P q.left q.offset q.right in choose d Different Neither)

unfoldable pub satisfiable : List Term → List Proposition → List Comparison → Outcome
satisfiable ts ps qs =
    let F = facts ts ps in
    let l = closure ts F in
    record {
      verdict = Satisfiable;
      representatives = map (λ x. x.rep) l;
      offsets = map (λ x. x.off) l;
      marks = replicate (length ps) 0;
      pairs = pair_bits (λ i j. different ts F (placed l) i (pos 0) j) (length ts);
      answers = map (λ q. number_of_answer (answer ts F (placed l) q)) qs;
    }

-- every term its own representative at offset 0, no pair bit, answer 3 to each question
unfoldable pub contradiction : List Term → List Proposition → List Comparison → Outcome
contradiction ts ps qs = record {
  verdict = Contradiction;
  representatives = map (λ x. x.rep) (own 0 (length ts));
  offsets = map (λ x. x.off) (own 0 (length ts));
  marks = map bit_value (blame ts ps);
  pairs = replicate (pair_bytes (length ts)) 0;
  answers = replicate (length qs) (number_of_answer Contradictory);
}

unfoldable pub outcome : List Term → List Proposition → List Comparison → Outcome
outcome ts ps qs =
    let c = contradiction ts ps qs in
    let s = satisfiable ts ps qs in
    choose (contradictory ts (facts ts ps)) c s

-- the first if blame is asked for, else the second
abbrev pub if_asked : {A : Type 0} → Blame → A → A → A
if_asked Asked a b = a
if_asked NotAsked a b = b

-- the marks as a call leaves them: all 0 unless blame is asked for
abbrev pub marks_if : Blame → List ℕ → List ℕ
marks_if b marks = if_asked b marks (replicate (length marks) 0)

-- and with them the outcome
abbrev pub with_blame : Blame → Outcome → Outcome
with_blame b O = record {
  verdict = O.verdict;
  representatives = O.representatives;
  offsets = O.offsets;
  marks = marks_if b O.marks;
  pairs = O.pairs;
  answers = O.answers;
}
