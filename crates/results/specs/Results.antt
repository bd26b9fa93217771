-- What the functions for C return: the number of a result, whose fields tell it whole.
use Rattle.std.specs.Prelude.{ℕ, ◌≡◌, List, Result, Ok, Err}
use Rattle.std.proofs.Common.{arith}
use Rattle.types.specs.declared.Blame.{Blame}
use Rattle.types.specs.declared.Fault.{Fault}
use Rattle.types.specs.declared.Counts.{Counts}
use Rattle.types.specs.declared.Verdict.{Verdict}
use Rattle.numbers.specs.Numbers.{number_of_solved, number_of_read, Tells, TellsCounts, solved_tells, refused_tells, accepted_tells}
use Rattle.tables.specs.Limits.{most}
use Rattle.tables.specs.TableFaults.{Tables}
use Rattle.tables.specs.Memory.{Memory}
use Rattle.tables.proofs.Places.{call_place, tables_place}
use Rattle.frames.specs.Rows.{Rows}
use Rattle.reader.specs.Answers.{ReadAs}
use Rattle.reader.specs.Passing.{read_sized}
use Rattle.reader.specs.Facts.{read_place}
use Rattle.solver.specs.Call.{Answered, verdict_of}
use Rattle.solver.proofs.Demands.{refused_exactly, verdict_refused_exactly}

-- the number of what `solve` returns, and the memory that it leaves
pub record AnsweredNumber (b : Blame) (T : Tables) (M N : Memory) (r : ℕ) : Type 0 where
  pub solved : Result Verdict Fault
  pub number : r ≡ number_of_solved solved
  pub answered : Answered b T M N solved

-- the number of what `read` returns, and the rows that it leaves
pub record ReadNumber (text : List ℕ) (C : Rows) (r : ℕ) (D : Rows) : Type 0 where
  pub result : Result Counts Fault
  pub number : r ≡ number_of_read result
  pub read : ReadAs text C result D

-- The number tells a refusal whole: of `solve`, of `verdict`,
pub solve_tells : (b : Blame) (T : Tables) (M N : Memory) (r : ℕ) (A : AnsweredNumber b T M N r) (f : Fault) → A.solved ≡ Err f → Tells 16 r f
solve_tells b T M N r A f e =
    let p = call_place T M f ((refused_exactly b T M N A.solved A.answered f).0 e) in
    rw (A.number, e) (solved_tells f (omega arith))

pub verdict_tells : (T : Tables) (f : Fault) → verdict_of T ≡ Err f → Tells 16 (number_of_solved (verdict_of T)) f
verdict_tells T f e =
    let p = tables_place most T f ((verdict_refused_exactly T f).0 e) in
    rw e (solved_tells f (omega arith))

-- and of `read`; or the counts.
module _ (text : List ℕ) (C D : Rows) (r : ℕ) (A : ReadNumber text C r D) where
  pub read_tells : (f : Fault) → A.result ≡ Err f → Tells 48 r f
  read_tells f e =
      let p = read_place text C D f (rw e at A.read) in
      rw (A.number, e) (refused_tells f (omega arith))

  pub read_tells_counts : (c : Counts) → A.result ≡ Ok c → TellsCounts r c
  read_tells_counts c e =
      let s = read_sized text C c D (rw e at A.read) in
      rw (A.number, e) (accepted_tells c (omega (arith, s.few_terms)) (omega (arith, s.few_propositions)) (omega (arith, s.few_questions)))
