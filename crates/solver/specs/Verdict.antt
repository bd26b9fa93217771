-- The promise of `verdict`: how it follows from the verdict on the rows that the counts say.
use Rattle.std.specs.Prelude.{ℕ, ◌≡◌, Bool, true, false, not, List, length, Ok, Err}
use Rattle.std.proofs.Math.Path.{refl, ap}
use Rattle.std.proofs.Common.{◌∙◌, arith, le-ltb}
use Rattle.std.proofs.Math.Option.{Option, none, some}
use Rattle.lists.specs.Tabulate.{tabulate}
use Rattle.types.specs.declared.Fault.{Fault}
use Rattle.types.specs.declared.Verdict.{Verdict}
use Rattle.outcome.specs.Outcome.{Outcome, outcome, satisfiable, contradiction}
use Rattle.closure.specs.Facts.{facts}
use Rattle.closure.specs.Verdict.{contradictory}
use Rattle.tables.specs.Limits.{most}
use Rattle.tables.specs.Rows.{Row}
use Rattle.tables.specs.Refusals.{first_fault}
use Rattle.tables.specs.RefusalLaws.{or_else_none}
use Rattle.tables.specs.QuestionTable.{questions_fault, questions_from}
use Rattle.tables.specs.TableFaults.{Tables, tables_of, acceptance, lengths_fault, sizes_fault, records_fault, tables_fault, Sized}
use Rattle.tables.proofs.TableFaults.{sized}
use Rattle.refusals.specs.FirstFault.{accepts}
use Rattle.solver.specs.Call.{terms_of, propositions_of, run, returned, unasked, verdict_of}
use Rattle.solver.specs.Counted.{counted_set, counted_terms, counted_propositions}
use Rattle.blame.specs.Kept.{is_contradictory}

-- the verdict on a consistent set, and on one that is not
abbrev pub verdict_if : Bool → Verdict
verdict_if true = Verdict.Satisfiable
verdict_if false = Verdict.Contradiction

pub verdict_when : (T : Tables) (b : Bool) → contradictory (terms_of T) (facts (terms_of T) (propositions_of T)) ≡ not b → verdict_if b ≡ (run T).verdict
unfolding run outcome satisfiable contradiction
verdict_when T true e = rw e
verdict_when T false e = rw e

-- refused tables
pub verdict_refused : (T : Tables) {f : Fault} → Err f ≡ acceptance (tables_fault most T) → Err f ≡ verdict_of T
unfolding verdict_of
verdict_refused T {f} e = go (tables_fault most T) e
  where
    go : (o : Option Fault) → Err f ≡ acceptance o → Err f ≡ returned o T
    go none e = cc
    go (some g) e = let h : f ≡ g = cc in rw h

-- without questions their rows do not matter
module _ (n : ℕ) (terms : List Row) (m : ℕ) (propositions rows : List Row) where
  unasked_fault : tables_fault most (tables_of n terms m propositions 0 rows) ≡ tables_fault most (unasked n terms m propositions)
  unfolding tables_fault lengths_fault records_fault questions_fault first_fault
  unasked_fault = rw (le-ltb (length rows) 0 (omega arith))

  unasked_run : run (tables_of n terms m propositions 0 rows) ≡ run (unasked n terms m propositions)
  unfolding run questions_from tabulate
  unasked_run = refl

  pub unasked_verdict : verdict_of (tables_of n terms m propositions 0 rows) ≡ verdict_of (unasked n terms m propositions)
  unfolding verdict_of
  unasked_verdict = ap (λ (o : Option Fault). returned o (tables_of n terms m propositions 0 rows)) unasked_fault ∙ go (tables_fault most (unasked n terms m propositions))
    where
      go : (o : Option Fault) → returned o (tables_of n terms m propositions 0 rows) ≡ returned o (unasked n terms m propositions)
      go none = ap (λ (O : Outcome). Ok O.verdict) unasked_run
      go (some f) = refl

-- accepted tables
module _ (T : Tables) (e : Ok tt ≡ acceptance (tables_fault most T)) where
  no_fault : tables_fault most T ≡ none
  no_fault = accepts (tables_fault most T) e refl

  pub counts : Sized most T
  unfolding tables_fault
  counts = sized most T (or_else_none (sizes_fault most T) (records_fault T) no_fault).0

  pub no_records_fault : records_fault T ≡ none
  unfolding tables_fault
  no_records_fault = (or_else_none (sizes_fault most T) (records_fault T) no_fault).1

  pub verdict_decided : (b : Bool) → is_contradictory (counted_set T) ≡ not b → Ok (verdict_if b) ≡ verdict_of T
  unfolding verdict_of
  verdict_decided b c = rw no_fault (ap Ok (verdict_when T b (rw (counted_terms T counts, counted_propositions T counts) at c)))
