-- Laws of specs/TableFaults.
use Rattle.std.specs.Prelude.{ℕ, ◌≡◌}
use Rattle.std.proofs.Math.Option.{none}
use Rattle.std.proofs.Common.{ltb-false, le-ltb}
use Rattle.lists.specs.Booleans.{or_false, both_false}
use Rattle.tables.specs.RefusalLaws.{or_else_none, fault_if_none, none_at, both_none, not_faulty, all_none}
use Rattle.tables.specs.TermTable.{terms_fault}
use Rattle.tables.specs.PropositionTable.{propositions_fault}
use Rattle.tables.specs.QuestionTable.{questions_fault}
use Rattle.tables.specs.TableFaults.{Tables, lengths_fault, sizes_fault, records_fault, tables_fault, Sized, Accepted}

pub sized : (limit : ℕ) (T : Tables) → sizes_fault limit T ≡ none → Sized limit T
unfolding lengths_fault
sized limit T e =
    let a = or_else_none _ _ e in
    let b = or_else_none _ _ a.1 in
    let c = or_else_none _ _ b.1 in
    let s = or_false _ _ (fault_if_none _ _ _ c.1) in
    let t = or_false _ _ s.1 in
    record {
      few_terms = ltb-false _ _ (fault_if_none _ _ _ a.0);
      few_propositions = ltb-false _ _ (fault_if_none _ _ _ b.0);
      few_questions = ltb-false _ _ (fault_if_none _ _ _ c.0);
      terms_long = ltb-false _ _ s.0;
      propositions_long = ltb-false _ _ t.0;
      questions_long = ltb-false _ _ t.1;
    }

pub accepted : (T : Tables) → records_fault T ≡ none → Accepted T
unfolding records_fault terms_fault propositions_fault questions_fault
accepted T e =
    let a = or_else_none _ _ e in
    let b = or_else_none _ _ a.1 in
    record { terms = none_at _ _ a.0; propositions = none_at _ _ b.0; questions = none_at _ _ b.1 }

-- and back: tables that pass each test are not refused
pub records_pass : (T : Tables) → Accepted T → records_fault T ≡ none
unfolding records_fault terms_fault propositions_fault questions_fault
records_pass T a = both_none _ _ (all_none _ _ a.terms) (both_none _ _ (all_none _ _ a.propositions) (all_none _ _ a.questions))

module _ (limit : ℕ) (T : Tables) where
  pub sizes_pass : Sized limit T → sizes_fault limit T ≡ none
  unfolding lengths_fault
  sizes_pass s =
      both_none _ _ (not_faulty _ _ _ (le-ltb _ _ s.few_terms))
      (both_none _ _ (not_faulty _ _ _ (le-ltb _ _ s.few_propositions))
      (both_none _ _ (not_faulty _ _ _ (le-ltb _ _ s.few_questions))
      (not_faulty _ _ _
      (both_false _ _ (le-ltb _ _ s.terms_long) (both_false _ _ (le-ltb _ _ s.propositions_long) (le-ltb _ _ s.questions_long))))))

  pub unrefused : Sized limit T → Accepted T → tables_fault limit T ≡ none
  unfolding tables_fault
  unrefused s a = both_none _ _ (sizes_pass s) (records_pass T a)
