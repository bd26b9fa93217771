-- Laws of specs/Memory.
use Rattle.std.specs.Prelude.{◌≡◌}
use Rattle.std.proofs.Math.Option.{none}
use Rattle.std.proofs.Common.{ltb-false, le-ltb}
use Rattle.lists.specs.Booleans.{or_false, both_false}
use Rattle.tables.specs.Limits.{most}
use Rattle.tables.specs.Refusals.{or_else}
use Rattle.tables.specs.RefusalLaws.{or_else_none, fault_if_none, both_none, not_faulty}
use Rattle.tables.specs.TableFaults.{Tables, sizes_fault, records_fault, tables_fault, Sized, Accepted}
use Rattle.tables.proofs.TableFaults.{sized, accepted, sizes_pass, records_pass}
use Rattle.tables.specs.Memory.{Memory, room_fault, memory_fault, call_fault, EnoughFor}

pub enough : (T : Tables) (M : Memory) → memory_fault T M ≡ none → EnoughFor T M
unfolding room_fault
enough T M e =
    let a = or_false _ _ (fault_if_none _ _ _ e) in
    let b = or_false _ _ a.1 in
    let c = or_false _ _ b.1 in
    let d = or_false _ _ c.1 in
    record {
      representatives = ltb-false _ _ a.0;
      offsets = ltb-false _ _ b.0;
      marks = ltb-false _ _ c.0;
      pairs = ltb-false _ _ d.0;
      answers = ltb-false _ _ d.1;
    }

pub no_memory_fault : (T : Tables) (M : Memory) → EnoughFor T M → memory_fault T M ≡ none
unfolding room_fault
no_memory_fault T M E =
    not_faulty _ _ _
    (both_false _ _ (le-ltb _ _ E.representatives)
    (both_false _ _ (le-ltb _ _ E.offsets)
    (both_false _ _ (le-ltb _ _ E.marks) (both_false _ _ (le-ltb _ _ E.pairs) (le-ltb _ _ E.answers)))))

-- a call is accepted exactly when it passes each test
pub record Passed (T : Tables) (M : Memory) : Type 0 where
  pub sized : Sized most T
  pub enough : EnoughFor T M
  pub accepted : Accepted T

pub passed : (T : Tables) (M : Memory) → call_fault T M ≡ none → Passed T M
unfolding call_fault
passed T M e =
    let a = or_else_none (sizes_fault most T) (or_else (memory_fault T M) (records_fault T)) e in
    let b = or_else_none (memory_fault T M) (records_fault T) a.1 in
    record { sized = sized most T a.0; enough = enough T M b.0; accepted = accepted T b.1 }

pub call_unrefused : (T : Tables) (M : Memory) → Passed T M → call_fault T M ≡ none
unfolding call_fault
call_unrefused T M p =
    both_none _ _ (sizes_pass most T p.sized) (both_none _ _ (no_memory_fault T M p.enough) (records_pass T p.accepted))

-- tables that are not refused, with enough memory
pub call_accepted : (T : Tables) (M : Memory) → tables_fault most T ≡ none → memory_fault T M ≡ none → call_fault T M ≡ none
unfolding call_fault tables_fault
call_accepted T M e room =
    let a = or_else_none (sizes_fault most T) (records_fault T) e in
    both_none _ _ a.0 (both_none _ _ room a.1)
