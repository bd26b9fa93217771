-- The rows that the counts say are an accepted set, whose verdict is that of the tables.
use Rattle.std.proofs.Common.{◌≡◌, ℕ, Bool, true, false, not, List, ℤ, sym, ◌∙◌, Ok, Err, arith, rules, length-take-le, replicate}
use Rattle.std.proofs.lemmas.List.{get_or-replicate}
use Rattle.tables.specs.Limits.{most}
use Rattle.tables.specs.TableFaults.{Tables, tables_fault, acceptance}
use Rattle.blame.specs.Kept.{is_contradictory, decided_all}
use Rattle.consistency.specs.Deciding.{Decided}
use Rattle.refusals.specs.FirstFault.{passes_test}
use Rattle.solver.specs.Call.{unasked}
use Rattle.solver.specs.Counted.{counted_set, counted_accepted}
use Rattle.solver.specs.Verdict.{verdict_refused, counts, no_records_fault, verdict_decided}
use Rattle.solver.proofs.verdict.Goals as goal

-- what the test of the set decides
decides : (T : Tables) → Ok tt ≡ acceptance (tables_fault most T) → {reps : List ℕ} {offs : List ℤ} {r : Bool} → Decided (counted_set T) (replicate 512 1) reps offs r → is_contradictory (counted_set T) ≡ not r
decides T p {r = r} d =
    let s = counts T p in
    let m = length-take-le T.propositions.count T.propositions.rows s.propositions_long in
    decided_all (counted_set T) (counted_accepted T s (no_records_fault T p)) r (λ k h. get_or-replicate 512 k 1 0 (omega (arith, m, s.few_propositions))) d

pub returns-in_err-check_tables : goal.returns-in_err-check_tables
returns-in_err-check_tables c =
    let T = unasked c.args.n c.args.terms.now c.args.m c.args.propositions.now in
    let e : c.from_residual.result ≡ Err c.in_err-check_tables.field-0.0 = search rules in
    e ∙ verdict_refused T (sym c.in_err-check_tables.was ∙ c.check_tables.ensures)

pub slice_bounds-is_consistent-end : goal.slice_bounds-is_consistent-end
slice_bounds-is_consistent-end c =
    let T = unasked c.args.n c.args.terms.now c.args.m c.args.propositions.now in
    let s = counts T (passes_test c.check_tables.ensures c.in_ok-check_tables.was) in
    sym (length-take-le _ _ s.terms_long)

pub slice_bounds-is_consistent-end-2 : goal.slice_bounds-is_consistent-end-2
slice_bounds-is_consistent-end-2 c =
    let T = unasked c.args.n c.args.terms.now c.args.m c.args.propositions.now in
    let s = counts T (passes_test c.check_tables.ensures c.in_ok-check_tables.was) in
    sym (length-take-le _ _ s.propositions_long)

pub slice_bounds-reps-end : goal.slice_bounds-reps-end
slice_bounds-reps-end c =
    let T = unasked c.args.n c.args.terms.now c.args.m c.args.propositions.now in
    let s = counts T (passes_test c.check_tables.ensures c.in_ok-check_tables.was) in
    s.few_terms

pub slice_bounds-is_consistent-end-4 : goal.slice_bounds-is_consistent-end-4
slice_bounds-is_consistent-end-4 c =
    let T = unasked c.args.n c.args.terms.now c.args.m c.args.propositions.now in
    let s = counts T (passes_test c.check_tables.ensures c.in_ok-check_tables.was) in
    sym (length-take-le _ _ s.few_terms)

pub slice_bounds-offs-end : goal.slice_bounds-offs-end
slice_bounds-offs-end c =
    let T = unasked c.args.n c.args.terms.now c.args.m c.args.propositions.now in
    let s = counts T (passes_test c.check_tables.ensures c.in_ok-check_tables.was) in
    s.few_terms

pub slice_bounds-is_consistent-end-5 : goal.slice_bounds-is_consistent-end-5
slice_bounds-is_consistent-end-5 c =
    let T = unasked c.args.n c.args.terms.now c.args.m c.args.propositions.now in
    let s = counts T (passes_test c.check_tables.ensures c.in_ok-check_tables.was) in
    sym (length-take-le _ _ s.few_terms)

pub is_consistent-requires-clause-accepted_set : goal.is_consistent-requires-clause-accepted_set
is_consistent-requires-clause-accepted_set c =
    let T = unasked c.args.n c.args.terms.now c.args.m c.args.propositions.now in
    let p = passes_test c.check_tables.ensures c.in_ok-check_tables.was in
    let s = counts T (passes_test c.check_tables.ensures c.in_ok-check_tables.was) in
    (counted_accepted T s (no_records_fault T p), omega (arith, length-take-le T.propositions.count T.propositions.rows s.propositions_long, s.few_propositions))

pub is_consistent-requires-clause-representatives_len : goal.is_consistent-requires-clause-representatives_len
is_consistent-requires-clause-representatives_len c =
    let T = unasked c.args.n c.args.terms.now c.args.m c.args.propositions.now in
    let s = counts T (passes_test c.check_tables.ensures c.in_ok-check_tables.was) in
    let n = length-take-le T.terms.count T.terms.rows s.terms_long in
    (length-take-le _ _ s.few_terms ∙ sym n, length-take-le _ _ s.few_terms ∙ sym n)

pub returns-then-not-is_consistent : goal.returns-then-not-is_consistent
returns-then-not-is_consistent c =
    let T = unasked c.args.n c.args.terms.now c.args.m c.args.propositions.now in
    let p = passes_test c.check_tables.ensures c.in_ok-check_tables.was in
    verdict_decided T p false (rw c.if-not-is_consistent.true at (decides T p c.is_consistent.ensures))

pub returns : goal.returns
returns c =
    let T = unasked c.args.n c.args.terms.now c.args.m c.args.propositions.now in
    let p = passes_test c.check_tables.ensures c.in_ok-check_tables.was in
    verdict_decided T p true (rw c.if-not-is_consistent.false at (decides T p c.is_consistent.ensures))
