-- The tests in their order, then the rows and the cells that the counts say.
use Rattle.std.proofs.Common.{◌≡◌, sym, Err, arith, rules, length-take-le}
use Rattle.tables.specs.Limits.{square_small}
use Rattle.tables.specs.TableFaults.{tables_of}
use Rattle.tables.specs.Memory.{memory_of}
use Rattle.refusals.specs.FirstFault.{passes_test}
use Rattle.solver.proofs.Answering.{sizes_refused, counts, memory_refused, room, records_refused, accepted_call, answered}
use Rattle.solver.proofs.solve.Goals as goal

pub returns-in_err-check_sizes : goal.returns-in_err-check_sizes
returns-in_err-check_sizes c =
    let T = tables_of c.args.n c.args.terms.now c.args.m c.args.propositions.now c.args.q c.args.questions.now in
    let M = memory_of c.args.representatives.now c.args.offsets.now c.args.marks.now c.args.pairs.now c.args.answers.now in
    let e : c.from_residual.result ≡ Err c.in_err-check_sizes.field-0.0 = search rules in
    sizes_refused T M c.check_sizes.ensures c.in_err-check_sizes.was e

pub check_memory-requires : goal.check_memory-requires
check_memory-requires c =
    let T = tables_of c.args.n c.args.terms.now c.args.m c.args.propositions.now c.args.q c.args.questions.now in
    let M = memory_of c.args.representatives.now c.args.offsets.now c.args.marks.now c.args.pairs.now c.args.answers.now in
    let s = passes_test c.check_sizes.ensures c.in_ok-check_sizes.was in
    (counts T M s).few_terms

pub returns-in_err-check_memory : goal.returns-in_err-check_memory
returns-in_err-check_memory c =
    let T = tables_of c.args.n c.args.terms.now c.args.m c.args.propositions.now c.args.q c.args.questions.now in
    let M = memory_of c.args.representatives.now c.args.offsets.now c.args.marks.now c.args.pairs.now c.args.answers.now in
    let s = passes_test c.check_sizes.ensures c.in_ok-check_sizes.was in
    let e : c.from_residual-in_err-check_memory.result ≡ Err c.in_err-check_memory.field-0.0 = search rules in
    memory_refused T M s c.check_memory.ensures c.in_err-check_memory.was e

pub slice_bounds-check_records-end : goal.slice_bounds-check_records-end
slice_bounds-check_records-end c =
    let T = tables_of c.args.n c.args.terms.now c.args.m c.args.propositions.now c.args.q c.args.questions.now in
    let M = memory_of c.args.representatives.now c.args.offsets.now c.args.marks.now c.args.pairs.now c.args.answers.now in
    let s = passes_test c.check_sizes.ensures c.in_ok-check_sizes.was in
    sym (length-take-le _ _ (counts T M s).terms_long)

pub slice_bounds-check_records-end-2 : goal.slice_bounds-check_records-end-2
slice_bounds-check_records-end-2 c =
    let T = tables_of c.args.n c.args.terms.now c.args.m c.args.propositions.now c.args.q c.args.questions.now in
    let M = memory_of c.args.representatives.now c.args.offsets.now c.args.marks.now c.args.pairs.now c.args.answers.now in
    let s = passes_test c.check_sizes.ensures c.in_ok-check_sizes.was in
    sym (length-take-le _ _ (counts T M s).propositions_long)

pub slice_bounds-check_records-end-3 : goal.slice_bounds-check_records-end-3
slice_bounds-check_records-end-3 c =
    let T = tables_of c.args.n c.args.terms.now c.args.m c.args.propositions.now c.args.q c.args.questions.now in
    let M = memory_of c.args.representatives.now c.args.offsets.now c.args.marks.now c.args.pairs.now c.args.answers.now in
    let s = passes_test c.check_sizes.ensures c.in_ok-check_sizes.was in
    sym (length-take-le _ _ (counts T M s).questions_long)

pub returns-in_err-check_records : goal.returns-in_err-check_records
returns-in_err-check_records c =
    let T = tables_of c.args.n c.args.terms.now c.args.m c.args.propositions.now c.args.q c.args.questions.now in
    let M = memory_of c.args.representatives.now c.args.offsets.now c.args.marks.now c.args.pairs.now c.args.answers.now in
    let s = passes_test c.check_sizes.ensures c.in_ok-check_sizes.was in
    let m = passes_test c.check_memory.ensures c.in_ok-check_memory.was in
    let e : c.from_residual-in_err-check_records.result ≡ Err c.in_err-check_records.field-0.0 = search rules in
    records_refused T M s m c.check_records.ensures c.in_err-check_records.was e

pub overflow_mul-size : goal.overflow_mul-size
overflow_mul-size c =
    let T = tables_of c.args.n c.args.terms.now c.args.m c.args.propositions.now c.args.q c.args.questions.now in
    let M = memory_of c.args.representatives.now c.args.offsets.now c.args.marks.now c.args.pairs.now c.args.answers.now in
    let s = passes_test c.check_sizes.ensures c.in_ok-check_sizes.was in
    omega (arith, square_small c.args.n (counts T M s).few_terms)

pub overflow_add-size : goal.overflow_add-size
overflow_add-size c =
    let T = tables_of c.args.n c.args.terms.now c.args.m c.args.propositions.now c.args.q c.args.questions.now in
    let M = memory_of c.args.representatives.now c.args.offsets.now c.args.marks.now c.args.pairs.now c.args.answers.now in
    let s = passes_test c.check_sizes.ensures c.in_ok-check_sizes.was in
    omega (arith, square_small c.args.n (counts T M s).few_terms)

pub slice_bounds-solve_accepted-end : goal.slice_bounds-solve_accepted-end
slice_bounds-solve_accepted-end c =
    let T = tables_of c.args.n c.args.terms.now c.args.m c.args.propositions.now c.args.q c.args.questions.now in
    let M = memory_of c.args.representatives.now c.args.offsets.now c.args.marks.now c.args.pairs.now c.args.answers.now in
    let s = passes_test c.check_sizes.ensures c.in_ok-check_sizes.was in
    sym (length-take-le _ _ (counts T M s).terms_long)

pub slice_bounds-solve_accepted-end-2 : goal.slice_bounds-solve_accepted-end-2
slice_bounds-solve_accepted-end-2 c =
    let T = tables_of c.args.n c.args.terms.now c.args.m c.args.propositions.now c.args.q c.args.questions.now in
    let M = memory_of c.args.representatives.now c.args.offsets.now c.args.marks.now c.args.pairs.now c.args.answers.now in
    let s = passes_test c.check_sizes.ensures c.in_ok-check_sizes.was in
    sym (length-take-le _ _ (counts T M s).propositions_long)

pub slice_bounds-solve_accepted-end-3 : goal.slice_bounds-solve_accepted-end-3
slice_bounds-solve_accepted-end-3 c =
    let T = tables_of c.args.n c.args.terms.now c.args.m c.args.propositions.now c.args.q c.args.questions.now in
    let M = memory_of c.args.representatives.now c.args.offsets.now c.args.marks.now c.args.pairs.now c.args.answers.now in
    let s = passes_test c.check_sizes.ensures c.in_ok-check_sizes.was in
    sym (length-take-le _ _ (counts T M s).questions_long)

pub slice_bounds-solve_accepted-end-4 : goal.slice_bounds-solve_accepted-end-4
slice_bounds-solve_accepted-end-4 c =
    let T = tables_of c.args.n c.args.terms.now c.args.m c.args.propositions.now c.args.q c.args.questions.now in
    let M = memory_of c.args.representatives.now c.args.offsets.now c.args.marks.now c.args.pairs.now c.args.answers.now in
    let s = passes_test c.check_sizes.ensures c.in_ok-check_sizes.was in
    let m = passes_test c.check_memory.ensures c.in_ok-check_memory.was in
    (room T M s m).representatives

pub slice_bounds-solve_accepted-end-5 : goal.slice_bounds-solve_accepted-end-5
slice_bounds-solve_accepted-end-5 c =
    let T = tables_of c.args.n c.args.terms.now c.args.m c.args.propositions.now c.args.q c.args.questions.now in
    let M = memory_of c.args.representatives.now c.args.offsets.now c.args.marks.now c.args.pairs.now c.args.answers.now in
    let s = passes_test c.check_sizes.ensures c.in_ok-check_sizes.was in
    let m = passes_test c.check_memory.ensures c.in_ok-check_memory.was in
    sym (length-take-le _ _ (room T M s m).representatives)

pub slice_bounds-solve_accepted-end-6 : goal.slice_bounds-solve_accepted-end-6
slice_bounds-solve_accepted-end-6 c =
    let T = tables_of c.args.n c.args.terms.now c.args.m c.args.propositions.now c.args.q c.args.questions.now in
    let M = memory_of c.args.representatives.now c.args.offsets.now c.args.marks.now c.args.pairs.now c.args.answers.now in
    let s = passes_test c.check_sizes.ensures c.in_ok-check_sizes.was in
    let m = passes_test c.check_memory.ensures c.in_ok-check_memory.was in
    (room T M s m).offsets

pub slice_bounds-solve_accepted-end-7 : goal.slice_bounds-solve_accepted-end-7
slice_bounds-solve_accepted-end-7 c =
    let T = tables_of c.args.n c.args.terms.now c.args.m c.args.propositions.now c.args.q c.args.questions.now in
    let M = memory_of c.args.representatives.now c.args.offsets.now c.args.marks.now c.args.pairs.now c.args.answers.now in
    let s = passes_test c.check_sizes.ensures c.in_ok-check_sizes.was in
    let m = passes_test c.check_memory.ensures c.in_ok-check_memory.was in
    sym (length-take-le _ _ (room T M s m).offsets)

pub slice_bounds-solve_accepted-end-8 : goal.slice_bounds-solve_accepted-end-8
slice_bounds-solve_accepted-end-8 c =
    let T = tables_of c.args.n c.args.terms.now c.args.m c.args.propositions.now c.args.q c.args.questions.now in
    let M = memory_of c.args.representatives.now c.args.offsets.now c.args.marks.now c.args.pairs.now c.args.answers.now in
    let s = passes_test c.check_sizes.ensures c.in_ok-check_sizes.was in
    let m = passes_test c.check_memory.ensures c.in_ok-check_memory.was in
    (room T M s m).marks

pub slice_bounds-solve_accepted-end-9 : goal.slice_bounds-solve_accepted-end-9
slice_bounds-solve_accepted-end-9 c =
    let T = tables_of c.args.n c.args.terms.now c.args.m c.args.propositions.now c.args.q c.args.questions.now in
    let M = memory_of c.args.representatives.now c.args.offsets.now c.args.marks.now c.args.pairs.now c.args.answers.now in
    let s = passes_test c.check_sizes.ensures c.in_ok-check_sizes.was in
    let m = passes_test c.check_memory.ensures c.in_ok-check_memory.was in
    sym (length-take-le _ _ (room T M s m).marks)

pub slice_bounds-solve_accepted-end-10 : goal.slice_bounds-solve_accepted-end-10
slice_bounds-solve_accepted-end-10 c =
    let T = tables_of c.args.n c.args.terms.now c.args.m c.args.propositions.now c.args.q c.args.questions.now in
    let M = memory_of c.args.representatives.now c.args.offsets.now c.args.marks.now c.args.pairs.now c.args.answers.now in
    let s = passes_test c.check_sizes.ensures c.in_ok-check_sizes.was in
    let m = passes_test c.check_memory.ensures c.in_ok-check_memory.was in
    (room T M s m).pairs

pub slice_bounds-solve_accepted-end-11 : goal.slice_bounds-solve_accepted-end-11
slice_bounds-solve_accepted-end-11 c =
    let T = tables_of c.args.n c.args.terms.now c.args.m c.args.propositions.now c.args.q c.args.questions.now in
    let M = memory_of c.args.representatives.now c.args.offsets.now c.args.marks.now c.args.pairs.now c.args.answers.now in
    let s = passes_test c.check_sizes.ensures c.in_ok-check_sizes.was in
    let m = passes_test c.check_memory.ensures c.in_ok-check_memory.was in
    sym (length-take-le _ _ (room T M s m).pairs)

pub slice_bounds-solve_accepted-end-12 : goal.slice_bounds-solve_accepted-end-12
slice_bounds-solve_accepted-end-12 c =
    let T = tables_of c.args.n c.args.terms.now c.args.m c.args.propositions.now c.args.q c.args.questions.now in
    let M = memory_of c.args.representatives.now c.args.offsets.now c.args.marks.now c.args.pairs.now c.args.answers.now in
    let s = passes_test c.check_sizes.ensures c.in_ok-check_sizes.was in
    let m = passes_test c.check_memory.ensures c.in_ok-check_memory.was in
    (room T M s m).answers

pub slice_bounds-solve_accepted-end-13 : goal.slice_bounds-solve_accepted-end-13
slice_bounds-solve_accepted-end-13 c =
    let T = tables_of c.args.n c.args.terms.now c.args.m c.args.propositions.now c.args.q c.args.questions.now in
    let M = memory_of c.args.representatives.now c.args.offsets.now c.args.marks.now c.args.pairs.now c.args.answers.now in
    let s = passes_test c.check_sizes.ensures c.in_ok-check_sizes.was in
    let m = passes_test c.check_memory.ensures c.in_ok-check_memory.was in
    sym (length-take-le _ _ (room T M s m).answers)

pub solve_accepted-requires : goal.solve_accepted-requires
solve_accepted-requires c =
    let T = tables_of c.args.n c.args.terms.now c.args.m c.args.propositions.now c.args.q c.args.questions.now in
    let M = memory_of c.args.representatives.now c.args.offsets.now c.args.marks.now c.args.pairs.now c.args.answers.now in
    let s = passes_test c.check_sizes.ensures c.in_ok-check_sizes.was in
    let m = passes_test c.check_memory.ensures c.in_ok-check_memory.was in
    let k = passes_test c.check_records.ensures c.in_ok-check_records.was in
    accepted_call T M s m k

pub returns : goal.returns
returns c =
    let T = tables_of c.args.n c.args.terms.now c.args.m c.args.propositions.now c.args.q c.args.questions.now in
    let M = memory_of c.args.representatives.now c.args.offsets.now c.args.marks.now c.args.pairs.now c.args.answers.now in
    let s = passes_test c.check_sizes.ensures c.in_ok-check_sizes.was in
    let m = passes_test c.check_memory.ensures c.in_ok-check_memory.was in
    let k = passes_test c.check_records.ensures c.in_ok-check_records.was in
    answered T M s m k _ _ c.solve_accepted.ensures
