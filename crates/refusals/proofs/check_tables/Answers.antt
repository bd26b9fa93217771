-- Where the sizes are accepted, the rows that the counts say are there.
use Rattle.std.proofs.Common.{◌≡◌, sym, ◌∙◌, rules, length-take-le}
use Rattle.tables.specs.Limits.{most}
use Rattle.tables.specs.TableFaults.{tables_of, sizes_fault, records_fault, tables_fault, Sized}
use Rattle.tables.proofs.TableFaults.{sized}
use Rattle.refusals.specs.FirstFault.{accepts, refused_first, accepted_first}
use Rattle.refusals.specs.Parts.{parts_fault}
use Rattle.refusals.proofs.check_tables.Goals as goal

sizes : (c : goal.In_ok-check_sizes) → Sized most (tables_of c.args.n c.args.terms.now c.args.m c.args.propositions.now c.args.q c.args.questions.now)
sizes c =
    let T = tables_of c.args.n c.args.terms.now c.args.m c.args.propositions.now c.args.q c.args.questions.now in
    sized most T (accepts (sizes_fault most T) c.check_sizes.ensures c.in_ok-check_sizes.was)

pub returns-in_err-check_sizes : goal.returns-in_err-check_sizes
unfolding tables_fault
returns-in_err-check_sizes c =
    let T = tables_of c.args.n c.args.terms.now c.args.m c.args.propositions.now c.args.q c.args.questions.now in
    let e : c.from_residual.result ≡ c.check_sizes.result = search rules in
    e ∙ refused_first (sizes_fault most T) (records_fault T) c.check_sizes.ensures c.in_err-check_sizes.was

pub slice_bounds-check_records-end : goal.slice_bounds-check_records-end
slice_bounds-check_records-end c = sym (length-take-le _ _ (sizes c).terms_long)

pub slice_bounds-check_records-end-2 : goal.slice_bounds-check_records-end-2
slice_bounds-check_records-end-2 c = sym (length-take-le _ _ (sizes c).propositions_long)

pub slice_bounds-check_records-end-3 : goal.slice_bounds-check_records-end-3
slice_bounds-check_records-end-3 c = sym (length-take-le _ _ (sizes c).questions_long)

pub returns : goal.returns
unfolding tables_fault
returns c =
    let T = tables_of c.args.n c.args.terms.now c.args.m c.args.propositions.now c.args.q c.args.questions.now in
    let s : Sized most T = sized most T (accepts (sizes_fault most T) c.check_sizes.ensures c.in_ok-check_sizes.was) in
    accepted_first (sizes_fault most T) (records_fault T) c.check_sizes.ensures c.in_ok-check_sizes.was (rw (parts_fault most T s) at c.check_records.ensures)
