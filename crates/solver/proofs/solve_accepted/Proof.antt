-- `solver::solve_accepted` meets its contract.
use mathlib.Core.Path.{sym, ◌∙◌}
use native.Mathlib.Omega.{arith}
use Rattle.memory.specs.Cells.{filled_as, filled_count}
use Rattle.blame.specs.Kept.{ones_kept, not_contradictory, is_contradictory_lem}
use Rattle.solver.specs.Results.{labelling, solves_satisfiable, solves_contradiction}
use borrow.Author.Rules.{rules}
use Rattle.solver.proofs.solve_accepted.Statement.{statement}
use Rattle.solver.proofs.solve_accepted.Tie as tie

is-consistent-requires : tie.Need-is_consistent-requires
is-consistent-requires c κs = let s = c.requires in ((s.accepted, omega (arith, filled_count 1 c.fill.ensures s.marks)), (s.representatives, s.offsets))

tell-differences-requires : tie.Need-tell_differences-requires
tell-differences-requires c κs = let s = c.requires in (labelling _ s.accepted s.few_propositions (ones_kept c.fill.ensures s.marks) c.is_consistent.ensures c.if-is_consistent.true, record { accepted = s.accepted_questions; few_questions = s.few_questions; pairs_count = s.pairs; answers_count = s.answers })

returns : tie.Need-returns-then-is_consistent
returns c = let s = c.requires in let a = c.args in let ones = ones_kept c.fill.ensures s.marks in let d = c.is_consistent.ensures in let yes = c.if-is_consistent.true in
    solves_satisfiable _ s.accepted _ _ (labelling _ s.accepted s.few_propositions ones d yes) (not_contradictory _ s.accepted ones d yes) a.blame a.questions.now s.accepted_questions
    (filled_as 0 c.fill-then-is_consistent.ensures (filled_count 1 c.fill.ensures s.marks))
    c.tell_differences.ensures.0
    c.tell_differences.ensures.1

write-marks-requires : tie.Need-write_marks-requires
write-marks-requires c κs = let s = c.requires in let k = c.is_consistent.auto in (record { good = s.accepted; marks_count = filled_count 1 c.fill.ensures s.marks; reps_count = k.representatives ∙ s.representatives; offs_count = k.offsets ∙ s.offsets }, ones_kept c.fill.ensures s.marks)

reset-requires : tie.Need-reset-requires
reset-requires c κs = let s = c.requires in let k = c.is_consistent.auto in let b = c.write_marks.auto in
    let r = b.representatives ∙ (k.representatives ∙ s.representatives) in
    (b.offsets ∙ (k.offsets ∙ s.offsets) ∙ sym r, rw r s.accepted.few_terms)

returns-2 : tie.Need-returns
returns-2 c = let s = c.requires in let a = c.args in let k = c.is_consistent.auto in let b = c.write_marks.auto in
    solves_contradiction _ s.accepted (is_contradictory_lem _ s.accepted (ones_kept c.fill.ensures s.marks) c.is_consistent.ensures c.if-is_consistent.false) a.blame a.questions.now
    (b.representatives ∙ (k.representatives ∙ s.representatives))
    (b.offsets ∙ (k.offsets ∙ s.offsets))
    c.reset.ensures
    c.write_marks.ensures
    (filled_as 0 c.fill-2.ensures s.pairs)
    (filled_as 3 (rw c.from.ensures at c.fill-3.ensures) s.answers)

pub solve_accepted_spec : {M : Type 1} → statement M
solve_accepted_spec =
    tie.close
    (tie.spec
    (λ c κs. search rules)
    is-consistent-requires
    (λ c κs. search rules)
    tell-differences-requires
    (λ c. search rules)
    (λ c. search rules)
    (λ c. search rules)
    (λ c. search rules)
    (λ c. search rules)
    returns
    write-marks-requires
    reset-requires
    (λ c κs. search rules)
    (λ c κs. search rules)
    (λ c κs. search rules)
    (λ c. search rules)
    (λ c. search rules)
    (λ c. search rules)
    (λ c. search rules)
    (λ c. search rules)
    returns-2)
