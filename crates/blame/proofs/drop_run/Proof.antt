-- The run is cleared, and set again if the verdict without it is that the others are consistent.
use native.Mathlib.Omega.{arith}
use borrow.Author.Rules.{rules}
use Rattle.blame.proofs.Blaming.{run_dropped, run_kept}
use Rattle.blame.proofs.drop_run.Statement.{statement}
use Rattle.blame.proofs.drop_run.Tie as tie

is-consistent-requires : tie.Need-is_consistent-requires
is-consistent-requires c κs =
    let w = c in
    let l = w.requires.0 in
    ((l.good, omega (arith, w.write_run.auto, l.marks_count)), (l.reps_count, l.offs_count))

returns : tie.Need-returns-then-not-is_consistent
returns c =
    let d = c in
    let w = d in
    let s = w in
    run_dropped _ s.args.marks.now s.args.from s.args.to s.requires.0.good w.write_run.ensures
    (rw (c.if-not-is_consistent.true) at d.is_consistent.ensures)

returns-2 : tie.Need-returns
returns-2 c =
    let a = c in
    let d = a in
    let w = d in
    let s = w in
    run_kept _ s.args.marks.now s.args.from s.args.to s.requires.0.good w.write_run.ensures
    (rw (a.if-not-is_consistent.false) at d.is_consistent.ensures)
    s.requires.1.0
    (omega (arith, s.requires.0.marks_count, s.requires.1.1))
    s.requires.1.2
    c.write_run-2.ensures

pub drop_run_spec : {M : Type 1} → statement M
drop_run_spec =
    tie.close
    (tie.spec
    (λ c κs. search rules)
    is-consistent-requires
    (λ c. search rules)
    (λ c. search rules)
    (λ c. search rules)
    returns
    (λ c κs. search rules)
    (λ c. search rules)
    (λ c. search rules)
    (λ c. search rules)
    returns-2)
