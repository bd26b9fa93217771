-- The run is lent as a part, and all of it is written.
use borrow.Author.Rules.{rules}
use Rattle.blame.specs.Runs.{run_lent}
use Rattle.blame.proofs.write_run.Statement.{statement}
use Rattle.blame.proofs.write_run.Tie as tie

returns : tie.Need-returns
returns c =
    let s = c in
    run_lent s.args.marks.now s.args.from s.args.to s.args.value s.requires.0 s.requires.1 c.fill.ensures

pub write_run_spec : {M : Type 1} → statement M
write_run_spec =
    tie.close
    (tie.spec
    (λ c. search rules)
    (λ c. search rules)
    (λ c. search rules)
    (λ c κs. search rules)
    (λ c. search rules)
    returns)
