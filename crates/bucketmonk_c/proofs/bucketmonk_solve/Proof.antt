-- `bucketmonk_c::bucketmonk_solve` meets its contract.
use borrow.Author.Rules.{rules}
use Rattle.bucketmonk_c.proofs.bucketmonk_solve.Statement.{statement}
use Rattle.bucketmonk_c.proofs.bucketmonk_solve.Tie as tie

returns : tie.Need-returns
returns c =
    let s = c.solve in
    let b = c.blame_of.ensures in
    record { solved = s.result; number = c.solved_number.ensures; answered = rw b at s.ensures }

pub bucketmonk_solve_spec : {M : Type 1} → statement M
bucketmonk_solve_spec =
    tie.close
    (tie.spec
    (λ c κs. search rules)
    (λ c κs. search rules)
    (λ c κs. search rules)
    (λ c. search rules)
    (λ c. search rules)
    (λ c. search rules)
    (λ c. search rules)
    (λ c. search rules)
    returns)
