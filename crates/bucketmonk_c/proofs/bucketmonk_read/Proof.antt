-- `bucketmonk_c::bucketmonk_read` meets its contract.
use borrow.Author.Rules.{rules}
use Rattle.bucketmonk_c.proofs.bucketmonk_read.Statement.{statement}
use Rattle.bucketmonk_c.proofs.bucketmonk_read.Tie as tie

returns : tie.Need-returns
returns c =
    let s = c.read-found in
    record { result = s.result; number = c.read_number.ensures; read = s.ensures }

pub bucketmonk_read_spec : {M : Type 1} → statement M
bucketmonk_read_spec =
    tie.close
    (tie.spec
    (λ c κs. search rules)
    (λ c κs. search rules)
    (λ c. search rules)
    (λ c. search rules)
    (λ c. search rules)
    returns)
