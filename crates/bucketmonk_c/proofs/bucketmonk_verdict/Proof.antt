-- `bucketmonk_c::bucketmonk_verdict` meets its contract.
use mathlib.Core.Path.{◌∙◌, ap}
use Rattle.numbers.specs.Numbers.{number_of_solved}
use borrow.Author.Rules.{rules}
use Rattle.bucketmonk_c.proofs.bucketmonk_verdict.Statement.{statement}
use Rattle.bucketmonk_c.proofs.bucketmonk_verdict.Tie as tie

returns : tie.Need-returns
returns c = c.solved_number.ensures ∙ ap number_of_solved c.verdict-found.ensures

pub bucketmonk_verdict_spec : {M : Type 1} → statement M
bucketmonk_verdict_spec = tie.close (tie.spec (λ c κs. search rules) (λ c κs. search rules) returns)
