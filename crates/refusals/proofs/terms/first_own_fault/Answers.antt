-- Each record is judged by its own fault.
use Rattle.std.proofs.Common.{rules}
use Rattle.tables.specs.Rows.{term_in}
use Rattle.refusals.specs.FirstFault.{first_of}
use Rattle.refusals.specs.Terms.{own_fault_at}
use Rattle.refusals.proofs.terms.first_own_fault.Goals as goal

pub returns : goal.returns
returns c = first_of (own_fault_at (term_in c.args.terms.now)) _ _ _ c.judge_each.ensures (λ i a h p. search rules)
