-- Each record is judged by its fault.
use Rattle.std.proofs.Common.{rules}
use Rattle.tables.specs.Refusals.{proposition_fault}
use Rattle.tables.specs.Rows.{proposition_in}
use Rattle.tables.specs.PropositionTable.{propositions_fault}
use Rattle.refusals.specs.FirstFault.{first_of}
use Rattle.refusals.proofs.propositions.check_propositions.Goals as goal

pub returns : goal.returns
unfolding propositions_fault
returns c = first_of (λ k. proposition_fault c.args.n (proposition_in c.args.propositions.now k)) _ _ _ c.judge_each.ensures (λ i a h p. search rules)
