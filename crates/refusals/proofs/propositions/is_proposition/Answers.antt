-- By the kind: equalities and disequalities, block disequalities, others.
use Rattle.std.proofs.Common.{arith}
use Rattle.refusals.specs.Fields.{is_comparison_lem, is_block_lem, no_proposition_lem}
use Rattle.refusals.proofs.propositions.is_proposition.Goals as goal

pub returns-in-19 : goal.returns-in-19
returns-in-19 c = let e = is_block_lem c.args.r c.in-19.is in grind (arith, e)

pub returns-in-17 : goal.returns-in-17
returns-in-17 c = let e = is_comparison_lem c.args.r (omega arith) (omega arith) in grind (arith, e)

pub returns-in_default : goal.returns-in_default
returns-in_default c = no_proposition_lem c.args.r (omega arith) (omega arith) (omega arith)

pub returns-in_default-2 : goal.returns-in_default-2
returns-in_default-2 c = no_proposition_lem c.args.r (omega arith) (omega arith) (omega arith)
