-- By the kind: atoms, dereferences, others.
use Rattle.std.proofs.Common.{arith}
use Rattle.tables.specs.Records.{atom_record}
use Rattle.refusals.specs.Fields.{is_atom_lem, is_deref_lem, no_term_lem}
use Rattle.refusals.proofs.terms.is_term.Goals as goal

pub returns-in-3 : goal.returns-in-3
returns-in-3 c = let e = is_deref_lem c.args.r c.in-3.is in grind (arith, e)

pub returns-in-1 : goal.returns-in-1
unfolding atom_record
returns-in-1 c = let e = is_atom_lem c.args.r (omega arith) (omega arith) in grind (arith, e)

pub returns-in_default : goal.returns-in_default
returns-in_default c = no_term_lem c.args.r (omega arith) (omega arith) (omega arith)

pub returns-in_default-2 : goal.returns-in_default-2
returns-in_default-2 c = no_term_lem c.args.r (omega arith) (omega arith) (omega arith)
