use Rattle.std.proofs.Common.{length}
use Rattle.tables.specs.Rows.{term_in}
use Rattle.joins.specs.Meeting.{chased_start}
use Rattle.congruence.proofs.propagate.Goals as goal

pub returns-then-not-any_dereference-clause-chased : goal.returns-then-not-any_dereference-clause-chased
returns-then-not-any_dereference-clause-chased c = chased_start (length c.args.terms.now) (term_in c.args.terms.now) c.requires.labels
