use borrow.Author.Tests.{ne_eqb}
use Rattle.tables.specs.Rows.{term_in}
use Rattle.joins.specs.Labels.{unchanged_self}
use Rattle.joins.specs.Meeting.{does_not, reads_by, deref_record}
use Rattle.joins.proofs.reads.Goals as goal

pub address-requires-clause-in_bounds : goal.address-requires-clause-in_bounds
address-requires-clause-in_bounds c =
    let r = c.requires in
    (deref_record (term_in c.args.terms.now) r.accepted r.labels r.y_in_bounds c.term_at-r.ensures c.if-r-eq-DEREF.true).1

pub returns-then-r-eq-DEREF-clause-reads : goal.returns-then-r-eq-DEREF-clause-reads
returns-then-r-eq-DEREF-clause-reads c = reads_by c.term_at-r.ensures c.if-r-eq-DEREF.true c.address.ensures.addressed c.eq.result c.eq.ensures

pub returns-else-r-eq-DEREF-clause-reads : goal.returns-else-r-eq-DEREF-clause-reads
returns-else-r-eq-DEREF-clause-reads c = rw (ne_eqb _ _ c.if-r-eq-DEREF.false) (does_not (unchanged_self c.requires.labels))
