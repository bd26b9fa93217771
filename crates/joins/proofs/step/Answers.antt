use Rattle.std.proofs.Common.{◌≡◌, refl, ◌<◌, ℕ, ℤ, pos, List, Bool, not, arith, length}
use denote.Enum.Bare.{sameb}
use Rattle.tables.specs.Records.{TermRecord}
use Rattle.unionfind.specs.declared.Joining.{Joining}
use Rattle.unionfind.specs.contracts.Joining.{the_type}
use Rattle.unionfind.specs.Forest.{Equated}
use Rattle.tables.specs.Rows.{term_in}
use Rattle.joins.specs.Labels.{Labels, unchanged_then}
use Rattle.joins.specs.Meeting.{deref_record, start, chased_start, unchanged_chased, reads_not, Tested, tested, Chased, merged_joined, merged_held, merged_clashed}
use Rattle.joins.proofs.step.Goals as goal

-- what the join of two dereferences of one address leaves, by whether it clashed
merged :
    {n : ℕ} {rec : ℕ → TermRecord} {p0 p1 p2 : List ℕ} {o0 o1 o2 : List ℤ} {x y : ℕ} →
    Labels n p0 o0 →
    x < n →
    y < n →
    Tested n rec p0 o0 p1 o1 x y →
    (r : Joining) →
    Equated p1 o1 p2 o2 x (pos 0) y r →
    {b : Bool} →
    b ≡ not (sameb the_type r Joining.Clashed) →
    Chased n rec p0 o0 p2 o2 b
merged {n} {rec} L hx hy T Joining.Joined E e = rw e (merged_joined n rec L hx hy T E)
merged {n} {rec} L hx hy T Joining.Held E e = rw e (merged_held n rec L hx hy T E)
merged {n} {rec} L hx hy T Joining.Clashed E e = rw e (merged_clashed n rec L hx hy T E)

pub returns-then-r-ne-DEREF-clause-chased : goal.returns-then-r-ne-DEREF-clause-chased
returns-then-r-ne-DEREF-clause-chased c = chased_start (length c.args.terms.now) (term_in c.args.terms.now) c.requires.labels

pub address-at-requires-clause-in_bounds : goal.address-at-requires-clause-in_bounds
address-at-requires-clause-in_bounds c =
    let r = c.requires in
    (deref_record (term_in c.args.terms.now) r.accepted r.labels r.x_in_bounds c.term_at-r.ensures c.if-r-ne-DEREF.false).1

pub returns-in_default-clause-chased : goal.returns-in_default-clause-chased
returns-in_default-clause-chased c =
    unchanged_chased (length c.args.terms.now) (term_in c.args.terms.now) c.requires.labels start refl c.address-at.ensures.addressed.unchanged

pub returns-then-terms-y-clause-chased : goal.returns-then-terms-y-clause-chased
returns-then-terms-y-clause-chased c =
    unchanged_chased (length c.args.terms.now) (term_in c.args.terms.now) c.requires.labels start refl c.address-at.ensures.addressed.unchanged

pub returns-then-not-reads-clause-chased : goal.returns-then-not-reads-clause-chased
returns-then-not-reads-clause-chased c =
    let u = unchanged_then c.address-at.ensures.addressed.unchanged (reads_not c.reads.ensures.reads) in
    unchanged_chased (length c.args.terms.now) (term_in c.args.terms.now) c.requires.labels start refl u

pub returns-clause-chased : goal.returns-clause-chased
returns-clause-chased c =
    let n = length c.args.terms.now in
    let rec = term_in c.args.terms.now in
    let r = c.requires in
    let t = tested n rec c.term_at-r.ensures c.if-r-ne-DEREF.false c.address-at.ensures.addressed (rw c.if-not-reads.false at c.reads.ensures.reads) in
    merged r.labels r.x_in_bounds (omega arith) t c.merge.result c.merge.ensures.equated c.ne.ensures
