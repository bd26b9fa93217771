-- The first record whose atom's bit is set and that is of the atom of one before it.
use Rattle.std.proofs.Common.{◌≡◌, length, false, sym, ap, ◌∙◌, arith}
use Rattle.types.specs.declared.Refusal.TheVariants.{AtomListedTwice}
use Rattle.tables.specs.Rows.{term_in}
use Rattle.refusals.specs.FirstFault.{place_of, starts, passes, first_found, first_clear}
use Rattle.refusals.specs.Terms.{repeated, repeat_fault_at, not_repeated}
use Rattle.refusals.specs.Listed.{listed_none, listed_more, unlisted}
use Rattle.refusals.proofs.terms.first_repeat.Goals as goal
use Rattle.refusals.proofs.terms.first_repeat.Goals.{else-not-note_atom-via-then-not-note_atom+else-is_repeated, else-not-note_atom-via-else-not-note_atom}

pub loop-i-init : goal.loop-i-init
loop-i-init c = record { clear = starts _ _; noted = listed_none _ _ }

pub returns-then-is_repeated : goal.returns-then-is_repeated
returns-then-is_repeated c =
    let rec = term_in c.args.terms.now in
    let e : repeated rec c.loop-i.i ≡ _ = sym c.is_repeated.ensures ∙ c.if-is_repeated.true in
    sym (ap place_of (first_found (repeat_fault_at rec) (length c.args.terms.now) c.loop-i.i {r = AtomListedTwice} c.loop-i-test.true c.loop-i.invariant.clear (rw e)))

pub loop-i-preserved : goal.loop-i-preserved
loop-i-preserved c =
    let rec = term_in c.args.terms.now in
    let N = rw c.term_at.ensures at c.note_atom.ensures in
    let clear : repeated rec c.loop-i.i ≡ false = elim c.else-not-note_atom.branch [
      | else-not-note_atom-via-then-not-note_atom+else-is_repeated w ↦ sym w.is_repeated.ensures ∙ w.if-is_repeated.false
      | else-not-note_atom-via-else-not-note_atom w ↦ not_repeated rec c.loop-i.i (unlisted rec c.loop-i.invariant.noted N w.if-not-note_atom.false)
    ] in
    record { clear = passes (repeat_fault_at rec) c.loop-i-test.true c.loop-i.invariant.clear (rw clear); noted = listed_more rec c.loop-i.invariant.noted N }

pub returns : goal.returns
returns c =
    let rec = term_in c.args.terms.now in
    sym (ap place_of (first_clear (repeat_fault_at rec) (length c.args.terms.now) c.loop-i.i (omega arith) c.loop-i.invariant.clear))
