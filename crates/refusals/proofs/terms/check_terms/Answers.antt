-- The fault at the lower place; at one place the record's own comes first.
use Rattle.std.proofs.Common.{◌≡◌, ℕ, length, ap, ◌∙◌}
use Rattle.types.specs.declared.Refusal.TheVariants.{AtomListedTwice}
use Rattle.tables.specs.Records.{TermRecord}
use Rattle.tables.specs.Rows.{term_in}
use Rattle.tables.specs.Refusals.{or_else, refuse_if, first_fault}
use Rattle.tables.specs.TermTable.{terms_fault}
use Rattle.tables.specs.TableFaults.{acceptance}
use Rattle.refusals.specs.FirstFault.{no_second, keeps_first, keeps_second, later_clear, later_fault, Later}
use Rattle.refusals.specs.Terms.{own_fault_at, repeated, term_faults}
use Rattle.refusals.proofs.terms.check_terms.Goals as goal
use Rattle.refusals.proofs.terms.check_terms.Goals.{in_default-own-via-in-Err+else-fault-place, in_default-own-via-in_default-own}

-- what both searches find is what is asked
parts : (rec : ℕ → TermRecord) (n : ℕ) → acceptance (first_fault (λ k. or_else (own_fault_at rec k) (refuse_if (repeated rec k) AtomListedTwice)) 0 n) ≡ acceptance (terms_fault n rec)
parts rec n = ap acceptance (term_faults rec n)

pub returns-in_default : goal.returns-in_default
returns-in_default c =
    let rec = term_in c.args.terms.now in
    let n = length c.args.terms.now in
    no_second (own_fault_at rec) (repeated rec) AtomListedTwice n c.first_own_fault-own.ensures c.in_default.ensures ∙ parts rec n

pub returns-in-Err : goal.returns-in-Err
returns-in-Err c =
    let rec = term_in c.args.terms.now in
    let n = length c.args.terms.now in
    keeps_first (own_fault_at rec) (repeated rec) AtomListedTwice n c.first_own_fault-own.ensures c.in-Err.is c.in-Some.ensures c.if-fault-place.true ∙ parts rec n

pub returns-in_default-own : goal.returns-in_default-own
returns-in_default-own c =
    let rec = term_in c.args.terms.now in
    let n = length c.args.terms.now in
    let later : Later (own_fault_at rec) (repeated rec) AtomListedTwice n c.in-Some.place = elim c.in_default-own.branch [
      | in_default-own-via-in-Err+else-fault-place w ↦ later_fault (own_fault_at rec) (repeated rec) AtomListedTwice n c.first_own_fault-own.ensures w.in-Err.is w.if-fault-place.false
      | in_default-own-via-in_default-own w ↦ later_clear (own_fault_at rec) (repeated rec) AtomListedTwice n c.first_own_fault-own.ensures w.in_default-own.is
    ] in
    rw c.at.ensures (keeps_second (own_fault_at rec) (repeated rec) AtomListedTwice n later c.in-Some.ensures ∙ parts rec n)
