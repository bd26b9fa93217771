-- No record before i lists an atom again, and the atoms of these have their bits set.
use Rattle.std.proofs.Common.{length}
use Rattle.tables.specs.Rows.{term_in}
use Rattle.refusals.specs.FirstFault.{Clear}
use Rattle.refusals.specs.Terms.{repeat_fault_at}
use Rattle.refusals.specs.Listed.{Listed}
use Rattle.refusals.proofs.terms.first_repeat.Given as goal

abbrev pub invariant-loop-i : goal.invariant-loop-i
invariant-loop-i l = record {
  clear : Clear (repeat_fault_at (term_in l.terms)) (length l.terms) l.i;
  noted : Listed (term_in l.terms) l.i l.listed;
}
