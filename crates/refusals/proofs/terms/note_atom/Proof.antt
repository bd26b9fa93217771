-- `refusals::terms::note_atom` meets its contract.
use mathlib.Core.Path.{sym, ◌∙◌}
use native.Mathlib.Omega.{arith}
use borrow.Author.Rules.{rules}
use Rattle.refusals.specs.Listed.{bit_below, noted_other, noted_again, noted_first}
use Rattle.refusals.proofs.terms.note_atom.Statement.{statement}
use Rattle.refusals.proofs.terms.note_atom.Tie as tie

returns : tie.Need-returns-then-not-is_atom
returns c = noted_other _ _ (sym c.is_atom.ensures ∙ c.if-not-is_atom.true)

test-bit-requires : tie.Need-test_bit-requires
test-bit-requires c κs = omega (arith, c.atom_bit-bit.ensures, bit_below c.args.r)

returns-2 : tie.Need-returns-then-test_bit
returns-2 c =
    let t = c in
    noted_again _ _ (rw t.atom_bit-bit.ensures at (sym t.test_bit.ensures ∙ c.if-test_bit.true))

set-bit-requires : tie.Need-set_bit-requires
set-bit-requires c κs =
    let a = c in
    omega (arith, a.atom_bit-bit.ensures, bit_below a.args.r)

returns-3 : tie.Need-returns
returns-3 c =
    let t = c in
    let a = t in
    rw (c.set_bit.ensures, a.atom_bit-bit.ensures)
    (noted_first _ _ (omega arith) (rw a.atom_bit-bit.ensures at (sym t.test_bit.ensures ∙ c.if-test_bit.false)))

pub note_atom_spec : {M : Type 1} → statement M
note_atom_spec =
    tie.close
    (tie.spec
    (λ c κs. search rules)
    returns
    (λ c κs. search rules)
    test-bit-requires
    returns-2
    set-bit-requires
    returns-3)
