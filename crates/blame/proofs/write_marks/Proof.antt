-- `blame::write_marks` meets its contract.
use mathlib.Core.Path.{sym, ◌∙◌}
use Rattle.tables.specs.Sets.{set_of}
use Rattle.memory.specs.Cells.{filled_as}
use Rattle.blame.proofs.Blaming.{length_blame_marks}
use borrow.Author.Rules.{rules}
use Rattle.blame.proofs.write_marks.Statement.{statement}
use Rattle.blame.proofs.write_marks.Tie as tie

returns : tie.Need-returns-in-Asked
returns c = rw c.in-Asked.is c.blame_marks.ensures

returns-2 : tie.Need-returns-in-NotAsked
returns-2 c =
    let s = c in
    let count = s.requires.0.marks_count ∙ sym (length_blame_marks (set_of s.args.terms.now s.args.propositions.now)) in
    rw c.in-NotAsked.is (filled_as 0 c.fill.ensures count)

pub write_marks_spec : {M : Type 1} → statement M
write_marks_spec =
    tie.close
    (tie.spec
    (λ c. search rules)
    (λ c κs. search rules)
    (λ c. search rules)
    (λ c κs. search rules)
    (λ c. search rules)
    (λ c. search rules)
    (λ c. search rules)
    returns
    (λ c. search rules)
    returns-2)
