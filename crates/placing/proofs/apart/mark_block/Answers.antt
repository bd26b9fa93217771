-- `placing::apart::mark_block` meets its contract.
use mathlib.Core.Path.{◌≡◌, sym, ◌∙◌, ap}
use native.Mathlib.Omega.{arith}
use lib.ListN.{length}
use borrow.Author.Rules.{rules}
use Rattle.tables.specs.Records.{PropositionRecord, block_disequality_kind}
use Rattle.tables.specs.Rows.{proposition_in}
use Rattle.tables.proofs.PropositionTable.{sides_below}
use Rattle.marking.specs.Marks.{adds_none, adds_as}
use Rattle.placing.specs.Apart.{BlockPair}
use Rattle.placing.proofs.apart.mark_block.Goals as goal

pub class_of-a-requires : goal.class_of-a-requires
class_of-a-requires c =
    let s = c in
    let e = c.index.ensures ∙ ap (λ (r : PropositionRecord). r.left) c.proposition_at-r.ensures in
    omega (arith, (sides_below (length s.args.terms.now) (length s.args.propositions.now) (proposition_in s.args.propositions.now) s.requires.0.accepted s.args.k.0 s.requires.1.0).0, s.requires.0.classes.long)

pub class_of-b-requires : goal.class_of-b-requires
class_of-b-requires c =
    let s = c in
    let e = c.index-2.ensures ∙ ap (λ (r : PropositionRecord). r.right) c.proposition_at-r.ensures in
    omega (arith, (sides_below (length s.args.terms.now) (length s.args.propositions.now) (proposition_in s.args.propositions.now) s.requires.0.accepted s.args.k.0 s.requires.1.0).1, s.requires.0.classes.long)

pub set_both-requires : goal.set_both-requires
set_both-requires c =
    let s = c in
    let r = proposition_in s.args.propositions.now s.args.k.0 in
    let b = sides_below (length s.args.terms.now) (length s.args.propositions.now) (proposition_in s.args.propositions.now) s.requires.0.accepted s.args.k.0 s.requires.1.0 in
    let left = s.requires.0.classes.below r.left b.0 in
    let right = s.requires.0.classes.below r.right b.1 in (
      record {
        few = s.requires.0.classes.few;
        left = rw (c.class_of-a.ensures, c.index.ensures ∙ ap (λ (r : PropositionRecord). r.left) c.proposition_at-r.ensures) left;
        right = rw (c.class_of-b.ensures, c.index-2.ensures ∙ ap (λ (r : PropositionRecord). r.right) c.proposition_at-r.ensures) right;
      },
      s.requires.1.1,
    )
