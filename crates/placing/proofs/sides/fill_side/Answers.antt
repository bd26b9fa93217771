-- `placing::sides::fill_side` meets its contract.
use native.Mathlib.Omega.{arith}
use borrow.Author.Rules.{rules}
use Rattle.placing.specs.Placed.{left_classed, left_near, right_classed, right_near, side_near, side_place, sides_more}
use Rattle.placing.proofs.sides.fill_side.Goals as goal

pub left_class-requires : goal.left_class-requires
left_class-requires c = let p = c.requires.labelled_sides in (p.1, (p.0.classes.few, left_classed p.0 p.1))

pub left_height-requires : goal.left_height-requires
left_height-requires c = let p = c.requires.labelled_sides in (p.1, left_near p.0 p.1)

pub right_class-requires : goal.right_class-requires
right_class-requires c = let p = c.requires.labelled_sides in (p.1, right_classed p.0 p.1)

pub right_height-requires : goal.right_height-requires
right_height-requires c = let p = c.requires.labelled_sides in (p.1, (side_near p.0 p.1, right_near p.0 p.1))

pub returns : goal.returns
returns c =
    let p = c.requires.labelled_sides in
    sides_more c.requires.side_places (omega (arith, p.0.few, p.1))
    (side_place c.left_class.ensures c.left_height.ensures c.right_class.ensures c.right_height.ensures)
