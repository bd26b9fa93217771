-- `marking::base::mark_class` meets its contract.
use Rattle.std.proofs.Common.{refl, arith, rules}
use Rattle.marking.specs.Marks.{room_kept}
use Rattle.marking.specs.Rows.{empty_class, own_below, own_class}
use Rattle.marking.specs.Far.{class_marked, far_below}
use Rattle.marking.proofs.base.mark_class.Goals as goal

pub returns-then-none_apart : goal.returns-then-none_apart
returns-then-none_apart c = let s = c in
    let a = s.args in
    own_class a.places.now.n a.apart.now a.places.now.classes.now a.places.now.heights.now a.a _ c.own_homes.ensures s.requires.column.1.0 s.requires.column.0 (c.none_apart.ensures c.if-none_apart.true) c.mark_own.ensures

pub returns : goal.returns
returns c = let s = c in
    let a = s.args in
    class_marked a.places.now.n a.apart.now a.places.now.classes.now a.places.now.heights.now a.a _ _ s.requires.column.1.0 s.requires.column.0 c.own_homes.ensures c.far_homes.ensures c.mark_own.ensures c.mark_far.ensures
