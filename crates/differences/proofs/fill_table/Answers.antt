-- `differences::fill_table` meets its contract.
use Rattle.std.proofs.Common.{arith}
use Rattle.differences.specs.Table.{base_uniform, class_set, home_columns, room_based, table_told}
use Rattle.differences.proofs.fill_table.Goals as goal

pub settle-requires : goal.settle-requires
settle-requires c =
    let s = c.args in
    let S = s.set.now in
    let G = S.given in
    let H = c.requires.0.homes_are in
    let L = c.requires.0.leads_are in
    let sides = S.sides in (
      G.reading,
      (
        record { few = G.reading.few; homes_long = H.long; homes_below = H.below; long = L.long; below = L.below },
        (
          G.apart_room,
          (
            room_based S.n S.m s.points.now S.heights.now sides.left_classes.now sides.left_heights.now sides.right_classes.now sides.right_heights.now S.apart.now s.pairs.now c.mark_base.ensures c.requires.1,
            base_uniform S.n S.m s.points.now S.heights.now sides.left_classes.now sides.left_heights.now sides.right_classes.now sides.right_heights.now S.apart.now c.mark_base.ensures,
          ),
        ),
      ),
    )

pub expand-requires-clause-class_set : goal.expand-requires-clause-class_set
expand-requires-clause-class_set c =
    let s = c.args in
    let S = s.set.now in
    let G = S.given in
    let P = c.requires.0 in
    let sides = S.sides in (
      class_set S.n S.m S.classes.now S.heights.now s.homes.now s.points.now S.reads.now S.read_heights.now s.leads.now sides.left_classes.now sides.left_heights.now sides.right_classes.now sides.right_heights.now S.apart.now
          G.terms G.sides P.homes_are P.points_are P.leads_are c.mark_base.ensures c.settle.ensures,
      (
        home_columns S.n S.m S.classes.now S.heights.now s.homes.now s.points.now S.reads.now S.read_heights.now s.leads.now sides.left_classes.now sides.left_heights.now sides.right_classes.now sides.right_heights.now S.apart.now
            G.terms G.sides P.homes_are P.points_are P.leads_are c.mark_base.ensures c.settle.ensures,
        omega (
          arith,
          c.settle.ensures.grows.long,
          room_based S.n S.m s.points.now S.heights.now sides.left_classes.now sides.left_heights.now sides.right_classes.now sides.right_heights.now S.apart.now s.pairs.now c.mark_base.ensures c.requires.1,
        ),
      ),
    )

pub returns : goal.returns
returns c =
    let s = c.args in
    let S = s.set.now in
    let G = S.given in
    let P = c.requires.0 in
    let sides = S.sides in
    table_told S.n S.m S.classes.now S.heights.now s.homes.now s.points.now S.reads.now S.read_heights.now s.leads.now sides.left_classes.now sides.left_heights.now sides.right_classes.now sides.right_heights.now S.apart.now
    G.terms G.sides P.homes_are P.points_are P.leads_are c.mark_base.ensures c.settle.ensures c.expand.ensures
