-- `expansion::expand` meets its contract.
use Rattle.marking.specs.Marks.{room_kept}
use Rattle.expansion.specs.Expand.{expanded_both, homes_full, homes_own}
use Rattle.expansion.proofs.expand.Goals as goal

pub copy_rows-requires : goal.copy_rows-requires
copy_rows-requires c =
    let s = c.args in
    let own = homes_own c.requires.terms.1 in
    (c.requires.terms.0.column.few, (own, (homes_full s.n s.homes.now own c.requires.class_set.1.0 c.expand_homes.ensures, room_kept s.n c.expand_homes.ensures c.requires.class_set.1.1)))

pub returns : goal.returns
returns c = expanded_both c.args.n c.args.homes.now (homes_own c.requires.terms.1) c.expand_homes.ensures c.copy_rows.ensures
