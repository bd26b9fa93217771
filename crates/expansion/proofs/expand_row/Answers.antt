-- `expansion::expand_row` meets its contract.
use Prim.Native.Nat.{ℕ}
use mathlib.Core.Path.{refl}
use lib.ListN.{length-replicate}
use Rattle.marking.specs.Marks.{room_kept}
use Rattle.marking.specs.Rows.{own_below}
use Rattle.expansion.specs.Expand.{class_covered, class_expanded, reach_rest, rest_below, row_expanded}
use borrow.Author.Rules.{rules}
use Rattle.expansion.proofs.expand_row.Goals as goal

pub mark_masked-requires : goal.mark_masked-requires
mark_masked-requires c = let s = c in let a = s.args in (rest_below (own_below s.requires.i_lt_n.1.1.0) c.rest.ensures, (record { few = s.args.terms.now.few; left = s.requires.i_lt_n.0; right = s.requires.i_lt_n.0 }, s.requires.i_lt_n.1.1.1))

pub expand_others-requires-clause-n_le_most : goal.expand_others-requires-clause-n_le_most
expand_others-requires-clause-n_le_most c = let s = c in let a = s.args in let m = c.mark_masked.ensures in class_covered a.terms.now.n a.terms.now.homes.now s.args.terms.now.own a.terms.now.classes.now a.i.0 s.requires.i_lt_n.0 s.requires.i_lt_n.1.0 (reach_rest a.terms.now.classes.now a.terms.now.homes.now a.i.0 s.args.terms.now.few s.requires.i_lt_n.1.1.0 c.own_homes.ensures c.rest.ensures) s.args.terms.now.few s.requires.by_index.0 s.args.terms.now.hosts_are c.rest-2.ensures m

pub returns : goal.returns
returns c = let s = c in let a = s.args in row_expanded a.terms.now.n a.terms.now.homes.now s.args.terms.now.own a.terms.now.classes.now a.i.0 s.requires.i_lt_n.0 s.requires.i_lt_n.1.0 (reach_rest a.terms.now.classes.now a.terms.now.homes.now a.i.0 s.args.terms.now.few s.requires.i_lt_n.1.1.0 c.own_homes.ensures c.rest.ensures) (class_expanded a.terms.now.n a.terms.now.homes.now s.args.terms.now.own a.terms.now.classes.now a.i.0 s.requires.i_lt_n.0 s.requires.i_lt_n.1.0 (reach_rest a.terms.now.classes.now a.terms.now.homes.now a.i.0 s.args.terms.now.few s.requires.i_lt_n.1.1.0 c.own_homes.ensures c.rest.ensures) s.requires.by_index.1 c.mark_masked.ensures) c.expand_others.ensures
