-- `placing::reads::fill_read` meets its contract.
use native.Mathlib.Omega.{arith}
use borrow.Author.Rules.{rules}
use Rattle.placing.specs.Placed.{inner_classed, inner_near, read_place, reads_more}
use Rattle.placing.proofs.reads.fill_read.Goals as goal

pub read_class-requires-clause-t_in_bounds_2 : goal.read_class-requires-clause-t_in_bounds_2
read_class-requires-clause-t_in_bounds_2 c = let p = c.requires.labelled_terms in inner_classed p.0 p.1

pub read_height-requires-clause-within : goal.read_height-requires-clause-within
read_height-requires-clause-within c = let p = c.requires.labelled_terms in inner_near p.0 p.1

pub returns : goal.returns
returns c = let p = c.requires.labelled_terms in reads_more c.requires.read_places (omega (arith, p.0.classes.few, p.1)) (read_place c.read_class.ensures c.read_height.ensures)
