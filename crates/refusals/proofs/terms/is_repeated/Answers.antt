-- A test of the numbers of the records before t.
use Rattle.std.proofs.Common.{◌∙◌, arith, rules, refl, tests}
use Rattle.std.proofs.lemmas.Iterator.{YieldsList-from_range}
use Rattle.std.proofs.lemmas.Iterator.Search.{any_from_yields_List}
use Rattle.tables.specs.Records.{is_same_atom}
use Rattle.tables.specs.Rows.{term_in}
use Rattle.refusals.specs.Terms.{any_numbered}
use Rattle.refusals.proofs.terms.is_repeated.Goals as goal

pub returns : goal.returns
returns c =
    let rec = term_in c.args.terms.now in
    let t = c.args.t.0 in
    any_from_yields_List (λ j. is_same_atom (rec t) (rec j)) _ _ _ c.any.ensures.ran (YieldsList-from_range 0 t t refl (omega arith)) (λ x b q k. search (rules, tests))
    ∙ any_numbered (is_same_atom (rec t)) rec 0 t
