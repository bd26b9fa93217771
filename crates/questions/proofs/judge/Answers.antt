-- `questions::judge` meets its contract.
use Rattle.std.proofs.Common.{refl, sym, ◌∙◌}
use Rattle.questions.specs.Answers.{says_different}
use Rattle.questions.specs.Searches.{listed_way, two_places, values_way}
use Rattle.questions.proofs.judge.Goals as goal

pub returns-then-any_listed : goal.returns-then-any_listed
returns-then-any_listed c =
    let s = c.args in
    says_different refl (two_places s.x.class s.x.height s.y.class s.y.height (sym c.same_place.ensures ∙ c.if-same_place.false))
    (listed_way c.requires.0 c.requires.1.0 c.any_listed.ensures c.if-any_listed.true)

pub returns-then-any_values : goal.returns-then-any_values
returns-then-any_values c =
    let s = c.args in
    says_different refl (two_places s.x.class s.x.height s.y.class s.y.height (sym c.same_place.ensures ∙ c.if-same_place.false))
    (values_way c.any_values.ensures c.if-any_values.true)
