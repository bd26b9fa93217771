-- `points::homes::point` meets its contract.
use Rattle.std.proofs.Common.{sym, ◌∙◌, rules, eq-eqb, ne_eqb}
use Rattle.points.specs.Homes.{point_of}
use Rattle.points.proofs.homes.point.Goals as goal

pub returns-then-home-t : goal.returns-then-home-t
unfolding point_of
returns-then-home-t c = rw (eq-eqb _ _ (c.if-home-t.true))

pub returns : goal.returns
unfolding point_of
returns c = rw (ne_eqb _ _ (λ e. c.if-home-t.false e)) c.narrow.ensures
