-- `marking::far::far_homes` meets its contract.
use Rattle.std.proofs.Common.{rules}
use Rattle.marking.specs.Far.{far_all}
use Rattle.marking.proofs.far.far_homes.Goals as goal

pub returns : goal.returns
returns c = let s = c in
    let a = s.args in
    far_all a.n a.a a.apart.now a.points.now s.requires.1.0.few s.requires.0 c.far_selves.ensures c.far_others.ensures
