-- `points::homes::fill_homes` meets its contract.
use Rattle.std.proofs.Common.{◌≡◌, ◌-◌, ◌≤◌, length, refl, arith, length-set}
use Rattle.points.specs.Homes.{Homed, homed_none, homed_more, homes_are}
use Rattle.points.proofs.homes.fill_homes.Goals as goal

pub returns : goal.returns
returns c = let i = c.loop-t.invariant in
    let e : c.loop-t.t ≡ c.args.n = omega (arith, c.loop-t-test.false) in
    homes_are (omega (arith, i.1.0, c.requires.1.1)) (rw e at i.1.1)
