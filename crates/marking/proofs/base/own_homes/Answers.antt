-- `marking::base::own_homes` meets its contract.
use Rattle.std.proofs.Common.{◌-◌, sym, ◌∙◌, arith}
use Rattle.marking.specs.Rows.{Gathering, gathering_start, gathering_more, gathering_done, zeros_long}
use Rattle.marking.proofs.base.own_homes.Goals as goal

pub loop-t-init : goal.loop-t-init
loop-t-init c = let s = c in rw c.linked-t.ensures (gathering_start s.requires.1.1.1 (s.requires.0.starts.from s.args.a (omega (arith, s.requires.1.0, s.requires.1.1.0))))
