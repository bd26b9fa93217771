-- `marking::far::other_key` meets its contract.
use Rattle.std.proofs.Common.{refl}
use Rattle.marking.specs.Far.{key_told}
use Rattle.marking.proofs.far.other_key.Goals as goal

pub returns-then-class-n : goal.returns-then-class-n
returns-then-class-n c = let a = c.args in key_told a.n a.class a.t refl refl c.if-class-n.true

pub returns-else-class-n : goal.returns-else-class-n
returns-else-class-n c = let a = c.args in key_told a.n a.class a.t refl refl c.if-class-n.false
