-- The test is that of the definition.
use Rattle.tables.specs.Memory.{room_fault}
use Rattle.memory.proofs.check_memory.Goals as goal

pub returns-then-representatives-n : goal.returns-then-representatives-n
unfolding room_fault
returns-then-representatives-n c = rw (c.at.ensures, c.if-representatives-n.true)

pub returns : goal.returns
unfolding room_fault
returns c = rw c.if-representatives-n.false
