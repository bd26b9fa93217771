-- The number that the bytes passed spell, which is below 256 to the power of their count.
use Rattle.std.proofs.Common.{◌≡◌, ◌<◌, ◌^◌, take}
use Rattle.text.specs.Lines.{big}
use Rattle.hexadecimal.proofs.number.Given as goal

abbrev pub invariant-loop-b : goal.invariant-loop-b
invariant-loop-b l = (l.n ≡ big (take l.b-index l.bytes)) × (l.n < 256 ^ l.b-index)
