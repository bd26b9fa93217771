-- The line's bytes are those written so far, before those that the rest of the line spells.
use Rattle.std.proofs.Common.{◌≡◌, take, drop, length, ◌≤◌, ◌*◌}
use Rattle.text.specs.Lines.{bytes_of}
use Rattle.hexadecimal.specs.Hex.{prefixed}
use Rattle.hexadecimal.proofs.decode.Given as goal

abbrev pub invariant-loop-k : goal.invariant-loop-k
invariant-loop-k l = record {
  pairs : l.k-iterator.iter.size ≡ 2;
  within : 2 * l.k-iterator.count ≤ length l.line;
  rest : l.k-iterator.iter.rest.now ≡ drop (2 * l.k-iterator.count) l.line;
  so_far : bytes_of l.line ≡ prefixed (take l.k-iterator.count l.bytes) (bytes_of (drop (2 * l.k-iterator.count) l.line));
}
