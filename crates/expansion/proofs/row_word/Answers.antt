-- `expansion::row_word` meets its contract.
use Prim.Native.Nat.{◌*◌, ◌%◌, ◌^◌, ◌-◌}
use mathlib.Core.Path.{◌≡◌, ◌∙◌}
use native.Mathlib.Nat.{one-mul}
use lib.Pow.{shl_exact, pow_pos}
use native.Mathlib.Omega.{arith}
use Rattle.marking.specs.Marks.{product_small}
use Rattle.expansion.specs.Rows.{whole_word, last_word}
use borrow.Author.Rules.{rules}
use Rattle.expansion.proofs.row_word.Goals as goal

pub returns : goal.returns
returns c = let a = c.args in
    let k = a.n - 64 * a.w in
    let s : 1 * 2 ^ k % 2 ^ 64 ≡ 2 ^ k = shl_exact {a = 1} 1 k 64 (omega arith) (omega arith) ∙ one-mul (2 ^ k) in
    rw s (last_word a.n a.h.0 a.w c.word_at-word.ensures (omega arith))
