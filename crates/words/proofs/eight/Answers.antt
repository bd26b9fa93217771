use Rattle.std.proofs.Common.{◌≡◌, ◌+◌, ◌≤◌, ℕ, ◌∙◌, get_or, arith, get_or-take, get_or-drop}
use Rattle.words.proofs.Bytes.{spells_bytes}
use Rattle.words.proofs.eight.Goals as goal

pub returns : goal.returns
returns c =
    let bytes = c.args.bytes.now in
    let k = c.args.k in
    let part = c.copy_from_slice.new.self in
    let same : (i : ℕ) → i ≤ 7 → get_or part i 0 ≡ get_or bytes (k + i) 0 = λ i h. rw c.copy_from_slice.ensures.after (get_or-take _ _ i 0 (omega arith) ∙ get_or-drop k bytes i 0) in
    rw c.from_le_bytes.ensures (spells_bytes bytes part k 7 same (λ i h. rw (same i h) (omega (arith, c.type_inv.bytes (k + i)))))
