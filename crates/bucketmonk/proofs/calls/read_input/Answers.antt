-- What a read puts into the rest of the buffer comes after what is read.
use Rattle.std.proofs.Common.{◌≡◌, OnErr, Result, Ok, Err, ℕ, ◌+◌, ◌-◌, ◌≤◌, List, ◌++◌, rules, arith, length, take, sym, ap, ◌∙◌, subst, le_refl, drop_at, length-take-le, drop}
use Rattle.std.proofs.lemmas.Slice.{take-put_mid_below}
use Rattle.std.proofs.KnownBytes.{Consumes-trans, Consumes-kept}
use Rattle.std.specs.Io.KnownBytes.{Consumes}
use borrow.Rule.Slice.PartMut.{put_mid, post_of}
use lib.Seq.{take-add, take-append-le}
use Rattle.bucketmonk.proofs.calls.read_input.Goals as goal

-- the first bytes of a buffer whose rest has become `part`
take_part : (at room n : ℕ) (buffer part : List ℕ) → at ≤ length buffer → n ≤ length part → take at buffer ++ take n part ≡ take (at + n) (put_mid at room buffer part)
take_part at room n buffer part within fits =
    let new = put_mid at room buffer part in
    let front : take at new ≡ take at buffer = take-put_mid_below _ _ _ _ _ (le_refl _) within in
    let back : drop at new ≡ part ++ post_of at room buffer = drop_at (take at buffer) (part ++ post_of at room buffer) at (length-take-le at buffer within) in
    sym (take-add at n new ∙ ap (λ l. l ++ take n (drop at new)) front ∙ ap (λ l. take at buffer ++ take n l) back ∙ ap (λ l. take at buffer ++ l) (take-append-le n part (post_of at room buffer) fits))

pub loop-done-preserved : goal.loop-done-preserved
loop-done-preserved g c =
    let buffer = c.loop-done.buffer in
    let done = c.loop-done.done in
    let joined = take_part done (length buffer - done) c.in_ok-got.got buffer c.read_some.new.buffer c.loop-done.invariant.1 c.in_ok-got.ensures.within in
    (search rules, search rules, subst (Consumes _ _) joined (Consumes-trans _ _ _ _ _ c.loop-done.invariant.2 c.in_ok-got.ensures.bytes))

on_err : {A E : Type 0} {P : Type 0} (r : Result A E) → P → OnErr r P
on_err (Ok _) p = tt
on_err (Err _) p = p

pub returns-in_err-got-clause-lost : goal.returns-in_err-got-clause-lost
returns-in_err-got-clause-lost g c =
    let buffer = c.loop-done.buffer in
    let done = c.loop-done.done in
    let kept : length (put_mid done (length buffer - done) buffer c.read_some.new.buffer) ≡ length buffer = search rules in
    on_err {P = (bs : List ℕ) × (length bs ≤ length (put_mid done (length buffer - done) buffer c.read_some.new.buffer)) × Consumes (g.R.Read.remaining c.args.reader.now) (g.R.Read.remaining c.read_some.new.reader) bs} _ (take done buffer, omega (arith, kept, length-take-le done buffer c.loop-done.invariant.1, c.loop-done.invariant.1), Consumes-kept _ _ _ _ c.loop-done.invariant.2 c.in_err-got.ensures.unread)
