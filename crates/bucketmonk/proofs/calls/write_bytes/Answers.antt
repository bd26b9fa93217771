-- What a write takes of the rest comes after what is written.
use Rattle.std.proofs.Common.{◌≡◌, ℕ, ◌+◌, ◌-◌, List, ◌++◌, arith, length, take, drop, sym, ap, ◌∙◌, subst, refl, Ok}
use Rattle.std.proofs.lemmas.List.{take_rest}
use Rattle.std.proofs.KnownBytes.{Appends-trans}
use Rattle.std.specs.Io.KnownBytes.{Appends}
use lib.Seq.{take-add}
use Rattle.bucketmonk.specs.Calls.{moved_rest}
use Rattle.bucketmonk.proofs.calls.write_bytes.Goals as goal

take_of_rest : (at n : ℕ) (xs : List ℕ) → take at xs ++ take n (take (length xs - at) (drop at xs)) ≡ take (at + n) xs
take_of_rest at n xs =
    ap (λ l. take at xs ++ take n l) (take_rest xs at) ∙ sym (take-add at n xs)

pub loop-done-preserved : goal.loop-done-preserved
loop-done-preserved g c =
    let bytes = c.args.bytes.now in
    let done = c.loop-done.done in (
      omega (arith, moved_rest {E = Unit {0}} done bytes {moved = Ok c.in-Ok.sent} {n = c.in-Ok.sent} refl refl c.in-Ok.ensures.within),
      subst (Appends _ _) (take_of_rest done c.in-Ok.sent bytes) (Appends-trans _ _ _ _ _ c.loop-done.invariant.1 c.in-Ok.ensures.appended),
    )
