-- `signed 32` is what std's casts to a signed type answer.
use Rattle.std.proofs.Common.{ℕ, ◌^◌, ◌-◌, suc, pos, negsuc, ltb, true, false, ◌≡◌, ◌∙◌, refl, to_z, w32, w64, arith}
use Rattle.std.proofs.lemmas.Int.{to_z-of_z}
use mir.Val.{sel}
use Rattle.lists.specs.Search.{choose}
use Rattle.text.specs.Lines.{signed}
use Rattle.hexadecimal.proofs.offset.Goals as goal

signed_is : (n : ℕ) → to_z w32 n ≡ signed 32 n
unfolding signed
signed_is n =
    elim (ltb n (2 ^ 31)) as (λ b. sel b (pos n) (negsuc (2 ^ 32 - suc n)) ≡ choose b (pos n) (negsuc (2 ^ 32 - suc n))) [ true ↦ refl | false ↦ refl ]

pub returns : goal.returns
returns c =
    let s = c.cast_signed.result in
    to_z-of_z w64 c.from.result (record { sfits = omega arith })
    ∙ c.from.ensures
    ∙ to_z-of_z w32 s (record { sfits = omega arith })
    ∙ c.cast_signed.ensures
    ∙ signed_is c.args.bits
