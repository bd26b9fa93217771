use Rattle.std.proofs.Common.{◌≡◌, Bool, true, false, refl, ◌∙◌, ap, le-ltb}
use Rattle.std.proofs.Math.ListN.{get_or-eq_default}
use mir.Val.{bool_byte}
use Rattle.outcome.specs.PairBits.{bit_value}
use Rattle.pairbits.specs.Bits.{is_set_zero}
use Rattle.words.proofs.bit_at.Goals as goal
use Rattle.words.proofs.bit_at.Goals.{then-i-bytes, else-i-bytes}

value_of : (b : Bool) → bool_byte b ≡ bit_value b
value_of true = refl
value_of false = refl

pub returns : goal.returns
returns c =
    let bytes = c.args.bytes.now in
    elim c.if-i-bytes.branch [
      | then-i-bytes w ↦ c.from.ensures ∙ ap bool_byte (w.from-is ∙ w.test_bit.ensures) ∙ value_of _
      | else-i-bytes w ↦
          c.from.ensures
          ∙ ap bool_byte (w.from-is ∙ le-ltb _ _ w.if-i-bytes.false)
          ∙ rw (is_set_zero bytes c.args.i (get_or-eq_default bytes 0 w.if-i-bytes.false)) refl
    ]
