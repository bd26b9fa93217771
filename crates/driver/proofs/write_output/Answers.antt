-- The bytes that are judged are the first 32,768, or all that there are.
use Rattle.std.proofs.Common.{◌≡◌, ℕ, List, length, take, min, ◌∙◌, ap, arith}
use Rattle.std.proofs.lemmas.List.{take_min}
use Rattle.driver.specs.Within.{writes_nothing, writes_all}
use Rattle.driver.proofs.write_output.Goals as goal

pub returns-then-out-lt-LARGEST : goal.returns-then-out-lt-LARGEST
returns-then-out-lt-LARGEST c = writes_nothing _ _ c.if-out-lt-LARGEST.true

pub returns : goal.returns
returns c =
    let text : List ℕ = c.args.text.now in
    let e : c.min-judged.result ≡ min 32768 (length text) = omega arith in
    writes_all text c.args.out.now c.if-out-lt-LARGEST.false (take c.min-judged.result text) (ap (λ (k : ℕ). take k text) e ∙ take_min 32768 text) _ _ c.answer_text.ensures
