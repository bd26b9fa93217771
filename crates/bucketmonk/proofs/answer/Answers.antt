-- What `write_output` leaves at the start of the buffer is the output.
use Rattle.std.proofs.Common.{◌≡◌, ℕ, ◌≤◌, List, arith, length, replicate, take, ap, ◌∙◌, sym, subst}
use Rattle.std.proofs.lemmas.List.{length-replicate}
use Rattle.lists.proofs.Overwrite.{take_overwrite}
use Rattle.text.specs.Output.{output}
use Rattle.text.specs.OutputSize.{largest_output}
use Rattle.driver.specs.Within.{WritesOutput, written_all}
use Rattle.bucketmonk.specs.Calls.{PutsBytes}
use Rattle.bucketmonk.proofs.answer.Goals as goal

written : (text old : List ℕ) (n : ℕ) (new : List ℕ) → WritesOutput text old n new → largest_output ≤ length old → take n new ≡ output text
written text old n new w h =
    let all = written_all text old n new w h in
    ap (take n) all.1 ∙ take_overwrite (output text) old n (sym all.0)

pub returns : goal.returns
returns g c = subst (PutsBytes _ _ _) (written c.args.text.now (replicate 18437 0) c.write_output-n.result c.write_output-n.new.out c.write_output-n.ensures (omega (arith, length-replicate {A = ℕ} 18437 0))) c.put.ensures
