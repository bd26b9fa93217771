use Rattle.std.proofs.Common.{◌≡◌, ◌+◌, ◌-◌, refl, arith}
use Rattle.reader.specs.Answers.{handed_back}
use Rattle.reader.proofs.faulty_line.Goals as goal

pub returns : goal.returns
returns c =
    let p = c.faulty_part-part in
    let size : p.result.start + p.result.size - p.result.start ≡ p.result.size = omega arith in
    handed_back _ _ _ p.result p.ensures refl (rw size)
