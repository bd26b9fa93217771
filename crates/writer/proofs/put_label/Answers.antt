use Rattle.std.proofs.Common.{◌≡◌, ◌∙◌, ap, of_z}
use Rattle.std.specs.Int.{w64, to_be_bytes}
use Rattle.std.proofs.lemmas.Int.{to_z-of_z}
use Rattle.writer.proofs.Bytes.{two_of_eight, two_of_four, all_eight}
use Rattle.writer.proofs.put_label.Goals as goal
use Rattle.writer.proofs.put_label.Goals.{After-to_be_bytes-3}

-- an offset as it was passed
offset_bytes : (c : After-to_be_bytes-3) → c.to_be_bytes-3.result ≡ to_be_bytes w64 (of_z w64 c.args.offset)
offset_bytes c = c.to_be_bytes-3.ensures ∙ ap (λ z. to_be_bytes w64 (of_z w64 z)) (to_z-of_z w64 c.args.offset c.ranges.offset)

pub put_line-requires : goal.put_line-requires
put_line-requires c =
    let o = offset_bytes (goal.at.put_line-requires c).After-to_be_bytes-3 in
    rw (two_of_eight _ _ c.to_be_bytes.ensures, two_of_four _ _ c.to_be_bytes-2.ensures, all_eight c.args.offset _ o) at c.requires

pub returns : goal.returns
returns c =
    let o = offset_bytes (goal.at.returns c).After-to_be_bytes-3 in
    rw (two_of_eight _ _ c.to_be_bytes.ensures, two_of_four _ _ c.to_be_bytes-2.ensures, all_eight c.args.offset _ o) c.put_line.ensures
