use Rattle.std.proofs.Common.{◌≡◌, ◌-◌, length, take, drop, length-drop, take_all, arith}
use Rattle.lines.specs.LineEnds.{end_found, end_none}
use Rattle.lines.proofs.line.line_end.Goals as goal

pub returns-in-Some : goal.returns-in-Some
returns-in-Some c =
    let text = c.args.text.now in
    let at = c.args.at in
    let whole : take (length text - at) (drop at text) ≡ drop at text = take_all (length text - at) (drop at text) (simp length-drop (omega arith)) in
    end_found text at c.in-Some.size (rw whole at c.in-Some.ensures)

pub returns-in-None : goal.returns-in-None
returns-in-None c =
    let text = c.args.text.now in
    let at = c.args.at in
    let whole : take (length text - at) (drop at text) ≡ drop at text = take_all (length text - at) (drop at text) (simp length-drop (omega arith)) in
    end_none text at c.requires (rw whole at c.in-None.ensures)
