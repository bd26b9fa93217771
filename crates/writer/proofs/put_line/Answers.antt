use Rattle.std.proofs.Common.{◌≡◌, suc, ◌+◌, ◌/◌, ◌%◌, ◌∷◌, [], refl, arith, drop, get_or, length-set}
use Rattle.text.specs.Lines.{lf, digit_of_value}
use Rattle.text.specs.Output.{line_of}
use Rattle.writer.specs.Appended.{remaining_start, remaining_next, remaining_end, remaining_fits}
use Rattle.writer.specs.Frames.{line_next, line_end_lem, length_line_from}
use Rattle.writer.proofs.put_line.Goals as goal

pub loop-b-init : goal.loop-b-init
loop-b-init c = remaining_start _ _ _

pub bounds-out-next-in-loop-b : goal.bounds-out-next-in-loop-b
bounds-out-next-in-loop-b c =
    simp length-set (omega (arith, remaining_fits _ _ _ _ _ _ c.requires c.loop-b.invariant, length_line_from c.args.frame.now c.loop-b.b-index))

pub loop-b-preserved : goal.loop-b-preserved
loop-b-preserved c =
    let l = c.loop-b in
    let b = get_or c.args.frame.now l.b-index 0 in
    let e : l.next + 1 ≡ suc l.next = omega arith in
    remaining_next _ _ _ (digit_of_value (b / 16) ∷ digit_of_value (b % 16) ∷ []) (line_of (drop (l.b-index + 1) c.args.frame.now)) _ _ _ _
    (rw (line_next c.args.frame.now l.b-index (omega arith)) at l.invariant)
    (record { cells = rw (c.digit_of.ensures, c.digit_of-in-loop-b.ensures, e); place = refl })

pub returns : goal.returns
returns c =
    let l = c.loop-b in
    remaining_end _ _ _ _ _ (remaining_next _ _ _ (lf ∷ []) [] _ _ _ _ (rw (line_end_lem c.args.frame.now l.b-index (omega arith)) at l.invariant) (record { cells = refl; place = refl }))
