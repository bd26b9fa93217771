-- In each arm the kind picks its layout from the list.
use Rattle.std.proofs.Common.{sym, ◌∙◌, arith}
use Rattle.text.specs.Frames.{frame_by, layouts}
use Rattle.lines.specs.Layouts.{frame_fields, unknown_kind}
use Rattle.lines.proofs.line.frame_of.Goals as goal

pub returns-in-1 : goal.returns-in-1
unfolding frame_by layouts
returns-in-1 c = c.atom_frame.ensures ∙ sym (frame_fields c.args.bytes.now 0x01 (omega arith) (sym c.from.ensures ∙ c.in-1.is))

pub returns-in-2 : goal.returns-in-2
unfolding frame_by layouts
returns-in-2 c = c.atom_frame-in-2.ensures ∙ sym (frame_fields c.args.bytes.now 0x02 (omega arith) (sym c.from.ensures ∙ c.in-2.is))

pub returns-in-3 : goal.returns-in-3
unfolding frame_by layouts
returns-in-3 c = c.dereference_frame.ensures ∙ sym (frame_fields c.args.bytes.now 0x03 (omega arith) (sym c.from.ensures ∙ c.in-3.is))

pub returns-in-17 : goal.returns-in-17
unfolding frame_by layouts
returns-in-17 c = c.relation_frame.ensures ∙ sym (frame_fields c.args.bytes.now 0x11 (omega arith) (sym c.from.ensures ∙ c.in-17.is))

pub returns-in-18 : goal.returns-in-18
unfolding frame_by layouts
returns-in-18 c = c.relation_frame-in-18.ensures ∙ sym (frame_fields c.args.bytes.now 0x12 (omega arith) (sym c.from.ensures ∙ c.in-18.is))

pub returns-in-19 : goal.returns-in-19
unfolding frame_by layouts
returns-in-19 c = c.blocks_frame.ensures ∙ sym (frame_fields c.args.bytes.now 0x13 (omega arith) (sym c.from.ensures ∙ c.in-19.is))

pub returns-in-33 : goal.returns-in-33
unfolding frame_by layouts
returns-in-33 c = c.question_frame.ensures ∙ sym (frame_fields c.args.bytes.now 0x21 (omega arith) (sym c.from.ensures ∙ c.in-33.is))

pub returns-in_default-from : goal.returns-in_default-from
returns-in_default-from c =
    let k = c.from.result in
    sym
    (frame_fields c.args.bytes.now k (omega arith) (sym c.from.ensures)
    ∙ unknown_kind k _ (λ e. omega arith) (λ e. omega arith) (λ e. omega arith) (λ e. omega arith) (λ e. omega arith) (λ e. omega arith) (λ e. omega arith))
