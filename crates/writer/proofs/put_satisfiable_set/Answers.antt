use Rattle.types.specs.declared.Verdict.TheVariants.{Satisfiable}
use Rattle.text.specs.Output.{verdict_frame, label_frames, answer_frames}
use Rattle.writer.specs.Appended.{all_written}
use Rattle.writer.proofs.put_satisfiable_set.Goals as goal

pub returns : goal.returns
returns c =
    all_written c.args.out.now (verdict_frame Satisfiable) (label_frames 0 c.args.representatives.now c.args.offsets.now) (answer_frames c.args.answers.now) c.requires.answers_in_bounds _ _ c.put_verdict-labels.ensures _ _ c.put_labels-questions.ensures _ _ c.put_cells.ensures
