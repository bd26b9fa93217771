use Rattle.types.specs.declared.Verdict.TheVariants.{Contradiction}
use Rattle.text.specs.Output.{verdict_frame, blame_frames, answer_frames}
use Rattle.writer.specs.Appended.{all_written}
use Rattle.writer.proofs.put_contradictory_set.Goals as goal

pub returns : goal.returns
returns c =
    all_written c.args.out.now (verdict_frame Contradiction) (blame_frames c.args.marks.now) (answer_frames c.args.answers.now) c.requires _ _ c.put_verdict-blame.ensures _ _ c.put_cells-questions.ensures _ _ c.put_cells.ensures
