-- What the values of the code stand for.
use Rattle.std.specs.Prelude as rust
use Rattle.std.specs.Prelude.{Some, None}
use Rattle.std.proofs.Math.Option.{Option, none, some}
use Rattle.tables.specs.QuestionTable.{asked}
use Rattle.text.specs.Frames as frames
use Rattle.lines.specs.declared.Frame.{Frame}
use Rattle.lines.specs.declared.Frame.TheVariants.{Term, Proposition, Question}

-- the frame that an answer stands for
abbrev pub meaning : rust.Option Frame → Option frames.Frame
meaning (Some (Term r)) = some (frames.term r)
meaning (Some (Proposition p)) = some (frames.proposition p)
meaning (Some (Question q)) = some (frames.question (asked q))
meaning None = none
