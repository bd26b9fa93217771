-- A line longer than the longest frame holds none.
use Rattle.std.proofs.Common.{sym, arith}
use Rattle.text.proofs.FrameLaws.{line_long}
use Rattle.lines.proofs.line.judge_line.Goals as goal

pub returns-then-line-gt-LONGEST : goal.returns-then-line-gt-LONGEST
returns-then-line-gt-LONGEST c = sym (line_long c.args.line.now (omega arith))
