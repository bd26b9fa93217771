-- The words of the page, and where each is defined.
pub use Rattle.std.specs.Prelude.{ℕ, ◌+◌, ◌*◌, ◌-◌, ◌^◌, ◌<◌, ◌≤◌, ◌≡◌, ◌⊎◌, ◌↔◌, true, false, List, ◌++◌, ℤ, pos, neg_ℤ, ◌+ℤ◌, ◌-ℤ◌, length, get_or, set, take, drop, Result, Ok, Err}
pub use Rattle.std.proofs.Math.Option.{none, some}
pub use Rattle.integers.specs.Within.{Within}
pub use Rattle.lists.specs.Items.{Item}
pub use Rattle.lists.specs.Search.{choose}
pub use Rattle.lists.specs.Overwrite.{overwrite}
pub use Rattle.types.specs.declared.Blame.{Blame}
pub use Rattle.types.specs.declared.Fault.{Fault}
pub use Rattle.types.specs.declared.Counts.{Counts}
pub use Rattle.types.specs.declared.Verdict.{Verdict}
pub use Rattle.types.specs.declared.Answer.{Answer}
pub use Rattle.types.specs.Numbers.{number_of_answer}
pub use Rattle.numbers.specs.Numbers.{number_of_solved, Tells, TellsCounts, blame_of_number, asks_unless_zero}
pub use Rattle.rules.specs.Terms.{Term, Proposition, Comparison, Given, listed}
pub use Rattle.rules.specs.Rules.{Equal, Different, Contradiction}
pub use Rattle.rules.specs.Assignments.{Placement, Holds, Differs, Assignment}
pub use Rattle.closure.specs.Reached.{chain_terms, chain_propositions}
pub use Rattle.outcome.specs.PairBits.{bit_of, pair_bytes}
pub use Rattle.outcome.specs.Marks.{marked, tried}
pub use Rattle.tables.specs.Limits.{most, offset_limit}
pub use Rattle.tables.specs.TableFaults.{Tables, tables_fault}
pub use Rattle.tables.specs.Memory.{Memory, memory_fault, call_fault, Beyond}
pub use Rattle.text.specs.Lines.{Line, lines_of}
pub use Rattle.text.specs.Reading.{Records, accepted, refused, reading, part_of}
pub use Rattle.text.specs.Output.{judged, verdict_frame, label_frames, blame_frames, answer_frames, refusal_frame, output}
pub use Rattle.text.proofs.Laws.{part_characters}
pub use Rattle.text.proofs.Size.{judged_enough}
pub use Rattle.text.specs.OutputSize.{largest_output}
pub use Rattle.text.proofs.OutputSize.{output_size, output_some}
pub use Rattle.frames.specs.Rows.{Rows, rows_with}
pub use Rattle.reader.specs.Loading.{counts_of}
pub use Rattle.reader.specs.Answers.{short_rows, table_too_short, ReadAs, short, part_at_fault}
pub use Rattle.reader.specs.Passing.{read_tables, read_passes}
pub use Rattle.solver.specs.Call.{terms_of, propositions_of, questions_of, verdict_of, Answered}
pub use Rattle.driver.specs.Within.{WritesOutput}
pub use Rattle.results.specs.Results.{AnsweredNumber, ReadNumber}
