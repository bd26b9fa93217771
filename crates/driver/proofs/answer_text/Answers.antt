use Rattle.std.proofs.Common.{refl, arith}
use Rattle.text.proofs.OutputSize.{refusal_size}
use Rattle.driver.specs.Answering.{refused_frames, accepted_tables, accepted_frames}
use Rattle.driver.proofs.answer_text.Goals as goal

pub put_refusal-requires : goal.put_refusal-requires
put_refusal-requires c = omega (arith, refusal_size c.in-Err.fault, c.requires)

pub answer_set-requires : goal.answer_set-requires
answer_set-requires c = record {
  questions_value = accepted_tables c.args.text.now _ c.read.result _ c.read.ensures _ c.in-Ok.is;
  largest_output_in_bounds = c.requires;
}

pub returns-in-Err : goal.returns-in-Err
returns-in-Err c = rw (refused_frames c.args.text.now _ c.read.result _ c.read.ensures refl _ c.in-Err.is) c.put_refusal.ensures

pub returns-in-Ok : goal.returns-in-Ok
returns-in-Ok c = rw (accepted_frames c.args.text.now _ c.read.result _ c.read.ensures _ c.in-Ok.is) c.answer_set.ensures
