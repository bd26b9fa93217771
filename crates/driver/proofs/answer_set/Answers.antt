-- The parts of the memory that are handed on hold the outcome.
use Rattle.std.proofs.Common.{◌≡◌, Ok, sym, refl, arith, length-take-le}
use Rattle.types.specs.declared.Verdict.{Verdict}
use Rattle.frames.specs.Rows.{rows}
use Rattle.reader.specs.Passing.{read_tables}
use Rattle.driver.specs.Solving.{handed_on, run_size, satisfiable_frames, contradiction_frames, never_refused}
use Rattle.driver.proofs.answer_set.Goals as goal

pub slice_bounds-representatives-end : goal.slice_bounds-representatives-end
slice_bounds-representatives-end c =
    let T = read_tables c.args.counts (rows c.args.terms.now c.args.propositions.now c.args.questions.now) in
    let h = handed_on T c.requires.questions_value _ c.solve.result c.solve.ensures in
    h.representatives

pub slice_bounds-offsets-end : goal.slice_bounds-offsets-end
slice_bounds-offsets-end c =
    let T = read_tables c.args.counts (rows c.args.terms.now c.args.propositions.now c.args.questions.now) in
    let h = handed_on T c.requires.questions_value _ c.solve.result c.solve.ensures in
    h.offsets

pub slice_bounds-answers-end : goal.slice_bounds-answers-end
slice_bounds-answers-end c =
    let T = read_tables c.args.counts (rows c.args.terms.now c.args.propositions.now c.args.questions.now) in
    let h = handed_on T c.requires.questions_value _ c.solve.result c.solve.ensures in
    h.answers

pub slice_bounds-marks-end : goal.slice_bounds-marks-end
slice_bounds-marks-end c =
    let T = read_tables c.args.counts (rows c.args.terms.now c.args.propositions.now c.args.questions.now) in
    let h = handed_on T c.requires.questions_value _ c.solve.result c.solve.ensures in
    h.marks

pub slice_bounds-answers-end-in-Contradiction : goal.slice_bounds-answers-end-in-Contradiction
slice_bounds-answers-end-in-Contradiction c =
    let T = read_tables c.args.counts (rows c.args.terms.now c.args.propositions.now c.args.questions.now) in
    let h = handed_on T c.requires.questions_value _ c.solve.result c.solve.ensures in
    h.answers

pub slice_bounds-put_satisfiable_set-end : goal.slice_bounds-put_satisfiable_set-end
slice_bounds-put_satisfiable_set-end c =
    let T = read_tables c.args.counts (rows c.args.terms.now c.args.propositions.now c.args.questions.now) in
    let h = handed_on T c.requires.questions_value _ c.solve.result c.solve.ensures in
    sym (length-take-le _ _ h.representatives)

pub slice_bounds-put_satisfiable_set-end-in-Satisfiable : goal.slice_bounds-put_satisfiable_set-end-in-Satisfiable
slice_bounds-put_satisfiable_set-end-in-Satisfiable c =
    let T = read_tables c.args.counts (rows c.args.terms.now c.args.propositions.now c.args.questions.now) in
    let h = handed_on T c.requires.questions_value _ c.solve.result c.solve.ensures in
    sym (length-take-le _ _ h.offsets)

pub slice_bounds-put_satisfiable_set-end-in-Satisfiable-2 : goal.slice_bounds-put_satisfiable_set-end-in-Satisfiable-2
slice_bounds-put_satisfiable_set-end-in-Satisfiable-2 c =
    let T = read_tables c.args.counts (rows c.args.terms.now c.args.propositions.now c.args.questions.now) in
    let h = handed_on T c.requires.questions_value _ c.solve.result c.solve.ensures in
    sym (length-take-le _ _ h.answers)

pub slice_bounds-put_contradictory_set-end : goal.slice_bounds-put_contradictory_set-end
slice_bounds-put_contradictory_set-end c =
    let T = read_tables c.args.counts (rows c.args.terms.now c.args.propositions.now c.args.questions.now) in
    let h = handed_on T c.requires.questions_value _ c.solve.result c.solve.ensures in
    sym (length-take-le _ _ h.marks)

pub slice_bounds-put_contradictory_set-end-in-Contradiction : goal.slice_bounds-put_contradictory_set-end-in-Contradiction
slice_bounds-put_contradictory_set-end-in-Contradiction c =
    let T = read_tables c.args.counts (rows c.args.terms.now c.args.propositions.now c.args.questions.now) in
    let h = handed_on T c.requires.questions_value _ c.solve.result c.solve.ensures in
    sym (length-take-le _ _ h.answers)

pub put_satisfiable_set-requires-clause-answers_in_bounds : goal.put_satisfiable_set-requires-clause-answers_in_bounds
put_satisfiable_set-requires-clause-answers_in_bounds c =
    let T = read_tables c.args.counts (rows c.args.terms.now c.args.propositions.now c.args.questions.now) in
    let e : c.solve.result ≡ Ok Verdict.Satisfiable = cc in
    let f = satisfiable_frames T c.requires.questions_value _ c.solve.result c.solve.ensures e in
    omega (arith, rw f at (run_size T c.requires.questions_value), c.requires.largest_output_in_bounds)

pub put_contradictory_set-requires : goal.put_contradictory_set-requires
put_contradictory_set-requires c =
    let T = read_tables c.args.counts (rows c.args.terms.now c.args.propositions.now c.args.questions.now) in
    let e : c.solve.result ≡ Ok Verdict.Contradiction = cc in
    let f = contradiction_frames T c.requires.questions_value _ c.solve.result c.solve.ensures refl e in
    omega (arith, rw f at (run_size T c.requires.questions_value), c.requires.largest_output_in_bounds)

pub unreachable-requires : goal.unreachable-requires
unreachable-requires c =
    let T = read_tables c.args.counts (rows c.args.terms.now c.args.propositions.now c.args.questions.now) in
    never_refused T c.requires.questions_value _ c.solve.result c.solve.ensures _ c.in_default.is

pub returns-in-Satisfiable : goal.returns-in-Satisfiable
returns-in-Satisfiable c =
    let T = read_tables c.args.counts (rows c.args.terms.now c.args.propositions.now c.args.questions.now) in
    let e : c.solve.result ≡ Ok Verdict.Satisfiable = cc in
    let f = satisfiable_frames T c.requires.questions_value _ c.solve.result c.solve.ensures e in
    rw f c.put_satisfiable_set.ensures

pub returns-in-Contradiction : goal.returns-in-Contradiction
returns-in-Contradiction c =
    let T = read_tables c.args.counts (rows c.args.terms.now c.args.propositions.now c.args.questions.now) in
    let e : c.solve.result ≡ Ok Verdict.Contradiction = cc in
    let f = contradiction_frames T c.requires.questions_value _ c.solve.result c.solve.ensures refl e in
    rw f c.put_contradictory_set.ensures
