-- `columns::answering::answer_one` meets its contract.
use mathlib.Core.Path.{◌∙◌, ap}
use native.Mathlib.Omega.{arith}
use borrow.Author.Rules.{rules}
use Rattle.types.specs.declared.QuestionRecord.{QuestionRecord}
use Rattle.tables.proofs.QuestionTable.{asked_below}
use Rattle.columns.proofs.answering.answer_one.Goals as goal

pub offset_bounds-terms-left : goal.offset_bounds-terms-left
offset_bounds-terms-left c = let s = c in let l = c.index-left.ensures ∙ ap (λ (r : QuestionRecord). r.left) c.question_at-r.ensures in omega (arith, (asked_below _ _ _ s.requires.1.0 s.args.k.0 s.requires.1.1).0, s.requires.0.few)

pub bounds-terms-left : goal.bounds-terms-left
bounds-terms-left c = let s = c in let l = c.index-left.ensures ∙ ap (λ (r : QuestionRecord). r.left) c.question_at-r.ensures in omega (arith, (asked_below _ _ _ s.requires.1.0 s.args.k.0 s.requires.1.1).0, s.requires.0.reps_long)

pub offset_bounds-terms-right : goal.offset_bounds-terms-right
offset_bounds-terms-right c = let s = c in let l = c.index-right.ensures ∙ ap (λ (r : QuestionRecord). r.right) c.question_at-r.ensures in omega (arith, (asked_below _ _ _ s.requires.1.0 s.args.k.0 s.requires.1.1).1, s.requires.0.few)

pub bounds-terms-right : goal.bounds-terms-right
bounds-terms-right c = let s = c in let l = c.index-right.ensures ∙ ap (λ (r : QuestionRecord). r.right) c.question_at-r.ensures in omega (arith, (asked_below _ _ _ s.requires.1.0 s.args.k.0 s.requires.1.1).1, s.requires.0.reps_long)

pub offset_bounds-terms-left-2 : goal.offset_bounds-terms-left-2
offset_bounds-terms-left-2 c = let s = c in let l = c.index-left.ensures ∙ ap (λ (r : QuestionRecord). r.left) c.question_at-r.ensures in omega (arith, (asked_below _ _ _ s.requires.1.0 s.args.k.0 s.requires.1.1).0, s.requires.0.few)

pub bounds-terms-left-2 : goal.bounds-terms-left-2
bounds-terms-left-2 c = let s = c in let l = c.index-left.ensures ∙ ap (λ (r : QuestionRecord). r.left) c.question_at-r.ensures in omega (arith, (asked_below _ _ _ s.requires.1.0 s.args.k.0 s.requires.1.1).0, s.requires.0.heights_are.long, s.requires.0.few)

pub judge-requires : goal.judge-requires
judge-requires c = let s = c in
    let b = asked_below _ _ _ s.requires.1.0 s.args.k.0 s.requires.1.1 in
    let l = c.index-left.ensures ∙ ap (λ (r : QuestionRecord). r.left) c.question_at-r.ensures in
    let r = c.index-right.ensures ∙ ap (λ (r : QuestionRecord). r.right) c.question_at-r.ensures in
    rw (l, r) (s.requires.0.below _ b.0, (s.requires.0.below _ b.1, ((s.requires.0.heights_are.at _ b.0).low, c.right_height-q.ensures.low)))

pub returns : goal.returns
returns c = let s = c in
    let b = asked_below _ _ _ s.requires.1.0 s.args.k.0 s.requires.1.1 in
    let l = c.index-left.ensures ∙ ap (λ (r : QuestionRecord). r.left) c.question_at-r.ensures in
    let r = c.index-right.ensures ∙ ap (λ (r : QuestionRecord). r.right) c.question_at-r.ensures in
    record {
      p = _;
      q = _;
      left = s.requires.0.heights_are.at _ b.0;
      right = c.right_height-q.ensures;
      judged = rw (l, r) at c.judge.ensures;
    }
