-- Each return rewrites the definition with the tests that led there.
use Rattle.std.proofs.Common.{arith, le-leb, length}
use Rattle.std.proofs.lemmas.Bool.{lt-leb}
use Rattle.tables.specs.Refusals.{question_name_fault}
use Rattle.text.specs.Reading.{frame_fault}
use Rattle.frames.proofs.take.take_question.Goals as goal

pub returns-then-counts-ge-MOST : goal.returns-then-counts-ge-MOST
unfolding frame_fault question_name_fault
returns-then-counts-ge-MOST c =
    record {
      room = tt;
      fault = λ R n.
          simp (le-leb 512 (length R.questions) (omega arith));
    }

pub returns-then-is_unlisted : goal.returns-then-is_unlisted
unfolding frame_fault question_name_fault
returns-then-is_unlisted c =
    record {
      room = tt;
      fault = λ R n.
          let u = rw (c.is_unlisted.ensures, c.is_unlisted-2.ensures, n.terms) at c.if-is_unlisted.true in
          simp (lt-leb 512 (length R.questions) (omega arith), u);
    }

pub returns : goal.returns
unfolding frame_fault question_name_fault
returns c =
    record {
      room = omega arith;
      fault = λ R n.
          let u = rw (c.is_unlisted.ensures, c.is_unlisted-2.ensures, n.terms) at c.if-is_unlisted.false in
          simp (lt-leb 512 (length R.questions) (omega arith), u);
    }
