-- Each return rewrites the definition with the tests that led there.
use Rattle.std.proofs.Common.{arith, le-leb, length}
use Rattle.std.proofs.lemmas.Bool.{lt-leb}
use Rattle.tables.specs.Refusals.{proposition_name_fault}
use Rattle.text.specs.Reading.{frame_fault}
use Rattle.frames.specs.Taking.{empty, nonempty}
use Rattle.frames.proofs.take.take_proposition.Goals as goal

pub returns-then-counts-gt0 : goal.returns-then-counts-gt0
unfolding frame_fault proposition_name_fault
returns-then-counts-gt0 c =
    record {
      room = tt;
      fault = λ R n.
          simp (nonempty R.questions (omega arith));
    }

pub returns-then-counts-ge-MOST : goal.returns-then-counts-ge-MOST
unfolding frame_fault proposition_name_fault
returns-then-counts-ge-MOST c =
    record {
      room = tt;
      fault = λ R n.
          simp (empty R.questions (omega arith), le-leb 512 (length R.propositions) (omega arith));
    }

pub returns-then-is_unlisted : goal.returns-then-is_unlisted
unfolding frame_fault proposition_name_fault
returns-then-is_unlisted c =
    record {
      room = tt;
      fault = λ R n.
          let u = rw (c.is_unlisted.ensures, c.is_unlisted-2.ensures, n.terms) at c.if-is_unlisted.true in
          simp (empty R.questions (omega arith), lt-leb 512 (length R.propositions) (omega arith), u);
    }

pub returns : goal.returns
unfolding frame_fault proposition_name_fault
returns c =
    record {
      room = omega arith;
      fault = λ R n.
          let u = rw (c.is_unlisted.ensures, c.is_unlisted-2.ensures, n.terms) at c.if-is_unlisted.false in
          simp (empty R.questions (omega arith), lt-leb 512 (length R.propositions) (omega arith), u);
    }
