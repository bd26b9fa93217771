-- Each return follows from the tests that led there.
use Rattle.std.proofs.Common.{sym, ◌∙◌, arith, le-leb, length}
use Rattle.text.specs.Reading.{frame_fault}
use Rattle.frames.specs.Taking.{empty, nonempty, inner_unlisted, inner_listed, no_inner}
use Rattle.frames.proofs.take.take_term.Goals as goal

pub returns-then-counts-gt0 : goal.returns-then-counts-gt0
unfolding frame_fault
returns-then-counts-gt0 c =
    record {
      room = tt;
      fault = λ R n L.
          simp (nonempty R.propositions (omega arith));
    }

pub returns-then-counts-gt0-2 : goal.returns-then-counts-gt0-2
unfolding frame_fault
returns-then-counts-gt0-2 c =
    record {
      room = tt;
      fault = λ R n L.
          simp (empty R.propositions (omega arith), nonempty R.questions (omega arith));
    }

pub returns-then-counts-ge-MOST : goal.returns-then-counts-ge-MOST
unfolding frame_fault
returns-then-counts-ge-MOST c =
    record {
      room = tt;
      fault = λ R n L.
          simp (empty R.propositions (omega arith), empty R.questions (omega arith), le-leb 512 (length R.terms) (omega arith));
    }

pub returns-then-is_unlisted : goal.returns-then-is_unlisted
returns-then-is_unlisted c =
    record {
      room = tt;
      fault = λ R n L.
          rw (inner_unlisted R c.args.t (omega arith) (omega arith) (omega arith) c.if-t-eq-DEREF.true (rw (← n.terms) (sym c.is_unlisted.ensures ∙ c.if-is_unlisted.true)));
    }

pub returns-then-t-eq-DEREF : goal.returns-then-t-eq-DEREF
returns-then-t-eq-DEREF c =
    record {
      room = omega arith;
      fault = λ R n L.
          rw (inner_listed R c.args.t (omega arith) (omega arith) (omega arith) c.if-t-eq-DEREF.true (rw (← n.terms) (sym c.is_unlisted.ensures ∙ c.if-is_unlisted.false)));
    }

pub returns-then-listed : goal.returns-then-listed
returns-then-listed c =
    record {
      room = tt;
      fault = λ R n L.
          rw (no_inner R c.args.t (omega arith) (omega arith) (omega arith) c.if-t-eq-DEREF.false, sym (c.listed.ensures R.terms n.terms L) ∙ c.if-listed.true);
    }

pub returns : goal.returns
returns c =
    record {
      room = omega arith;
      fault = λ R n L.
          rw (no_inner R c.args.t (omega arith) (omega arith) (omega arith) c.if-t-eq-DEREF.false, sym (c.listed.ensures R.terms n.terms L) ∙ c.if-listed.false);
    }
