use Rattle.std.proofs.Common.{length-take-le}
use Rattle.frames.specs.Copying.{copied}
use Rattle.frames.proofs.copy.copy_rows.Goals as goal

pub returns : goal.returns
unfolding copied
returns c =
    let n = c.args.counts in
    let room = c.requires.room_for in
    simp (
      c.copy_from_slice.ensures.after,
      c.copy_from_slice-2.ensures.after,
      c.copy_from_slice-3.ensures.after,
      length-take-le n.terms c.args.own_terms.now room.terms,
      length-take-le n.propositions c.args.own_propositions.now room.propositions,
      length-take-le n.questions c.args.own_questions.now room.questions,
    )
