use Rattle.std.proofs.Common.{refl, arith, pos, length}
use Rattle.unionfind.specs.Turns.{cleared}
use Rattle.unionfind.proofs.reset.Goals as goal

pub returns : goal.returns
returns c =
    let f = c.fill.ensures in
    cleared {t = length c.args.parents.now} c.requires.0 c.requires.1 (omega arith) (record {
      within = omega arith;
      long_reps = c.loop-t.auto.parents;
      long_offs = f.len;
      fresh = record {
        block = λ k h. c.loop-t.invariant k (omega arith);
        position = λ k h. f.clones k (pos 0) (omega (arith, c.requires.0)) refl;
      };
    })
