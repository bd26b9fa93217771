use Rattle.std.proofs.Common.{arith, w64}
use Rattle.std.proofs.lemmas.Int.{to_z-of_z}
use borrow.Author.Rules.{sfits_of}
use borrow.Author.Tests.{eq-eqb, ne_eqb}
use Rattle.integers.specs.Within.{within_sum}
use Rattle.offsets.specs.Fits.{within_fits}
use Rattle.closure.specs.Verdict.{holds}
use Rattle.consistency.proofs.facts.Labelling.holds.Goals as goal

pub returns-then-self-a : goal.returns-then-self-a
unfolding holds
returns-then-self-a c = rw (ne_eqb _ _ c.if-self-a.true)

pub sum-requires : goal.sum-requires
sum-requires c =
    let L = c.args.self.now.columns in
    let n = L.near c.args.b.0 c.requires.in_bounds.1 in
    rw (to_z-of_z w64 c.args.z c.ranges.z, to_z-of_z w64 _ (within_fits (omega arith) n)) (within_fits (omega arith) (within_sum c.requires.z_within n))

pub returns : goal.returns
unfolding holds
returns c =
    let L = c.args.self.now.columns in
    let m = L.near c.args.a.0 c.requires.in_bounds.0 in
    let n = L.near c.args.b.0 c.requires.in_bounds.1 in
    let e = rw (to_z-of_z w64 c.args.z c.ranges.z, to_z-of_z w64 _ (within_fits (omega arith) n)) at c.sum.ensures in
    let f = rw (to_z-of_z w64 c.sum.result (sfits_of c.sum.type_inv), to_z-of_z w64 _ (within_fits (omega arith) m), e) at c.is_same.ensures in
    rw (eq-eqb _ _ c.if-self-a.false) f
