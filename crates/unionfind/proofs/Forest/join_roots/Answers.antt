use Rattle.std.proofs.Common.{sym, ◌∙◌, arith, w64}
use Rattle.std.proofs.lemmas.Int.{to_z-of_z}
use borrow.Author.Rules.{sfits_of}
use Rattle.integers.specs.Compare.{eq_ℤ_true, eq_ℤ_false}
use Rattle.integers.specs.Within.{within_negation}
use Rattle.offsets.specs.Fits.{within_fits}
use Rattle.unionfind.specs.Uniting.{roots_held, roots_clashed, roots_down, roots_rise}
use Rattle.unionfind.proofs.Forest.join_roots.Goals as goal

pub returns-then-is_same-clause-equated : goal.returns-then-is_same-clause-equated
returns-then-is_same-clause-equated c =
    let r = c.requires in
    let e = rw (to_z-of_z w64 c.args.d c.ranges.d) at c.is_same.ensures in
    roots_held c.args.self.now.links c.args.d r.roots.0 r.roots.1 c.if-i-j.true (eq_ℤ_true _ _ (sym e ∙ c.if-is_same.true))

pub returns-else-is_same-clause-equated : goal.returns-else-is_same-clause-equated
returns-else-is_same-clause-equated c =
    let r = c.requires in
    let e = rw (to_z-of_z w64 c.args.d c.ranges.d) at c.is_same.ensures in
    roots_clashed c.args.self.now.links c.args.d r.roots.0 r.roots.1 c.if-i-j.true (eq_ℤ_false _ _ (sym e ∙ c.if-is_same.false))

pub opposite-requires : goal.opposite-requires
opposite-requires c =
    rw (to_z-of_z w64 c.args.d c.ranges.d) (within_fits (omega arith) (within_negation c.requires.d_within))

pub returns-then-j-i-clause-equated : goal.returns-then-j-i-clause-equated
returns-then-j-i-clause-equated c =
    let r = c.requires in
    let k = rw (to_z-of_z w64 c.args.d c.ranges.d) at c.link.ensures.linking in
    roots_down c.args.self.now.links c.args.d r.roots.0 r.roots.1 c.if-j-i.true k

pub returns-else-j-i-clause-equated : goal.returns-else-j-i-clause-equated
returns-else-j-i-clause-equated c =
    let r = c.requires in
    let n = c.opposite in
    let e = rw (to_z-of_z w64 c.args.d c.ranges.d) at n.ensures in
    let k = rw (to_z-of_z w64 n.result (sfits_of n.type_inv), e) at c.link-else-j-i.ensures.linking in
    roots_rise c.args.self.now.links c.args.d r.roots.0 r.roots.1 (omega arith) k
