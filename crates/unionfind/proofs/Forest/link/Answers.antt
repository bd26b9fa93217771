use Rattle.std.proofs.Common.{w64}
use Rattle.std.proofs.lemmas.Int.{to_z-of_z}
use Rattle.unionfind.specs.Uniting.{linking}
use Rattle.unionfind.proofs.Forest.link.Goals as goal

pub returns-clause-linking : goal.returns-clause-linking
returns-clause-linking c =
    let r = c.requires in
    rw (to_z-of_z w64 c.args.d c.ranges.d)
    (linking c.args.from c.args.d c.args.to c.args.self.now.links r.to_lt_from.0 r.to_lt_from.1 r.roots.0 r.roots.1)
