-- A forest whose columns are lent: that no offset is far from its root, and that it still holds the same columns.
use Rattle.std.specs.Prelude.{◌≡◌, length}
use Rattle.unionfind.specs.declared.Forest.{Forest}
use Rattle.unionfind.specs.Forest.{Near, flat}

abbrev pub NoneFar : Forest → Type 0
NoneFar f = Near (length f.parents.now) (flat f.parents.now f.offsets.now)

abbrev pub SameColumns : Forest → Forest → Type 0
SameColumns f g = (g.parents.ghost_name ≡ f.parents.ghost_name) × (g.offsets.ghost_name ≡ f.offsets.ghost_name)
