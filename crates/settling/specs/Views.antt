-- What settling reads, as definitions take it.
use Rattle.distances.specs.declared.index.DistanceIndex.{DistanceIndex}
use Rattle.distances.specs.Views.{IndexedBy}
use Rattle.settling.specs.declared.setting.Setting.{Setting}
use Rattle.settling.specs.Settle.{setting}
use Rattle.settling.specs.Settle as settle

abbrev pub setting_of : Setting → settle.Setting
setting_of T = setting T.places.n T.places.classes.now T.places.heights.now T.keys.now T.reads.now T.read_heights.now T.apart.now

abbrev pub IsIndexed : Setting → DistanceIndex → Type 0
IsIndexed T = IndexedBy T.places T.apart.now
