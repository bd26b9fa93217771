-- `settling::settle_from` meets its contract.
use Rattle.std.proofs.Common.{refl}
use Rattle.distances.specs.Distances.{indexed_none}
use Rattle.marking.specs.Marks.{zero_cells}
use Rattle.settling.specs.Settle.{settling_after}
use Rattle.settling.proofs.settle_from.Goals as goal

pub sweep-requires-clause-indexed : goal.sweep-requires-clause-indexed
sweep-requires-clause-indexed c = indexed_none _ _ _ _ _ _ _ _ _ refl refl (zero_cells 513)

pub returns-then-is_over : goal.returns-then-is_over
returns-then-is_over c = settling_after c.sweep.ensures c.settle_indexed-then-is_over.ensures

pub sweep_all-requires-clause-indexed : goal.sweep_all-requires-clause-indexed
sweep_all-requires-clause-indexed c = indexed_none _ _ _ _ _ _ _ _ _ refl refl (zero_cells 513)

pub returns : goal.returns
returns c = settling_after c.sweep.ensures c.sweep_all.ensures
