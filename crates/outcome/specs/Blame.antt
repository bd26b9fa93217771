-- Blame: from the highest number down to 0, a proposition is dropped if those still kept, without it, are contradictory.
use Rattle.std.specs.Prelude.{ℕ, zero, suc, Bool, true, false, List, length, set, replicate}
use Rattle.lists.specs.Search.{choose}
use Rattle.lists.specs.Tabulate.{select}
use Rattle.rules.specs.Terms.{Term, Proposition}
use Rattle.closure.specs.Facts.{facts}
use Rattle.closure.specs.Verdict.{contradictory}

-- the kept propositions are contradictory
unfoldable pub kept_contradictory : List Term → List Proposition → List Bool → Bool
kept_contradictory ts ps kept = contradictory ts (facts ts (select kept ps))

-- the propositions below k are still to be tried
unfoldable pub drop_below : List Term → List Proposition → ℕ → List Bool → List Bool
drop_below ts ps zero kept = kept
drop_below ts ps (suc k) kept =
    drop_below ts ps k (choose (kept_contradictory ts ps (set kept k false)) (set kept k false) kept)

unfoldable pub blame : List Term → List Proposition → List Bool
blame ts ps = drop_below ts ps (length ps) (replicate (length ps) true)
