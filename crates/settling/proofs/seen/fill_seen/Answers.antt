-- `settling::seen::fill_seen` meets its contract.
use Prim.Native.Nat.{ℕ}
use Rattle.marking.specs.Rows.{zeros_long}
use Rattle.settling.specs.Seen.{owners_chainable, same_reads, same_start}
use borrow.Author.Rules.{rules}
use lib.ListN.{length-replicate}
use mathlib.Core.Path.{sym, ◌∙◌}
use native.Mathlib.Omega.{arith}
use Rattle.settling.proofs.seen.fill_seen.Goals as goal

pub skip_classes-requires : goal.skip_classes-requires
skip_classes-requires c = (same_start c.requires.1.1, (c.requires.0.few, c.chain.ensures))
