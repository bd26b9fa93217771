-- `settling::look_pair` meets its contract.
use Rattle.lists.specs.Booleans.{false_true}
use Rattle.settling.specs.Settle.{pair_looked, pair_off}
use borrow.Author.Rules.{rules}
use mathlib.Core.Path.{sym, ◌∙◌}
use native.Mathlib.Omega.{arith}
use Rattle.settling.proofs.look_pair.Goals as goal

pub returns : goal.returns
returns c = pair_looked (omega (arith, c.if-setting-i.false, c.args.setting.now.ready.reading.few)) c.requires.kept (sym c.contains.ensures ∙ c.if-contains.false) c.look_homes.ensures c.put.ensures
