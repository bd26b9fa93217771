-- `settling::look` meets its contract.
use Rattle.settling.specs.Settle.{looked_apart, looked_class, looked_drawn, looked_repeated, looked_unread, looked_unread_right}
use borrow.Author.Rules.{rules}
use mathlib.Core.Path.{sym, ◌∙◌}
use native.Mathlib.Omega.{arith}
use Rattle.settling.proofs.look.Goals as goal

pub returns-then-was_fired : goal.returns-then-was_fired
returns-then-was_fired c = looked_repeated c.requires.kept c.args.setting.now.ready.reading.few c.if-a-b.false (sym c.test_pair.ensures ∙ c.if-test_pair.false) (c.was_fired.ensures c.if-was_fired.true)

pub returns : goal.returns
returns c = looked_drawn c.requires.kept c.requires.x_lt_n.0 c.requires.x_lt_n.1 c.requires.x_bound.0 c.requires.x_bound.1 (omega (arith, c.if-setting-a.false)) (omega (arith, c.if-setting-b.false)) c.requires.y_value c.mark_distance.ensures
