-- `settling::sweep_rows` meets its contract.
use Prim.Native.Nat.{◌-◌}
use Rattle.lists.specs.Booleans.{and_true}
use Rattle.marking.specs.Rows.{no_numbers, zeros_long}
use Rattle.settling.specs.Views.{setting_of}
use Rattle.settling.specs.Settle.{Rows, rows_done, rows_left, rows_more, rows_skip, rows_start, rows_upto, step_long, step_then}
use borrow.Author.Rules.{rules}
use mathlib.Core.Path.{◌∙◌, sym}
use native.Mathlib.Omega.{arith}
use Rattle.settling.proofs.sweep_rows.Goals as goal

pub loop-i-init : goal.loop-i-init
loop-i-init c = rows_start c.requires.kept (zeros_long c.requires.hosts_value) (λ h. rw c.requires.hosts_value (no_numbers 8 h))

pub loop-i-preserved-then-setting-linked : goal.loop-i-preserved-then-setting-linked
loop-i-preserved-then-setting-linked c = rows_skip c.loop-i-test.true (rw (← c.linked.ensures) c.if-setting-linked.true) c.loop-i.invariant

pub returns-then-changed-is_over : goal.returns-then-changed-is_over
returns-then-changed-is_over c = rows_left (and_true _ _ c.if-changed-is_over.true).0 c.loop-i.invariant c.sweep_row-more.ensures

pub loop-i-preserved : goal.loop-i-preserved
loop-i-preserved c = rows_more c.loop-i-test.true c.loop-i.invariant c.put.ensures c.sweep_row-more.ensures

pub returns : goal.returns
returns c = rows_done c.args.setting.now.leads (omega (arith, c.args.setting.now.ready.reading.few)) c.loop-i-test.false c.loop-i.invariant
