-- The invariant: the homes before i are in the mask and, as long as nothing is done, closed.
use Prim.Native.Nat.{◌-◌}
use Rattle.lists.specs.Booleans.{and_true}
use Rattle.marking.specs.Rows.{no_numbers, zeros_long}
use Rattle.settling.specs.Views.{setting_of}
use Rattle.settling.specs.Settle.{Rows, rows_done, rows_left, rows_more, rows_skip, rows_start, rows_upto, step_long, step_then}
use borrow.Author.Rules.{rules}
use mathlib.Core.Path.{◌∙◌, sym}
use native.Mathlib.Omega.{arith}
use Rattle.settling.proofs.sweep_rows.Given as goal

abbrev pub invariant-loop-i : goal.invariant-loop-i
invariant-loop-i l = Rows (setting_of l.setting) l.setting.lead_first.now l.hosts l.i l.changed l.initial.pairs l.pairs l.initial.seen l.seen

abbrev pub decreases-loop-i : goal.decreases-loop-i
decreases-loop-i l = l.setting.places.n - l.i
