-- The invariant: the first k answers are written.
use Prim.Native.Nat.{◌-◌, ◌≤◌}
use mathlib.Core.Path.{◌≡◌}
use native.Mathlib.Omega.{arith}
use lib.ListN.{length}
use borrow.Author.Rules.{rules}
use Rattle.columns.specs.Views.{RowsToldBy}
use Rattle.columns.specs.Asked.{rows_none, rows_more}
use Rattle.columns.proofs.answering.answer_each.Given as goal

abbrev pub invariant-loop-k : goal.invariant-loop-k
invariant-loop-k l =
    (l.k ≤ length l.questions) × RowsToldBy l.facts l.terms l.questions l.k l.answers

abbrev pub decreases-loop-k : goal.decreases-loop-k
decreases-loop-k l = length l.questions - l.k
