-- `settling::sweep_row` meets its contract.
use Prim.Native.Nat.{ℕ}
use Rattle.settling.specs.Settle.{fresh_rest, row_swept}
use borrow.Author.Rules.{rules}
use lib.ListN.{length-replicate}
use native.Mathlib.Omega.{arith}
use Rattle.settling.proofs.sweep_row.Goals as goal

pub sweep_words-requires-clause-i_lt_n : goal.sweep_words-requires-clause-i_lt_n
sweep_words-requires-clause-i_lt_n c = (c.requires.i_lt_n.0, fresh_rest c.args.seen.now (omega (arith, c.requires.i_lt_n.0, c.args.setting.now.ready.reading.few)) c.requires.i_lt_n.1 c.rest.ensures)

pub returns : goal.returns
returns c = row_swept c.args.seen.now (omega (arith, c.requires.i_lt_n.0, c.args.setting.now.ready.reading.few)) c.requires.i_lt_n.1 c.rest.ensures _ c.sweep_words.ensures
