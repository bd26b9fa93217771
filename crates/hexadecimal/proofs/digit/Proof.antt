-- `hexadecimal::digit` meets its contract: the tests that led to a return say whether the character is in a range.
-- Each answer may be any of the ways, since the names of the returns and their order change with the ranges that are tested.
use borrow.Author.Rules.{rules}
use Prim.Native.Nat.{ℕ, ◌+◌, ◌-◌, ◌≤◌, ◌<◌}
use mathlib.Core.Path.{◌≡◌, sym, ap}
use native.Mathlib.Omega.{arith}
use Rattle.text.specs.Lines.{digit}
use Prim.Native.Char.{code}
use Rattle.text.proofs.Digits.{decimal_value, letter_value, no_value}
use Rattle.std.specs.Prelude.{Some, None}
use Rattle.hexadecimal.specs.Spelling.{spelled}
use Rattle.hexadecimal.proofs.digit.Statement.{statement}
use Rattle.hexadecimal.proofs.digit.Tie as tie

module _ (c : ℕ) where
  decimal : code "0" ≤ c → c ≤ code "9" → Some (c - code "0") ≡ spelled (digit c)
  decimal l h = sym (ap spelled (decimal_value c l h))

  letter : code "A" ≤ c → c ≤ code "F" → Some (c - code "A" + 10) ≡ spelled (digit c)
  letter l h = sym (ap spelled (letter_value c l h))

  below : c < code "0" → None ≡ spelled (digit c)
  below h = sym (ap spelled (no_value c (λ l. omega arith) (λ l. omega arith)))

  between : code "9" < c → c < code "A" → None ≡ spelled (digit c)
  between l h = sym (ap spelled (no_value c (λ k. omega arith) (λ k. omega arith)))

  above : code "F" < c → None ≡ spelled (digit c)
  above l = sym (ap spelled (no_value c (λ k. omega arith) (λ k. omega arith)))

ruleset ways = (decimal, letter, below, between, above, rules)

pub digit_spec : {M : Type 1} → statement M
digit_spec =
    tie.close (tie.spec (λ c. search ways) (λ c. search ways) (λ c. search ways) (λ c. search ways) (λ c. search ways) (λ c. search ways))
