-- Each of paper 01's sixteen digits has its value, and no other character has one; the two ranges of characters that the digits fill.
use Prim.Native.Char.{code}
use Rattle.std.specs.Prelude.{ℕ, ◌+◌, ◌-◌, ◌<◌, ◌≤◌, ◌≡◌, refl, Bool, true, false, eqb, ltb}
use Rattle.std.proofs.Common.{sym, ◌∙◌, arith, eqb-true, ltb-true, ltb-false}
use Rattle.std.proofs.Math.Option.{Option, none, some}
use Rattle.lists.specs.Items.{item_below, item_get_d}
use Rattle.lists.specs.Search.{find, find_some}
use Rattle.lists.specs.Tabulate.{tabulate, length_tabulate, from_zero, tabulate_values}
use Rattle.text.specs.Lines.{digit, digit_of_value}

pub digit_value : (v : ℕ) → v < 16 → digit (digit_of_value v) ≡ some v
unfolding digit digit_of_value find tabulate
digit_value = tabulate_values (λ v. digit (digit_of_value v)) some 16 refl

pub digit_only : (c v : ℕ) → digit c ≡ some v → (v < 16) × (c ≡ digit_of_value v)
unfolding digit
digit_only c v e =
    let r = find_some (λ v. eqb c (digit_of_value v)) (tabulate (λ v. v) 0 16) e in
    let n = length_tabulate (λ (v : ℕ). v) 0 16 in
    let b : r.0.0 < 16 = omega (arith, n, item_below (tabulate (λ v. v) 0 16) r.0.0 r.0.1) in
    let i : r.0.0 ≡ v = sym (from_zero (λ v. v) 16 r.0.0 0 b) ∙ item_get_d (tabulate (λ v. v) 0 16) r.0.0 0 r.0.1 in
    (omega arith, eqb-true c (digit_of_value v) r.1)

-- the digits of the values below 10, and of those from 10 on
pub decimal_digit : (v : ℕ) → v < 10 → digit_of_value v ≡ code "0" + v
unfolding digit_of_value tabulate
decimal_digit = tabulate_values digit_of_value (λ v. code "0" + v) 10 refl

pub letter_digit : (v : ℕ) → 10 ≤ v → v < 16 → digit_of_value v ≡ code "A" + (v - 10)
unfolding digit_of_value tabulate
letter_digit v l h =
    let e : 10 + (v - 10) ≡ v = omega arith in
    rw e at (tabulate_values (λ v. digit_of_value (10 + v)) (λ v. code "A" + v) 6 refl (v - 10) (omega arith))

-- the values of the two ranges, and none outside them
pub decimal_value : (c : ℕ) → code "0" ≤ c → c ≤ code "9" → digit c ≡ some (c - code "0")
decimal_value c l h =
    let e : digit_of_value (c - code "0") ≡ c = decimal_digit (c - code "0") (omega arith) ∙ omega arith in
    rw e at (digit_value (c - code "0") (omega arith))

pub letter_value : (c : ℕ) → code "A" ≤ c → c ≤ code "F" → digit c ≡ some (c - code "A" + 10)
letter_value c l h =
    let e : digit_of_value (c - code "A" + 10) ≡ c = letter_digit (c - code "A" + 10) (omega arith) (omega arith) ∙ omega arith in
    rw e at (digit_value (c - code "A" + 10) (omega arith))

pub no_value : (c : ℕ) → (code "0" ≤ c → code "9" < c) → (code "A" ≤ c → code "F" < c) → digit c ≡ none
no_value c d l = go (digit c) refl
  where
    outside : (v : ℕ) → v < 16 → c ≡ digit_of_value v → (b : Bool) → ltb v 10 ≡ b → ⊥
    outside v h e true t =
        let s = decimal_digit v (ltb-true v 10 t) in
        let f = d (omega arith) in
        omega (arith, ltb-true v 10 t)
    outside v h e false t =
        let s = letter_digit v (ltb-false v 10 t) h in
        let f = l (omega (arith, ltb-false v 10 t)) in
        omega (arith, ltb-false v 10 t)

    go : (o : Option ℕ) → digit c ≡ o → o ≡ none
    go none e = refl
    go (some v) e = let r = digit_only c v e in absurd (outside v r.0 r.1 (ltb v 10) refl)
