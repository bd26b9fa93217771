-- Where the line that starts at a place of a text ends, and the lines from there on.
use Prim.Native.Nat.{ℕ, suc, ◌+◌, ◌-◌, ◌<◌, ◌≤◌}
use Rattle.std.specs.Prelude.{◌≡◌, Bool, List, [], ◌∷◌, eqb, take, get_or, ◌==◌, nat_lt, cond, Some, None}
use Rattle.std.specs.List.{position, position_or_len}
use Rattle.std.proofs.Math.Path.{refl, ap, sym}
use Rattle.std.proofs.Common.{◌∙◌, add-one, drop_of_length-le}
use Rattle.std.proofs.Math.Bool.{true, false}
use native.Mathlib.Omega.{arith}
use borrow.Author.Tests.{eq-eqb, ne_eqb, lt-ltb, le-ltb, ltb-true, ltb-false}
use Rattle.std.proofs.Math.Dec.{ltb}
use Rattle.std.proofs.Math.ListN.{length, drop, length-drop}
use Rattle.std.proofs.Math.Seq.{drop-cons, drop-drop}
use Rattle.std.proofs.lemmas.Option.{none-some}
use Rattle.lists.specs.Search.{choose}
use Rattle.text.specs.Lines.{Line, lf, before, lines_of}

-- the characters before the first LF, or all of them
unfoldable pub line_size : List ℕ → ℕ
line_size [] = 0
line_size (c ∷ text) = choose (eqb c lf) 0 (suc (line_size text))

-- the line that starts a text
abbrev first_line : List ℕ → Line
first_line text = record { characters = take (line_size text) text; ended = ltb (line_size text) (length text) }

ltb_suc : (a b : ℕ) → ltb (suc a) (suc b) ≡ ltb a b
ltb_suc a b = go (ltb a b) refl
  where
    go : (t : Bool) → ltb a b ≡ t → ltb (suc a) (suc b) ≡ t
    go true e = let h = ltb-true a b e in lt-ltb (suc a) (suc b) (omega arith)
    go false e = let h = ltb-false a b e in le-ltb (suc a) (suc b) (omega arith)

pub lines_of_nil : lines_of [] ≡ []
unfolding lines_of
lines_of_nil = refl

line_size_nil : line_size [] ≡ 0
unfolding line_size
line_size_nil = refl

module _ (c : ℕ) (text : List ℕ) where
  line_size_lf : eqb c lf ≡ true → line_size (c ∷ text) ≡ 0
  unfolding line_size
  line_size_lf e = rw e

  line_size_other : eqb c lf ≡ false → line_size (c ∷ text) ≡ suc (line_size text)
  unfolding line_size
  line_size_other e = rw e

  lines_of_lf : eqb c lf ≡ true → lines_of (c ∷ text) ≡ record { characters = []; ended = true } ∷ lines_of text
  unfolding lines_of
  lines_of_lf e = rw e

  lines_of_other : eqb c lf ≡ false → lines_of (c ∷ text) ≡ before c (lines_of text)
  unfolding lines_of
  lines_of_other e = rw e

lines_of_first : (text : List ℕ) → 0 < length text → lines_of text ≡ first_line text ∷ lines_of (drop (suc (line_size text)) text)
lines_of_first [] h = absurd (omega arith)
lines_of_first (c ∷ []) h = go (eqb c lf) refl
  where
    go : (b : Bool) → eqb c lf ≡ b → lines_of (c ∷ []) ≡ first_line (c ∷ []) ∷ lines_of (drop (suc (line_size (c ∷ []))) (c ∷ []))
    go true e = rw (lines_of_lf c [] e, line_size_lf c [] e)
    go false e = rw (lines_of_other c [] e, line_size_other c [] e, lines_of_nil, line_size_nil)
lines_of_first (c ∷ d ∷ text) h = go (eqb c lf) refl (lines_of_first (d ∷ text) (omega arith))
  where
    go : (b : Bool)
        → eqb c lf ≡ b
        → lines_of (d ∷ text) ≡ first_line (d ∷ text) ∷ lines_of (drop (suc (line_size (d ∷ text))) (d ∷ text))
        → lines_of (c ∷ d ∷ text) ≡ first_line (c ∷ d ∷ text) ∷ lines_of (drop (suc (line_size (c ∷ d ∷ text))) (c ∷ d ∷ text))
    go true e i = rw (lines_of_lf c (d ∷ text) e, line_size_lf c (d ∷ text) e, lt-ltb 0 (suc (suc (length text))) (omega arith))
    go false e i = rw (lines_of_other c (d ∷ text) e, line_size_other c (d ∷ text) e, i, ltb_suc (line_size (d ∷ text)) (suc (length text)))

line_size_within : (text : List ℕ) → line_size text ≤ length text
line_size_within [] = rw line_size_nil (omega arith)
line_size_within (c ∷ text) = go (eqb c lf) refl (line_size_within text)
  where
    go : (b : Bool) → eqb c lf ≡ b → line_size text ≤ length text → line_size (c ∷ text) ≤ suc (length text)
    go true e i = rw (line_size_lf c text e) (omega arith)
    go false e i = rw (line_size_other c text e) (omega arith)

-- where the first LF stands
line_size_first : (text : List ℕ) → line_size text ≡ position_or_len (λ c. c == lf) text
line_size_first [] = line_size_nil
line_size_first (c ∷ text) = go (eqb c lf) refl (line_size_first text)
  where
    go : (b : Bool) → eqb c lf ≡ b → line_size text ≡ position_or_len (λ c. c == lf) text → line_size (c ∷ text) ≡ position_or_len (λ c. c == lf) (c ∷ text)
    go true e i = rw (line_size_lf c text e, e)
    go false e i = rw (line_size_other c text e, e) (omega arith)

pub line_size_some : (text : List ℕ) (k : ℕ) → Some k ≡ position (λ c. c == lf) text → k ≡ line_size text
line_size_some text k = go (nat_lt (position_or_len (λ c. c == lf) text) (length text))
  where
    go : (b : Bool) → Some k ≡ cond b (Some (position_or_len (λ c. c == lf) text)) None → k ≡ line_size text
    go true e = let h : k ≡ position_or_len (λ c. c == lf) text = cc in h ∙ sym (line_size_first text)
    go false e = absurd (none-some k (sym e))

pub line_size_none : (text : List ℕ) → None ≡ position (λ c. c == lf) text → length text ≡ line_size text
line_size_none text = go (nat_lt (position_or_len (λ c. c == lf) text) (length text)) refl
  where
    go : (b : Bool) → nat_lt (position_or_len (λ c. c == lf) text) (length text) ≡ b → None ≡ cond b (Some (position_or_len (λ c. c == lf) text)) None → length text ≡ line_size text
    go true t e = absurd (none-some _ e)
    go false t e = let n = ltb-false _ _ t in omega (arith, line_size_first text, line_size_within text)

-- the line from a place on to its end, as a part of the text
abbrev pub line_of : List ℕ → ℕ → ℕ → Line
line_of text at end = record { characters = take (end - at) (drop at text); ended = ltb end (length text) }

-- where the line that starts at a place ends: at its LF, or at the text's end
unfoldable pub end_of_line : List ℕ → ℕ → ℕ
end_of_line text at = at + line_size (drop at text)

module _ (text : List ℕ) (at : ℕ) where
  pub end_after : at ≤ end_of_line text at
  unfolding end_of_line
  end_after = omega arith

  pub end_within : at ≤ length text → end_of_line text at ≤ length text
  unfolding end_of_line
  end_within h = let w = line_size_within (drop at text) in omega (arith, length-drop at text)

  -- the lines from a place on: the one that starts there, and those after its LF
  pub lines_of_at : at < length text → lines_of (drop at text) ≡ line_of text at (end_of_line text at) ∷ lines_of (drop (end_of_line text at + 1) text)
  unfolding end_of_line
  lines_of_at h =
      let n = line_size (drop at text) in
      let d : length (drop at text) ≡ length text - at = length-drop at text in
      let s : (at + n) - at ≡ n = omega arith in
      let r : drop (suc n) (drop at text) ≡ drop (at + n + 1) text =
      let p : at + suc n ≡ at + n + 1 = omega arith in
      drop-drop (suc n) at text ∙ ap (λ (k : ℕ). drop k text) p in
      let b : ltb n (length (drop at text)) ≡ ltb (at + n) (length text) = rw d (same n) in
      rw (lines_of_first (drop at text) (omega arith), s, r, b)
    where
      same : (n : ℕ) → ltb n (length text - at) ≡ ltb (at + n) (length text)
      same n = go (ltb n (length text - at)) refl
        where
          go : (t : Bool) → ltb n (length text - at) ≡ t → t ≡ ltb (at + n) (length text)
          go true e = let g = ltb-true n (length text - at) e in sym (lt-ltb (at + n) (length text) (omega arith))
          go false e = let g = ltb-false n (length text - at) e in sym (le-ltb (at + n) (length text) (omega arith))

  -- the search for a line's end
  pub end_here : at < length text → get_or text at 0 ≡ lf → end_of_line text at ≡ at
  unfolding end_of_line
  end_here h e = rw (drop-cons text at 0 h, line_size_lf (get_or text at 0) (drop (suc at) text) (eq-eqb (get_or text at 0) lf e)) (omega arith)

  pub end_later : at < length text → (get_or text at 0 ≡ lf → ⊥) → end_of_line text at ≡ end_of_line text (at + 1)
  unfolding end_of_line
  end_later h n =
      let e = line_size_other (get_or text at 0) (drop (suc at) text) (ne_eqb (get_or text at 0) lf n) in
      rw (add-one at, drop-cons text at 0 h, e) (omega arith)

  pub end_last : length text ≤ at → end_of_line text at ≡ at
  unfolding end_of_line
  end_last h = rw (drop_of_length-le text h, line_size_nil) (omega arith)

  pub end_found : (k : ℕ) → Some k ≡ position (λ c. c == lf) (drop at text) → at + k ≡ end_of_line text at
  unfolding end_of_line
  end_found k e = ap (λ n. at + n) (line_size_some (drop at text) k e)

  pub end_none : at ≤ length text → None ≡ position (λ c. c == lf) (drop at text) → length text ≡ end_of_line text at
  unfolding end_of_line
  end_none h e = omega (arith, line_size_none (drop at text) e, length-drop at text)
