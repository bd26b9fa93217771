-- Rows of a pair table by words.
use Rattle.std.specs.Prelude.{ℕ, ◌+◌, ◌*◌, ◌/◌, ◌%◌, ◌^◌, ◌<◌, ◌≤◌, ◌-◌, ◌≡◌, refl, ◌≢◌, Bool, true, false, List, ltb, length}
use Rattle.std.proofs.Common.{sym, ◌∙◌, inl, inr, ⊎_elim, arith, pow_pos, mod-lt, ltb-true, ltb-false}
use Rattle.std.specs.Int.Bits.{bit_and}
use Rattle.std.proofs.lemmas.Nat.{and_mask}
use Rattle.lists.specs.Booleans.{false_true}
use Rattle.pairbits.specs.Bits.{is_set}
use Rattle.words.specs.Words.{is_bit_one, one_mod, one_past, Ored, Spells}
use Rattle.buckets.specs.Buckets.{less_or_not}
use Rattle.marking.specs.Marks.{Adds, adds_as, adds_none, adds_then, bit_cases, pair_below, Room}
use Rattle.expansion.specs.Expand.{CopyPair}

-- word w of row h: its bits are those of the columns from 64 * w on, of n
pub record RowWord (n h w : ℕ) (table : List ℕ) (x : ℕ) : Type 0 where
  pub bits : (b : ℕ) → b < 64 → is_bit_one x b ≡ true → (64 * w + b < n) × (is_set table (h * n + (64 * w + b)) ≡ true)
  pub all : (b : ℕ) → b < 64 → 64 * w + b < n → is_set table (h * n + (64 * w + b)) ≡ true → is_bit_one x b ≡ true

module _ (n h w : ℕ) {table : List ℕ} {x : ℕ} (S : Spells table (h * n + 64 * w) 64 x) where
  at_column : (b : ℕ) → b < 64 → is_bit_one x b ≡ is_set table (h * n + (64 * w + b))
  at_column b hb = let e : h * n + 64 * w + b ≡ h * n + (64 * w + b) = omega arith in rw e at (S.bits b hb)

  -- a word that is whole in the row
  pub whole_word : 64 ≤ n - 64 * w → RowWord n h w table x
  whole_word g = record { bits = λ b hb e. (omega arith, sym (at_column b hb) ∙ e); all = λ b hb l e. at_column b hb ∙ e }

  -- and one that reaches past its end
  pub last_word : n - 64 * w < 64 → RowWord n h w table (bit_and x (2 ^ (n - 64 * w) - 1))
  last_word g =
      let k = n - 64 * w in
      rw (and_mask x k)
      (record {
        bits = λ b hb e. let l : b < k = inside b e (ltb b k) refl in (omega arith, sym (at_column b hb) ∙ (sym (one_mod x k b l) ∙ e));
        all = λ b hb l e. one_mod x k b (omega arith) ∙ (at_column b hb ∙ e);
      })
    where
      inside : (b : ℕ) → is_bit_one (x % 2 ^ (n - 64 * w)) b ≡ true → (t : Bool) → ltb b (n - 64 * w) ≡ t → b < n - 64 * w
      inside b e true t = ltb-true b (n - 64 * w) t
      inside b e false t = false_true (one_past (x % 2 ^ (n - 64 * w)) (n - 64 * w) b (mod-lt x (pow_pos (n - 64 * w))) (ltb-false b (n - 64 * w) t)) e

-- the pairs of i with the columns before 64 * w whose bits are set in row h
abbrev pub CopiedTo : ℕ → ℕ → ℕ → ℕ → List ℕ → ℕ → ℕ → Type 0
CopiedTo n h i w table x y = (y < 64 * w) × CopyPair n h i table x y

pub record Copying (n h i w : ℕ) (old new : List ℕ) : Type 0 where
  pub upto : 64 * w ≤ n + 64
  pub copied : Adds n (CopiedTo n h i w old) old new

module _ {n h i : ℕ} (hi : i < n) (hh : h < n) (other : i ≢ h) where
  pub copying_start : (l : List ℕ) → Copying n h i 0 l l
  copying_start l = record { upto = omega arith; copied = adds_none n (CopiedTo n h i 0 l) l (λ x y d. let g = d.0 in omega arith) }

  pub copying_more : {w x : ℕ} {old mid new : List ℕ} → 64 * w < n → Room n old → Copying n h i w old mid → RowWord n h w mid x → Ored mid (i * n + 64 * w) 64 x new → Copying n h i (w + 1) old new
  copying_more {w} {x} {old} {mid} {new} hw room C R O = record {
    upto = omega arith;
    copied = adds_then n (CopiedTo n h i w old) Here (CopiedTo n h i (w + 1) old) C.copied
        (record {
          long = O.long;
          bytes = O.bytes;
          kept = O.kept;
          added = λ u v hu hv d. add u v hv d;
          only = λ k e. ⊎_elim inl (λ (b, hb, s, o). inr (only k b hb s o)) (O.only k e);
        })
        (λ u v hu hv d. ⊎_elim (λ l. inl (l, d.1)) (λ g. inr (d.1.0, (g, (d.0, d.1.1)))) (less_or_not v (64 * w)))
        (λ u v hu hv d. (omega (arith, d.0), d.1))
        (λ u v hu hv d. (omega (arith, d.1.1.0), (d.0, d.1.1.1)));
  }
    where
      Here : ℕ → ℕ → Type 0
      Here u v = (u ≡ i) × ((64 * w ≤ v) × ((v < 64 * (w + 1)) × (is_set old (h * n + v) ≡ true)))

      -- row h stays as it was
      was : (v : ℕ) → v < n → is_set mid (h * n + v) ≡ true → is_set old (h * n + v) ≡ true
      was v hv e = ⊎_elim (λ o. o) (λ d. absurd (other (sym d.1.0))) (bit_cases n (CopiedTo n h i w old) C.copied h v hv e)

      add : (u v : ℕ) → v < n → Here u v → is_set new (u * n + v) ≡ true
      add u v hv (s, (l, (g, e))) =
          let k : 64 * w + (v - 64 * w) ≡ v = omega arith in
          let z : i * n + 64 * w + (v - 64 * w) ≡ i * n + v = omega arith in
          let r : (i * n + v) / 8 < length mid = rw C.copied.long (pair_below old room hi hv) in
          rw s (rw z at (O.added (v - 64 * w) (omega arith) (R.all (v - 64 * w) (omega arith) (omega arith) (rw k (C.copied.kept (h * n + v) e))) (rw z r)))

      only : (k b : ℕ) → b < 64 → k ≡ i * n + 64 * w + b → is_bit_one x b ≡ true → (u : ℕ) × (v : ℕ) × (u < n) × (v < n) × (k ≡ u * n + v) × Here u v
      only k b hb s o =
          let r = R.bits b hb o in
          (i, 64 * w + b, hi, r.0, omega arith, (refl, (omega arith, (omega arith, was (64 * w + b) r.0 r.1))))

  pub copying_done : {w : ℕ} {old new : List ℕ} → n ≤ 64 * w → Copying n h i w old new → Adds n (CopyPair n h i old) old new
  copying_done {w} {old} g C = adds_as n (CopiedTo n h i w old) (CopyPair n h i old) C.copied (λ x y hx hy d. d.1) (λ x y hx hy d. (omega arith, d))
