-- Bytes written to a buffer from a place on.
use Rattle.std.specs.Prelude.{ℕ, suc, ◌+◌, ◌≤◌, ◌≡◌, refl, List, [], ◌∷◌, ◌++◌, length, set}
use Rattle.std.proofs.Common.{sym, ◌∙◌, arith, length-append}
use Rattle.std.proofs.lemmas.List.Edits.{sets}
use Rattle.std.proofs.Math.Seq.{length-sets}

-- `bytes` are written from the place `at` on, and `next` is the place after them
pub record Appended (old : List ℕ) (at : ℕ) (bytes new : List ℕ) (next : ℕ) : Type 0 where
  pub cells : new ≡ sets old at bytes
  pub place : next ≡ at + length bytes

sets_append : (l : List ℕ) (i : ℕ) (a b : List ℕ) → sets l i (a ++ b) ≡ sets (sets l i a) (i + length a) b
sets_append l i [] b = let e : i + 0 ≡ i = omega arith in rw e
sets_append l i (x ∷ a) b = let e : i + suc (length a) ≡ suc i + length a = omega arith in rw e (sets_append (set l i x) (suc i) a b)

pub appended_none : (old : List ℕ) (at : ℕ) → Appended old at [] old at
appended_none old at = record { cells = refl; place = omega arith }

pub appended_both : (old : List ℕ) (at : ℕ) (a middle : List ℕ) (place : ℕ) (b new : List ℕ) (next : ℕ) → Appended old at a middle place → Appended middle place b new next → Appended old at (a ++ b) new next
appended_both old at a middle place b new next p q = record {
  cells = q.cells ∙ (rw (p.cells, p.place) (sym (sets_append old at a b)));
  place = omega (arith, p.place, q.place, length-append a b);
}

pub appended_length : (old : List ℕ) (at : ℕ) (bytes new : List ℕ) (next : ℕ) → Appended old at bytes new next → length new ≡ length old
appended_length old at bytes new next p = rw p.cells (length-sets old at bytes)

-- `rest` has still to be written, of `all`
pub record Remaining (old : List ℕ) (at : ℕ) (all rest new : List ℕ) (next : ℕ) : Type 0 where
  pub cells : sets new next rest ≡ sets old at all
  pub place : next + length rest ≡ at + length all
  pub long : length new ≡ length old

pub remaining_start : (old : List ℕ) (at : ℕ) (all : List ℕ) → Remaining old at all all old at
remaining_start old at all = record { cells = refl; place = refl; long = refl }

module _ (old : List ℕ) (at : ℕ) (all : List ℕ) where
  pub remaining_next : (a b middle : List ℕ) (place : ℕ) (new : List ℕ) (next : ℕ) → Remaining old at all (a ++ b) middle place → Appended middle place a new next → Remaining old at all b new next
  remaining_next a b middle place new next r p = record {
    cells = rw (p.cells, p.place) (sym (sets_append middle place a b) ∙ r.cells);
    place = omega (arith, p.place, r.place, length-append a b);
    long = appended_length middle place a new next p ∙ r.long;
  }

  pub remaining_end : (new : List ℕ) (next : ℕ) → Remaining old at all [] new next → Appended old at all new next
  remaining_end new next r = record { cells = r.cells; place = omega (arith, r.place) }

  -- what has still to be written fits
  pub remaining_fits : (rest new : List ℕ) (next : ℕ) → at + length all ≤ length old → Remaining old at all rest new next → next + length rest ≤ length new
  remaining_fits rest new next h r = omega (arith, r.place, r.long)

-- three parts that fit as a whole, written one after another
module _ (old a b c : List ℕ) (fits : length (a ++ (b ++ c)) ≤ length old) where
  pub first_fits : 0 + length a ≤ length old
  first_fits = omega (arith, length-append a (b ++ c))

  module _ (middle : List ℕ) (place : ℕ) (first : Appended old 0 a middle place) where
    pub second_fits : place + length b ≤ length middle
    second_fits = omega (arith, length-append a (b ++ c), length-append b c, first.place, appended_length old 0 a middle place first)

    module _ (last : List ℕ) (next : ℕ) (second : Appended middle place b last next) where
      pub third_fits : next + length c ≤ length last
      third_fits =
          omega (
            arith,
            length-append a (b ++ c),
            length-append b c,
            first.place,
            second.place,
            appended_length old 0 a middle place first,
            appended_length middle place b last next second,
          )

      pub all_written : (new : List ℕ) (end : ℕ) → Appended last next c new end → Appended old 0 (a ++ (b ++ c)) new end
      all_written new end third = appended_both old 0 a middle place (b ++ c) new end first (appended_both middle place b last next c new end second third)
