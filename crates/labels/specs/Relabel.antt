-- A join relabels one class: what it keeps, and how far apart it can bring two terms.
use Rattle.std.specs.Prelude.{ℕ, ◌<◌, ◌≤◌, ◌≡◌, ◌≢◌, List, ℤ, pos, neg_ℤ, ◌+ℤ◌, ◌-ℤ◌, length}
use Rattle.std.proofs.Common.{sym, ◌∙◌, ⊎_elim, arith}
use Rattle.integers.specs.Linear.{linear, value, ‹◌›, ◌⊕◌, ◌⊖◌, ⊝◌}
pub use Rattle.lists.specs.Filled.{same_or_not}
use Rattle.rules.specs.Terms.{Term, Given}
use Rattle.rules.specs.Rules.{Equal, E2, E3}
use Rattle.rules.specs.Assignments.{Placement, Holds}
use Rattle.labels.specs.Labelling.{Sound, Lowest}

-- Q is P, on the terms below n, with the class of `from` moved to that of `to`, where `from` is d + `to`
pub record Relabelled (n : ℕ) (P Q : Placement) (from : ℕ) (d : ℤ) (to : ℕ) : Type 0 where
  pub moved_block : {t : ℕ} → t < n → P.block t ≡ from → Q.block t ≡ to
  pub moved_position : {t : ℕ} → t < n → P.block t ≡ from → Q.position t ≡ P.position t +ℤ d
  pub kept_block : {t : ℕ} → t < n → P.block t ≢ from → Q.block t ≡ P.block t
  pub kept_position : {t : ℕ} → t < n → P.block t ≢ from → Q.position t ≡ P.position t

-- each representative is a term, and its own representative at offset 0
pub record Rooted (n : ℕ) (P : Placement) : Type 0 where
  pub below : {t : ℕ} → t < n → P.block t < n
  pub own : {t : ℕ} → t < n → P.block (P.block t) ≡ P.block t
  pub zero_offset : {t : ℕ} → t < n → P.position (P.block t) ≡ pos 0

module _ (n : ℕ) (P Q : Placement) (from : ℕ) (d : ℤ) (to : ℕ) (R : Relabelled n P Q from d to) where
  -- a relation of two terms of one class stays
  pub keeps_holds : {t u : ℕ} {z : ℤ} → t < n → u < n → Holds P t z u → Holds Q t z u
  keeps_holds {t} {u} {z} ht hu h = ⊎_elim moved kept (same_or_not (P.block t) from)
    where
      moved : P.block t ≡ from → Holds Q t z u
      moved e =
          let f : P.block u ≡ from = sym h.same_block ∙ e in
          record {
            same_block = R.moved_block ht e ∙ sym (R.moved_block hu f);
            at_offset =
                omega (linear, h.at_offset, R.moved_position ht e, R.moved_position hu f, value (‹ z › ⊕ ‹ P.position u ›), value (‹ z › ⊕ ‹ Q.position u ›), value (‹ P.position t › ⊕ ‹ d ›), value (‹ P.position u › ⊕ ‹ d ›));
          }

      kept : P.block t ≢ from → Holds Q t z u
      kept m =
          let k : P.block u ≢ from = λ f. m (h.same_block ∙ f) in
          record {
            same_block = R.kept_block ht m ∙ h.same_block ∙ sym (R.kept_block hu k);
            at_offset =
                omega (linear, h.at_offset, R.kept_position ht m, R.kept_position hu k, value (‹ z › ⊕ ‹ P.position u ›), value (‹ z › ⊕ ‹ Q.position u ›));
          }

  pub keeps_block : {t u : ℕ} → t < n → u < n → P.block t ≡ P.block u → Q.block t ≡ Q.block u
  keeps_block {t} {u} ht hu e =
      (keeps_holds {z = P.position t -ℤ P.position u} ht hu (record {
        same_block = e;
        at_offset = omega (linear, value (‹ P.position t › ⊖ ‹ P.position u › ⊕ ‹ P.position u ›));
      })
      ).same_block

  -- the two classes are one
  pub joins_block : {a b : ℕ} → a < n → b < n → from ≢ to → P.block a ≡ from → P.block b ≡ to → Q.block a ≡ Q.block b
  joins_block ha hb m ea eb = R.moved_block ha ea ∙ sym eb ∙ sym (R.kept_block hb (λ f. m (sym f ∙ eb)))

  pub keeps_lowest : (ts : List Term) → length ts ≡ n → to ≤ from → Lowest ts P → Lowest ts Q
  keeps_lowest ts l le L t h = ⊎_elim moved kept (same_or_not (P.block t) from)
    where
      ht : t < n
      ht = omega arith

      moved : P.block t ≡ from → Q.block t ≤ t
      moved e = omega (arith, L t h, R.moved_block ht e)

      kept : P.block t ≢ from → Q.block t ≤ t
      kept m = omega (arith, L t h, R.kept_block ht m)

  module _ (m : from ≢ to) (r : Rooted n P) {b : ℕ} (hb : b < n) (eb : P.block b ≡ to) where
    to_below : to < n
    to_below = omega (arith, r.below hb)

    to_own : P.block to ≡ to
    to_own = rw (← eb) (r.own hb)

    to_kept : P.block to ≢ from
    to_kept f = m (sym f ∙ to_own)

    pub keeps_rooted : Rooted n Q
    keeps_rooted = record {
      below = λ {t} h. ⊎_elim
          (λ (e : P.block t ≡ from). rw (R.moved_block h e) to_below)
          (λ (k : P.block t ≢ from). rw (R.kept_block h k) (r.below h))
          (same_or_not (P.block t) from);
      own = λ {t} h. ⊎_elim
          (λ (e : P.block t ≡ from). rw (R.moved_block h e) (R.kept_block to_below to_kept ∙ to_own))
          (λ (k : P.block t ≢ from). rw (R.kept_block h k) (R.kept_block (r.below h) (λ f. k (sym (r.own h) ∙ f)) ∙ r.own h))
          (same_or_not (P.block t) from);
      zero_offset = λ {t} h. ⊎_elim
          (λ (e : P.block t ≡ from). rw (R.moved_block h e) (R.kept_position to_below to_kept ∙ rw (← eb) (r.zero_offset hb)))
          (λ (k : P.block t ≢ from). rw (R.kept_block h k) (R.kept_position (r.below h) (λ f. k (sym (r.own h) ∙ f)) ∙ r.zero_offset h))
          (same_or_not (P.block t) from);
    }

-- the rules derive the labels of the joined classes, where they derive that `from` is d + `to`
pub keeps_sound :
    (ts : List Term) (G : Given) (P Q : Placement) (from : ℕ) (d : ℤ) (to : ℕ) →
    Relabelled (length ts) P Q from d to →
    Equal ts G from d to →
    Sound ts G P →
    Sound ts G Q
keeps_sound ts G P Q from d to R e S t h = ⊎_elim moved kept (same_or_not (P.block t) from)
  where
    moved : P.block t ≡ from → Equal ts G t (Q.position t) (Q.block t)
    moved k = rw (R.moved_block h k, R.moved_position h k) (E3 (rw k at (S t h)) e)

    kept : P.block t ≢ from → Equal ts G t (Q.position t) (Q.block t)
    kept m = rw (R.kept_block h m, R.kept_position h m) (S t h)

-- the distance at which a = z + b brings the representatives of a and b
pub distance : (ts : List Term) (G : Given) (P : Placement) {a b : ℕ} {z : ℤ} →
    a < length ts →
    b < length ts →
    Sound ts G P →
    Equal ts G a z b →
    Equal ts G (P.block a) (z +ℤ P.position b -ℤ P.position a) (P.block b)
distance ts G P {a} {b} {z} ha hb S e =
    let k : z +ℤ P.position b -ℤ P.position a ≡ neg_ℤ (P.position a) +ℤ (z +ℤ P.position b) =
    omega (linear, value (‹ z › ⊕ ‹ P.position b › ⊖ ‹ P.position a ›), value (⊝ ‹ P.position a › ⊕ (‹ z › ⊕ ‹ P.position b ›))) in
    rw k (E3 (E2 (S a ha)) (E3 e (S b hb)))
