-- Leads: of the dereferences that read one place, and have one home, one stands for all of them.
use Rattle.std.specs.Prelude.{◌≡◌, ℕ, ◌+◌, ◌<◌, ◌≤◌, true, ◌&&◌, ◌≢◌, List, length, ◌==◌, slice_index, slice_set, refl}
use Rattle.std.proofs.Common.{◌∙◌, ⊎_elim, arith, length-set, get_or-set_same, get_or-set_other, eqb-true}
use Rattle.lists.specs.Booleans.{and_true}
use Rattle.lists.specs.Filled.{same_or_not}
use Rattle.points.specs.Places.{class, Column, height, here_true, is_here}
use Rattle.points.specs.Homes.{home, set_each}

abbrev pub lead : List ℕ → ℕ → ℕ
lead leads k = slice_index leads k

-- a lead that reads the place that t reads, and has its home
pub record Led (homes reads read_heights leads : List ℕ) (r t : ℕ) : Type 0 where
  pub at : ℕ
  pub inside : at < r
  pub class_same : class reads (lead leads at) ≡ class reads t
  pub height_same : height read_heights (lead leads at) ≡ height read_heights t
  pub home_same : home homes (lead leads at) ≡ home homes t

-- the first r numbers are dereferences, of which one stands for each dereference
pub record Leads (n : ℕ) (homes reads read_heights leads : List ℕ) (r : ℕ) : Type 0 where
  pub few : r ≤ n
  pub long : r ≤ length leads
  pub below : (k : ℕ) → k < r → lead leads k < n
  pub reading : (k : ℕ) → k < r → class reads (lead leads k) < n
  pub covers : (t : ℕ) → t < n → class reads t < n → Led homes reads read_heights leads r t

-- u reads the place that t reads, and has its home
pub record SameRead (homes reads read_heights : List ℕ) (u t : ℕ) : Type 0 where
  pub class_same : class reads u ≡ class reads t
  pub height_same : height read_heights u ≡ height read_heights t
  pub home_same : home homes u ≡ home homes t

pub same_read :
    (homes reads read_heights : List ℕ) (u t : ℕ) →
    (is_here reads read_heights (class reads t) (height read_heights t) u && home homes u == home homes t) ≡ true →
    SameRead homes reads read_heights u t
same_read homes reads read_heights u t e =
    let both = and_true (is_here reads read_heights (class reads t) (height read_heights t) u) _ e in
    let here = here_true reads read_heights (class reads t) (height read_heights t) u both.0 in
    record { class_same = here.class_is; height_same = here.height_is; home_same = eqb-true _ _ both.1 }

pub led_by : {homes reads read_heights leads : List ℕ} {r k t : ℕ} → k < r → SameRead homes reads read_heights (lead leads k) t → Led homes reads read_heights leads r t
led_by {k = k} h S = record { at = k; inside = h; class_same = S.class_same; height_same = S.height_same; home_same = S.home_same }

-- what a look for a lead of t relies on
pub record Looking (n : ℕ) (homes reads read_heights leads : List ℕ) (r t : ℕ) : Type 0 where
  pub column : Column n reads read_heights
  pub homes_long : n ≤ length homes
  pub leads_long : r ≤ length leads
  pub below : (k : ℕ) → k < r → lead leads k < n
  pub inside : t < n

-- a loop that has found the leads of the first t terms
pub record Leading (n t size : ℕ) (homes reads read_heights leads : List ℕ) (r : ℕ) : Type 0 where
  pub upto : t ≤ n
  pub few : r ≤ t
  pub long : length leads ≡ size
  pub below : (k : ℕ) → k < r → lead leads k < t
  pub reading : (k : ℕ) → k < r → class reads (lead leads k) < n
  pub covers : (u : ℕ) → u < t → class reads u < n → Led homes reads read_heights leads r u

pub leading_start : {n : ℕ} {homes reads read_heights : List ℕ} (leads : List ℕ) → Leading n 0 (length leads) homes reads read_heights leads 0
leading_start leads = record {
  upto = omega arith;
  few = omega arith;
  long = refl;
  below = λ k h. absurd (omega arith);
  reading = λ k h. absurd (omega arith);
  covers = λ u h. absurd (omega arith);
}

module _ {n size : ℕ} {homes reads read_heights : List ℕ} where
  -- a term that is no dereference, or has a lead
  pub leading_skip :
      {t r : ℕ} {leads : List ℕ} →
      t < n →
      (class reads t < n → Led homes reads read_heights leads r t) →
      Leading n t size homes reads read_heights leads r →
      Leading n (t + 1) size homes reads read_heights leads r
  leading_skip {t} {r} {leads} h led L = record {
    upto = omega arith;
    few = omega (arith, L.few);
    long = L.long;
    below = λ k l. omega (arith, L.below k l);
    reading = L.reading;
    covers = λ u l. ⊎_elim (λ (e : u ≡ t). rw e led) (λ (m : u ≢ t). L.covers u (omega arith)) (same_or_not u t);
  }

  -- a lead more
  module _ {t r : ℕ} {leads : List ℕ} (h : t < n) (room : n ≤ size) (L : Leading n t size homes reads read_heights leads r) where
    inside : r < length leads
    inside = omega (arith, L.few, L.long)

    led_new : Led homes reads read_heights (slice_set leads r t) (r + 1) t
    led_new = led_by {k = r} (omega arith) (rw (get_or-set_same leads r t 0 inside) (record { class_same = refl; height_same = refl; home_same = refl }))

    led_kept : (u : ℕ) → Led homes reads read_heights leads r u → Led homes reads read_heights (slice_set leads r t) (r + 1) u
    led_kept u D =
        let s = get_or-set_other leads r D.at t 0 (λ (e : D.at ≡ r). omega (arith, D.inside)) in
        record { at = D.at; inside = omega (arith, D.inside); class_same = rw s D.class_same; height_same = rw s D.height_same; home_same = rw s D.home_same }

    pub leading_more : class reads t < n → Leading n (t + 1) size homes reads read_heights (slice_set leads r t) (r + 1)
    leading_more c = record {
      upto = omega arith;
      few = omega (arith, L.few);
      long = length-set leads r t ∙ L.long;
      below = set_each leads r t (λ k x. x < t + 1) inside (omega arith) (λ k l. omega (arith, L.below k l));
      reading = set_each leads r t (λ k x. class reads x < n) inside c L.reading;
      covers = λ u l g. ⊎_elim (λ (e : u ≡ t). rw e led_new) (λ (m : u ≢ t). led_kept u (L.covers u (omega arith) g)) (same_or_not u t);
    }

pub looking :
    {n t size : ℕ} {homes reads read_heights leads : List ℕ} {r : ℕ} →
    Column n reads read_heights →
    n ≤ length homes →
    n ≤ size →
    t < n →
    Leading n t size homes reads read_heights leads r →
    Looking n homes reads read_heights leads r t
looking C long room h L = record {
  column = C;
  homes_long = long;
  leads_long = omega (arith, L.few, L.long);
  below = λ k l. omega (arith, L.below k l);
  inside = h;
}

-- all terms
pub leading_done :
    {n t size : ℕ} {homes reads read_heights leads : List ℕ} {r : ℕ} → n ≤ size → n ≤ t → Leading n t size homes reads read_heights leads r → Leads n homes reads read_heights leads r
leading_done room h L = record {
  few = omega (arith, L.few, L.upto);
  long = omega (arith, L.few, L.upto, L.long);
  below = λ k l. omega (arith, L.below k l, L.upto);
  reading = L.reading;
  covers = λ u l. L.covers u (omega arith);
}
