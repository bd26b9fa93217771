-- Leads by their homes: the home of a lead is its key, and other terms have none.
use Rattle.std.specs.Prelude.{ℕ, ◌+◌, ◌<◌, ◌≤◌, ◌≡◌, ◌≢◌, Bool, List, length, get_or, set, replicate}
use Rattle.std.proofs.Common.{◌∙◌, ⊎_elim, arith, length-set, get_or-set_same, get_or-set_other}
use Rattle.std.proofs.lemmas.List.{length-replicate, get_or-replicate}
use Rattle.lists.specs.Filled.{same_or_not}
use Rattle.tables.specs.Limits.{most}
use Rattle.buckets.specs.Buckets.{Chainable, key_of}
use Rattle.points.specs.Homes.{home}
use Rattle.points.specs.Leads.{lead}
use Rattle.settling.specs.Settle.{Done, Grows, InverseOf, one_class, apart_classes, moved, Reading, Setting, setting, Settled, Settling}

-- n terms with their homes, and the first r leads
pub record Led (n r : ℕ) (homes leads : List ℕ) : Type 0 where
  pub few : n ≤ most
  pub homes_long : n ≤ length homes
  pub homes_below : (t : ℕ) → t < n → home homes t < n
  pub long : r ≤ length leads
  pub below : (k : ℕ) → k < r → lead leads k < n

-- the keys of the first r leads are their homes; a key below n is a home
pub record Keyed (n r : ℕ) (homes leads keys : List ℕ) : Type 0 where
  pub long : length keys ≡ most
  pub low : (t : ℕ) → t < most → key_of keys t ≤ most
  pub own : (t : ℕ) → t < n → key_of keys t < n → key_of keys t ≡ home homes t
  pub key : (k : ℕ) → k < r → key_of keys (lead leads k) ≡ home homes (lead leads k)

pub keyed_start : {n : ℕ} {homes leads keys : List ℕ} → n ≤ most → keys ≡ replicate 512 512 → Keyed n 0 homes leads keys
keyed_start few e = record {
  long = rw e (length-replicate {A = ℕ} 512 512);
  low = λ t h. rw e (let z = get_or-replicate {A = ℕ} 512 t 512 0 h in omega arith);
  own = λ t h l. let z : key_of (replicate 512 512) t ≡ 512 = get_or-replicate {A = ℕ} 512 t 512 0 (omega arith) in absurd (let g = rw e at l in omega arith);
  key = λ k h. absurd (omega arith);
}

pub keyed_more : {n r h : ℕ} {homes leads keys : List ℕ} → n ≤ most → lead leads r < n → home homes (lead leads r) < n → h ≡ home homes (lead leads r) → Keyed n r homes leads keys → Keyed n (r + 1) homes leads (set keys (lead leads r) h)
keyed_more {n} {r} {h} {homes} {leads} {keys} few hx hh e L = record {
  long = length-set keys x h ∙ L.long;
  low = λ t g. ⊎_elim (λ (s : t ≡ x). rw (s, here) (omega arith)) (λ (m : t ≢ x). rw (get_or-set_other keys x t h 0 m) (L.low t g)) (same_or_not t x);
  own = λ t g l. ⊎_elim (λ (s : t ≡ x). rw (s, here) e) (λ (m : t ≢ x). let o = get_or-set_other keys x t h 0 m in o ∙ L.own t g (rw o at l)) (same_or_not t x);
  key = λ k g. ⊎_elim (λ (s : lead leads k ≡ x). rw (s, here) e) (λ (m : lead leads k ≢ x). rw (get_or-set_other keys x (lead leads k) h 0 m) (L.key k (earlier k g m))) (same_or_not (lead leads k) x);
}
  where
    x : ℕ
    x = lead leads r

    here : get_or (set keys x h) x 0 ≡ h
    here = get_or-set_same keys x h 0 (omega (arith, L.long))

    earlier : (k : ℕ) → k < r + 1 → lead leads k ≢ x → k < r
    earlier k g m = ⊎_elim (λ (s : k ≡ r). absurd (m (rw s))) (λ (d : k ≢ r). omega arith) (same_or_not k r)

pub keyed_chainable : {n r : ℕ} {homes leads keys next : List ℕ} → n ≤ most → Keyed n r homes leads keys → n ≤ length next → Chainable n 513 keys next
keyed_chainable few L h = record { few = few; keys_long = omega (arith, L.long); links_long = h; below = λ t g. omega (arith, L.low t (omega arith)) }

-- what holds with keys holds with homes
module _ (points heights reads read_heights apart : List ℕ) {n r : ℕ} {homes leads keys : List ℕ} (K : Keyed n r homes leads keys) where
  abbrev S : Setting
  S = setting n points heights keys reads read_heights apart

  abbrev T : Setting
  T = setting n points heights homes reads read_heights apart

  by_homes : {x y : ℕ} → Reading S x y → Reading T x y
  by_homes {x} {y} R = record {
    left = R.left;
    right = R.right;
    left_key = rw (← (K.own x R.left R.left_key)) R.left_key;
    right_key = rw (← (K.own y R.right R.right_key)) R.right_key;
    left_reads = R.left_reads;
    right_reads = R.right_reads;
  }

  inverse_keys : {D : ℕ → ℕ → ℕ → ℕ → Bool} → InverseOf T D → InverseOf S D
  inverse_keys I = record {
    mirrored = I.mirrored;
    moved = I.moved;
    drawn = λ {x} {y} R d. I.drawn (by_homes R) (rw (K.own x R.left R.left_key, K.own y R.right R.right_key) at d);
  }

  grows_homes : {old new : List ℕ} → Grows S old new → Grows T old new
  grows_homes g = record { long = g.long; bytes = g.bytes; kept = g.kept; past = g.past; sound = λ D I H. g.sound D (inverse_keys I) H }

  settled_homes : {table : List ℕ} {x y : ℕ} → Settled S table x y → Settled T table x y
  settled_homes (one_class e) = one_class e
  settled_homes (apart_classes e) = apart_classes e
  settled_homes (moved m) = moved (record { bits = m.bits })

  pub done_homes : {old new : List ℕ} → Settling S old new → Done T r leads old new
  done_homes {old} {new} d = record {
    grows = grows_homes d.grows;
    closed = λ u v hu hv o R s.
        let ku = K.key u hu in
        let kv = K.key v hv in
        settled_homes (d.closed.closed (lead leads u) (lead leads v) (rw (ku, kv) o)
        (record { left = R.left; right = R.right; left_key = rw ku R.left_key; right_key = rw kv R.right_key; left_reads = R.left_reads; right_reads = R.right_reads })
        (rw (ku, kv) s));
  }
