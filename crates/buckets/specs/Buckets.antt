-- Chains of the numbers below n by key: each number is followed by the next one of its key.
use Rattle.std.specs.Prelude.{ℕ, ◌+◌, ◌-◌, ◌<◌, ◌≤◌, ◌≡◌, refl, ◌≢◌, ◌⊎◌, Bool, true, false, List, ltb, length, get_or, set}
use Rattle.std.proofs.Common.{sym, ◌∙◌, inl, inr, ⊎_elim, arith, length-set, get_or-set_same, get_or-set_other, ltb-true, ltb-false}
use Rattle.tables.specs.Limits.{most}
use Rattle.lists.specs.Filled.{Filled, same_or_not}

pub less_or_not : (a b : ℕ) → (a < b) ⊎ (b ≤ a)
less_or_not a b = go (ltb a b) refl
  where
    go : (t : Bool) → ltb a b ≡ t → (a < b) ⊎ (b ≤ a)
    go true e = inl (ltb-true a b e)
    go false e = inr (ltb-false a b e)

-- f is the lowest number from b on that has key k, or n where there is none
pub record NextOf (n : ℕ) (key : ℕ → ℕ) (k b f : ℕ) : Type 0 where
  pub after : b ≤ f
  pub inside : f ≤ n
  pub hit : f < n → key f ≡ k
  pub none : (t : ℕ) → b ≤ t → t < f → key t ≢ k

-- the first cells of the chains, as far as the numbers from b on are in them
pub record Chained (n b size : ℕ) (key : ℕ → ℕ) (first : List ℕ) : Type 0 where
  pub long : length first ≡ size
  pub from : (k : ℕ) → k < size → NextOf n key k b (get_or first k 0)

-- and the links of those numbers
pub record Linked (n b : ℕ) (key : ℕ → ℕ) (next : List ℕ) : Type 0 where
  pub upto : b ≤ n
  pub links : (t : ℕ) → b ≤ t → t < n → NextOf n key (key t) (t + 1) (get_or next t 0)

abbrev pub key_of : List ℕ → ℕ → ℕ
key_of keys t = get_or keys t 0

-- numbers below n with keys below size, and room for their links
pub record Chainable (n size : ℕ) (keys next : List ℕ) : Type 0 where
  pub few : n ≤ most
  pub keys_long : n ≤ length keys
  pub links_long : n ≤ length next
  pub below : (t : ℕ) → t < n → key_of keys t < size

-- chains of all numbers below n, by their keys
pub record Chains (n size : ℕ) (keys first next : List ℕ) : Type 0 where
  pub starts : Chained n 0 size (key_of keys) first
  pub links : Linked n 0 (key_of keys) next
  pub room : n ≤ length next

-- the same by a key that no column holds
pub record KeyChains (n size : ℕ) (key : ℕ → ℕ) (first next : List ℕ) : Type 0 where
  pub starts : Chained n 0 size key first
  pub links : Linked n 0 key next
  pub room : n ≤ length next

-- the number of buckets, said otherwise
pub fillable : {n size other : ℕ} {keys next first : List ℕ} → other ≡ size → Chainable n size keys next → Filled (λ _. n) 0 size size first → Chainable n other keys next × Filled (λ _. n) 0 other other first
fillable e C F = rw e (C, F)

pub chains_sized : {n size other : ℕ} {keys next first : List ℕ} → size ≡ other → Chains n size keys first next → Chains n other keys first next
chains_sized e C = rw e at C

-- empty buckets
pub empty_chained : (n size : ℕ) (key : ℕ → ℕ) {first : List ℕ} → Filled (λ _. n) 0 size size first → Chained n n size key first
empty_chained n size key F = record {
  long = F.long;
  from = λ k h. rw (F.done k h) (record { after = omega arith; inside = omega arith; hit = λ l. absurd (omega arith); none = λ t l g. absurd (omega arith) });
}

-- one number more, at the front of its chain
module _ (n b size : ℕ) (keys first next : List ℕ) (low : b < n) (in_range_lem : key_of keys b < size) (C : Chained n (b + 1) size (key_of keys) first) where
  pub front_more : Chained n b size (key_of keys) (set first (key_of keys b) b)
  front_more = record { long = length-set first (key_of keys b) b ∙ C.long; from = λ k h. ⊎_elim (here k h) (there k h) (same_or_not k (key_of keys b)) }
    where
      here : (k : ℕ) → k < size → k ≡ key_of keys b → NextOf n (key_of keys) k b (get_or (set first (key_of keys b) b) k 0)
      here k h e =
          rw (e, get_or-set_same first (key_of keys b) b 0 (omega (arith, C.long)))
          (record { after = omega arith; inside = omega arith; hit = λ _. refl; none = λ t l g. absurd (omega arith) })

      there : (k : ℕ) → k < size → k ≢ key_of keys b → NextOf n (key_of keys) k b (get_or (set first (key_of keys b) b) k 0)
      there k h m =
          rw (get_or-set_other first (key_of keys b) k b 0 m)
          (record {
            after = omega (arith, (C.from k h).after);
            inside = (C.from k h).inside;
            hit = (C.from k h).hit;
            none = λ t l g. ⊎_elim (λ (e : t ≡ b). rw e (λ s. m (sym s))) (λ (d : t ≢ b). (C.from k h).none t (omega arith) g) (same_or_not t b);
          })

  pub link_more : b < length next → Linked n (b + 1) (key_of keys) next → Linked n b (key_of keys) (set next b (get_or first (key_of keys b) 0))
  link_more room L = record {
    upto = omega arith;
    links = λ t l g.
        ⊎_elim
        (λ (e : t ≡ b). rw (e, get_or-set_same next b (get_or first (key_of keys b) 0) 0 room) (C.from (key_of keys b) in_range_lem))
        (λ (d : t ≢ b). rw (get_or-set_other next b t (get_or first (key_of keys b) 0) 0 d) (L.links t (omega arith) g))
        (same_or_not t b);
  }

-- a loop that has put the numbers from b on into their chains
pub record Chaining (n b size long : ℕ) (keys first next : List ℕ) : Type 0 where
  pub starts : Chained n b size (key_of keys) first
  pub links : Linked n b (key_of keys) next
  pub room : length next ≡ long

pub chaining_start : (n size : ℕ) (keys : List ℕ) {first next : List ℕ} → Filled (λ _. n) 0 size size first → Chaining n n size (length next) keys first next
chaining_start n size keys F = record {
  starts = empty_chained n size (key_of keys) F;
  links = record { upto = omega arith; links = λ t l h. absurd (omega arith) };
  room = refl;
}

pub chaining_more :
    (n b size long : ℕ) (keys first next : List ℕ) {v : ℕ} →
    (low : n ≤ long) →
    (in_range_lem : (t : ℕ) → t < n → key_of keys t < size) →
    0 < b →
    v ≡ b - 1 →
    Chaining n b size long keys first next →
    Chaining n (b - 1) size long keys (set first (key_of keys (b - 1)) v) (set next (b - 1) (get_or first (key_of keys (b - 1)) 0))
chaining_more n b size long keys first next {v} low in_range_lem h e C =
    let u = C.links.upto in
    let s : b ≡ b - 1 + 1 = omega arith in
    let starts = rw s at C.starts in
    let links = rw s at C.links in
    let k = in_range_lem (b - 1) (omega arith) in
    rw e
    (record {
      starts = front_more n (b - 1) size keys first next (omega arith) k starts;
      links = link_more n (b - 1) size keys first next (omega arith) k starts (omega (arith, C.room)) links;
      room = length-set next (b - 1) (get_or first (key_of keys (b - 1)) 0) ∙ C.room;
    })

same_next : {n : ℕ} {key other : ℕ → ℕ} {k b f : ℕ} → ((t : ℕ) → t < n → key t ≡ other t) → NextOf n key k b f → NextOf n other k b f
same_next {n} {key} {other} {k} {b} {f} same N = record {
  after = N.after;
  inside = N.inside;
  hit = λ h. sym (same f h) ∙ N.hit h;
  none = λ t l h e. N.none t l h (same t (omega (arith, N.inside)) ∙ e);
}

-- chains by a column are chains by what it holds
pub key_chains : {n size : ℕ} {keys first next : List ℕ} {key : ℕ → ℕ} → ((t : ℕ) → t < n → key_of keys t ≡ key t) → Chains n size keys first next → KeyChains n size key first next
key_chains same C = record {
  starts = record { long = C.starts.long; from = λ k h. same_next same (C.starts.from k h) };
  links = record { upto = C.links.upto; links = λ t b h. rw (← (same t h)) (same_next same (C.links.links t b h)) };
  room = C.room;
}
