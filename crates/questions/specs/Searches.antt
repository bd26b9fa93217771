-- Searches for what shows a difference: among the disequalities, and among what the dereferences read.
use Rattle.std.specs.Prelude.{ℕ, ◌+◌, ◌*◌, ◌<◌, ◌≤◌, ◌≡◌, refl, ◌≢◌, ◌⊎◌, Bool, true, false, ◌&&◌, ◌||◌, List, eqb, length}
use Rattle.std.proofs.Math.Path.{sym}
use Rattle.std.proofs.Common.{◌∙◌, inl, inr, ⊎_elim, arith, eqb-true, eq-eqb}
use Rattle.lists.specs.Booleans.{and_true, both_true, false_true, or_cases, or_false, or_first, or_second}
use Rattle.lists.specs.Filled.{same_or_not}
use Rattle.buckets.specs.Buckets.{NextOf, less_or_not}
use Rattle.pairbits.specs.Bits.{is_set}
use Rattle.points.specs.Places.{class, height, top, At, Column, Here, is_here, here_true, true_here, Opposite, place_slot, slot_of}
use Rattle.marking.specs.Classes.{differ_by_classes, Side}
use Rattle.questions.specs.Sides.{distance, distance_at, distances, same_distance}
use Rattle.questions.specs.Answers.{Shows, Differ, by_classes, by_listed, by_mirrored, by_values}

-- a search among the numbers below m: the result tells whether Q holds of one
pub record Found (m : ℕ) (Q : ℕ → Type 0) (r : Bool) : Type 0 where
  pub some : r ≡ true → (k : ℕ) × (k < m) × Q k
  pub none : r ≡ false → (k : ℕ) → k < m → Q k → ⊥

module _ {m : ℕ} {Q : ℕ → Type 0} where
  pub found : (k : ℕ) → k < m → Q k → Found m Q true
  found k h q = record { some = λ e. (k, h, q); none = λ e. false_true e refl }

  pub missing : (k : ℕ) → m ≤ k → ((j : ℕ) → j < k → Q j → ⊥) → Found m Q false
  missing k h none_before = record { some = λ e. false_true refl e; none = λ e j hj. none_before j (omega arith) }

-- the same search, said otherwise
pub found_as : {m : ℕ} (P Q : ℕ → Type 0) {r : Bool} → Found m P r → ((k : ℕ) → k < m → P k → Q k) → ((k : ℕ) → k < m → Q k → P k) → Found m Q r
found_as P Q F f g = record {
  some = λ e. let s = F.some e in (s.0, s.1, f s.0 s.1 s.2);
  none = λ e k h q. F.none e k h (g k h q);
}

-- a walk along the chain of key k that has met nothing before t; Q holds only of numbers in the chain
pub record Seeking (n : ℕ) (key : ℕ → ℕ) (k : ℕ) (Q : ℕ → Type 0) (t : ℕ) : Type 0 where
  pub upto : t ≤ n
  pub here : t < n → key t ≡ k
  pub none : (u : ℕ) → u < t → Q u → ⊥

module _ {n : ℕ} {key : ℕ → ℕ} {k : ℕ} (Q : ℕ → Type 0) (chained : (u : ℕ) → Q u → key u ≡ k) where
  pub seeking_start : {f : ℕ} → NextOf n key k 0 f → Seeking n key k Q f
  seeking_start {f} N = record {
    upto = N.inside;
    here = N.hit;
    none = λ u h q. N.none u (omega arith) h (chained u q);
  }

  pub seeking_more : {t f : ℕ} → t < n → NextOf n key (key t) (t + 1) f → Seeking n key k Q t → (Q t → ⊥) → Seeking n key k Q f
  seeking_more {t} {f} h N S not_here = record {
    upto = N.inside;
    here = λ g. N.hit g ∙ S.here h;
    none = λ u g q. last u g q (less_or_not u t);
  }
    where
      last : (u : ℕ) → u < f → Q u → (u < t) ⊎ (t ≤ u) → ⊥
      last u g q (inl l) = S.none u l q
      last u g q (inr l) = ⊎_elim (λ (s : u ≡ t). not_here (rw s at q)) (λ (m : u ≢ t). N.none u (omega arith) g (chained u q ∙ sym (S.here h))) (same_or_not u t)

  pub seeking_done : {t : ℕ} → n ≤ t → Seeking n key k Q t → Found n Q false
  seeking_done {t} h S = missing t h S.none

-- row k of the columns of sides is there, and its heights are low
pub record Row (leftClasses leftHeights rightClasses rightHeights : List ℕ) (k : ℕ) : Type 0 where
  pub left_there : k < length leftClasses
  pub left_height_there : k < length leftHeights
  pub right_there : k < length rightClasses
  pub right_height_there : k < length rightHeights
  pub left_low : height leftHeights k < top
  pub right_low : height rightHeights k < top

-- each of the first m
abbrev pub Rows : ℕ → List ℕ → List ℕ → List ℕ → List ℕ → Type 0
Rows m leftClasses leftHeights rightClasses rightHeights = (k : ℕ) → k < m → Row leftClasses leftHeights rightClasses rightHeights k

pub side_row : {n k : ℕ} {leftClasses leftHeights rightClasses rightHeights : List ℕ} → Side n leftClasses leftHeights rightClasses rightHeights k → Row leftClasses leftHeights rightClasses rightHeights k
side_row s = record {
  left_there = s.left_there;
  left_height_there = s.left_height_there;
  right_there = s.right_there;
  right_height_there = s.right_height_there;
  left_low = s.left_low;
  right_low = s.right_low;
}

-- the places (c, g) and (d, h) are in the classes a and b, as far apart as p and q
abbrev pub is_shown : ℕ → ℕ → ℕ → ℕ → ℕ → ℕ → ℕ → ℕ → Bool
is_shown c g d h a p b q = (eqb c a && eqb d b) && eqb (g + q) (h + p)

module _ (leftClasses leftHeights rightClasses rightHeights : List ℕ) where
  -- the sides of proposition k, one way
  abbrev pub is_row_shown : ℕ → ℕ → ℕ → ℕ → ℕ → Bool
  is_row_shown a p b q k = is_shown (class leftClasses k) (height leftHeights k) (class rightClasses k) (height rightHeights k) a p b q

  -- and either way
  abbrev pub is_listed : ℕ → ℕ → ℕ → ℕ → ℕ → Bool
  is_listed a p b q k = is_row_shown a p b q k || is_row_shown b q a p k

  pub record Listed (a p b q k : ℕ) : Type 0 where
    pub test : is_listed a p b q k ≡ true

  -- one way, k being among the first m
  pub record OneWay (m a p b q k : ℕ) : Type 0 where
    pub inside : k < m
    pub test : is_row_shown a p b q k ≡ true

  -- those are in one bucket
  pub one_way_slot : {m : ℕ} (a p b q : ℕ) → Rows m leftClasses leftHeights rightClasses rightHeights → q < top → (k : ℕ) → OneWay m a p b q k → place_slot leftClasses (distances m leftHeights rightHeights) k ≡ slot_of a (distance p q)
  one_way_slot {m} a p b q R h k w =
      let r = and_true (eqb (class leftClasses k) a && eqb (class rightClasses k) b) _ w.test in
      let s = and_true (eqb (class leftClasses k) a) _ r.0 in
      let d = same_distance (height leftHeights k) (height rightHeights k) p q (R k w.inside).right_low h (eqb-true _ _ r.1) in
      rw (eqb-true (class leftClasses k) a s.0, distance_at m leftHeights rightHeights k w.inside ∙ d)

  -- a search one way, and one the other way
  pub either_way : {m a p b q : ℕ} {there back : Bool} → Found m (OneWay m a p b q) there → Found m (OneWay m b q a p) back → Found m (Listed a p b q) (there || back)
  either_way {m} {a} {p} {b} {q} {there} {back} F G = record {
    some = λ e. ⊎_elim
        (λ t. let s = F.some t in (s.0, s.1, record { test = or_first _ _ s.2.test }))
        (λ t. let s = G.some t in (s.0, s.1, record { test = or_second (is_row_shown a p b q s.0) _ s.2.test }))
        (or_cases there back e);
    none = λ e k h l. ⊎_elim
        (λ t. F.none (or_false there back e).0 k h (record { inside = h; test = t }))
        (λ t. G.none (or_false there back e).1 k h (record { inside = h; test = t }))
        (or_cases (is_row_shown a p b q k) _ l.test);
  }

  -- what the test says, of a class among n
  pub row_shows : {n : ℕ} (a p b q k : ℕ) → a < n → is_row_shown a p b q k ≡ true → Shows n leftClasses leftHeights rightClasses rightHeights a p b q k
  row_shows a p b q k h t =
      let r = and_true (eqb (class leftClasses k) a && eqb (class rightClasses k) b) _ t in
      let s = and_true (eqb (class leftClasses k) a) _ r.0 in
      let e : class leftClasses k ≡ a = eqb-true _ _ s.0 in
      record { listed = omega arith; left = e; right = eqb-true _ _ s.1; far = eqb-true _ _ r.1 }

  pub shows_row : {n : ℕ} (a p b q k : ℕ) → Shows n leftClasses leftHeights rightClasses rightHeights a p b q k → is_row_shown a p b q k ≡ true
  shows_row a p b q k s = both_true _ _ (both_true _ _ (eq-eqb _ _ s.left) (eq-eqb _ _ s.right)) (eq-eqb _ _ s.far)

-- the bit of the pair (i, j), or that of its mirror image
unfoldable pub bit_of : ℕ → List ℕ → Bool → ℕ → ℕ → Bool
bit_of n pairs false i j = is_set pairs (i * n + j)
bit_of n pairs true i j = is_set pairs (j * n + i)

pub bit_straight : (n : ℕ) (pairs : List ℕ) {mirrored : Bool} (i j : ℕ) → mirrored ≡ false → is_set pairs (i * n + j) ≡ bit_of n pairs mirrored i j
unfolding bit_of
bit_straight n pairs i j e = rw e

pub bit_mirrored : (n : ℕ) (pairs : List ℕ) {mirrored : Bool} (i j : ℕ) → mirrored ≡ true → is_set pairs (j * n + i) ≡ bit_of n pairs mirrored i j
unfolding bit_of
bit_mirrored n pairs i j e = rw e

module _ (n : ℕ) (reads read_heights pairs : List ℕ) (mirrored : Bool) where
  -- j reads the place (b, h), and the pair's bit is set
  abbrev pub is_met : ℕ → ℕ → ℕ → ℕ → Bool
  is_met b h i j = is_here reads read_heights b h j && bit_of n pairs mirrored i j

  pub record Met (b h i j : ℕ) : Type 0 where
    pub test : is_met b h i j ≡ true

  pub met_slot : (b h i j : ℕ) → Met b h i j → place_slot reads read_heights j ≡ slot_of b h
  met_slot b h i j m =
      let e = here_true reads read_heights b h j (and_true (is_here reads read_heights b h j) _ m.test).0 in
      rw (e.class_is, e.height_is)

  -- j reads class b, as far from what i reads as q from p, and the pair's bit is set
  pub record Opposed (p b q i j : ℕ) : Type 0 where
    pub opposite : Opposite reads read_heights p b q i j
    pub shown : bit_of n pairs mirrored i j ≡ true

  -- none is, if that is below or above all heights
  pub none_below : {p b q i : ℕ} → height read_heights i + q < p → Found n (Opposed p b q i) false
  none_below h = missing n (omega arith) (λ j hj o. let e = o.opposite.far in omega arith)

  pub none_above : {p b q i : ℕ} → Column n reads read_heights → top + p ≤ height read_heights i + q → Found n (Opposed p b q i) false
  none_above C h = missing n (omega arith) (λ j hj o. let e = o.opposite.far in let f = C.low j hj in omega arith)

  -- those that read the place that is as far from what i reads as q from p
  pub all_there : {p b q i g : ℕ} {r : Bool} → g + p ≡ height read_heights i + q → Found n (Met b g i) r → Found n (Opposed p b q i) r
  all_there {p} {b} {q} {i} {g} e F =
      found_as (Met b g i) (Opposed p b q i) F
      (λ j hj m.
      let r = and_true (is_here reads read_heights b g j) _ m.test in
      let h = here_true reads read_heights b g j r.0 in
      record { opposite = record { class_is = h.class_is; far = rw h.height_is (sym e) }; shown = r.1 })
      (λ j hj o.
      let f = o.opposite.far in
      let h : Here reads read_heights b g j = record { class_is = o.opposite.class_is; height_is = omega arith } in
      record { test = both_true _ _ (true_here h) o.shown })

  -- i reads class a, and some j is opposed to it
  pub record From (a p b q i : ℕ) : Type 0 where
    pub class_is : class reads i ≡ a
    pub other : ℕ
    pub inside : other < n
    pub opposed : Opposed p b q i other

  pub from_some : {a p b q i : ℕ} {r : Bool} → class reads i ≡ a → Found n (Opposed p b q i) r → r ≡ true → From a p b q i
  from_some e F t = let s = F.some t in record { class_is = e; other = s.0; inside = s.1; opposed = s.2 }

  pub from_none : {a p b q i : ℕ} {r : Bool} → Found n (Opposed p b q i) r → r ≡ false → From a p b q i → ⊥
  from_none F t m = F.none t m.other m.inside m.opposed

module _ (n : ℕ) (reads read_heights pairs : List ℕ) (a p b q : ℕ) where
  -- what x and y read is different, and the places that they read are as far apart as (a, p) and (b, q)
  pub record Values (x y : ℕ) : Type 0 where
    pub apart : At reads read_heights a p b q x y
    pub shown : is_set pairs (x * n + y) ≡ true

  -- a search for such a pair
  pub record FoundPair (r : Bool) : Type 0 where
    pub some : r ≡ true → (x : ℕ) × (y : ℕ) × (x < n) × (y < n) × Values x y
    pub none : r ≡ false → (x y : ℕ) → x < n → y < n → Values x y → ⊥

  -- from the class a, or from the class b
  pub straight : {r : Bool} → Found n (From n reads read_heights pairs false a p b q) r → FoundPair r
  unfolding bit_of
  straight F = record {
    some = λ e.
        let s = F.some e in
        let m = s.2 in
        let o = m.opposed.opposite in
        (s.0, m.other, s.1, m.inside, record { apart = record { left = m.class_is; right = o.class_is; far = o.far }; shown = m.opposed.shown });
    none = λ e x y hx hy v.
        F.none e x hx (record {
          class_is = v.apart.left;
          other = y;
          inside = hy;
          opposed = record { opposite = record { class_is = v.apart.right; far = v.apart.far }; shown = v.shown };
        });
  }

  pub mirrored : {r : Bool} → Found n (From n reads read_heights pairs true b q a p) r → FoundPair r
  unfolding bit_of
  mirrored F = record {
    some = λ e.
        let s = F.some e in
        let m = s.2 in
        let o = m.opposed.opposite in
        (m.other, s.0, m.inside, s.1, record { apart = record { left = o.class_is; right = m.class_is; far = sym o.far }; shown = m.opposed.shown });
    none = λ e x y hx hy v.
        F.none e y hy (record {
          class_is = v.apart.right;
          other = x;
          inside = hx;
          opposed = record { opposite = record { class_is = v.apart.left; far = sym v.apart.far }; shown = v.shown };
        });
  }

-- one place
abbrev pub is_same_slot : ℕ → ℕ → ℕ → ℕ → Bool
is_same_slot a p b q = eqb a b && eqb p q

pub one_place : (a p b q : ℕ) → is_same_slot a p b q ≡ true → (a ≡ b) × (p ≡ q)
one_place a p b q e = let r = and_true (eqb a b) _ e in (eqb-true a b r.0, eqb-true p q r.1)

pub two_places : (a p b q : ℕ) → is_same_slot a p b q ≡ false → (a ≡ b) × (p ≡ q) → ⊥
two_places a p b q e s = false_true e (both_true _ _ (eq-eqb a b s.0) (eq-eqb p q s.1))

module _ {n m : ℕ} {reads read_heights leftClasses leftHeights rightClasses rightHeights apart pairs : List ℕ} {a p b q : ℕ} where
  -- what the searches say
  pub listed_way : {r : Bool} → a < n → b < n → Found m (Listed leftClasses leftHeights rightClasses rightHeights a p b q) r → r ≡ true → Differ n m reads read_heights leftClasses leftHeights rightClasses rightHeights apart pairs a p b q
  listed_way ha hb F e =
      let s = F.some e in
      let k = s.0 in
      ⊎_elim
      (λ t. by_listed k s.1 (row_shows leftClasses leftHeights rightClasses rightHeights a p b q k ha t))
      (λ t. by_mirrored k s.1 (row_shows leftClasses leftHeights rightClasses rightHeights b q a p k hb t))
      (or_cases (is_row_shown leftClasses leftHeights rightClasses rightHeights a p b q k) _ s.2.test)

  pub values_way : {r : Bool} → FoundPair n reads read_heights pairs a p b q r → r ≡ true → Differ n m reads read_heights leftClasses leftHeights rightClasses rightHeights apart pairs a p b q
  values_way F e = let s = F.some e in by_values s.0 s.1 s.2 s.3 s.4.apart s.4.shown

  pub no_way :
      {listed values : Bool} →
      differ_by_classes n apart a p b q ≡ false →
      Found m (Listed leftClasses leftHeights rightClasses rightHeights a p b q) listed →
      listed ≡ false →
      FoundPair n reads read_heights pairs a p b q values →
      values ≡ false →
      Differ n m reads read_heights leftClasses leftHeights rightClasses rightHeights apart pairs a p b q →
      ⊥
  no_way c F e G f (by_classes t) = false_true c t
  no_way c F e G f (by_listed k h s) = F.none e k h (record { test = or_first _ _ (shows_row leftClasses leftHeights rightClasses rightHeights a p b q k s) })
  no_way c F e G f (by_mirrored k h s) = F.none e k h (record { test = or_second (is_row_shown leftClasses leftHeights rightClasses rightHeights a p b q k) _ (shows_row leftClasses leftHeights rightClasses rightHeights b q a p k s) })
  no_way c F e G f (by_values x y hx hy w t) = G.none f x y hx hy (record { apart = w; shown = t })
