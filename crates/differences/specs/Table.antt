-- The pair table: what is set in it by classes, by disequalities and by inverse dereferencing.
use Rattle.std.specs.Prelude.{ℕ, ◌+◌, ◌*◌, ◌<◌, ◌≤◌, ◌≡◌, refl, ◌≢◌, ◌⊎◌, Bool, ◌&&◌, List, [], ltb, length}
use Rattle.std.proofs.Common.{sym, ◌∙◌, inl, inr, arith, lt-ltb, ltb-true}
use Rattle.std.proofs.Math.Logic.{⊎_elim}
use Rattle.std.proofs.Math.Bool.{true, false}
use Rattle.std.proofs.lemmas.List.{length-replicate}
use Rattle.lists.specs.Booleans.{and_true, both_true, or_cases, or_first, or_second}
use Rattle.pairbits.specs.Bits.{is_set, Bytes}
use Rattle.marking.specs.Marks.{Adds, Room, Upto, bit_cases, no_bits, past_kept, zero_bytes, zeros}
use Rattle.lists.specs.Filled.{same_or_not}
use Rattle.buckets.specs.Buckets.{less_or_not}
use Rattle.points.specs.Homes.{home, Homes, Points}
use Rattle.points.specs.Leads.{lead, Led, Leads}
use Rattle.points.specs.Places.{class, height, AtEither, Column, Terms}
use Rattle.marking.specs.Classes.{differ_by_classes, Listed, ListedPair, height_of_other, places_differ, PointsDiffer, Sides, sides_differ, other_moved, other_parts, parts_other}
use Rattle.marking.specs.Known.{Moving, Uniform, either_moving, uniform_adds}
use Rattle.settling.specs.Settle.{Done, HoldsIn, InverseOf, Setting, setting, Settled, one_class, apart_classes, moved}
use Rattle.expansion.specs.Expand.{ClassSet, Expanded, HomeColumns}

pub zeros_room : (n : ℕ) (old l : List ℕ) → l ≡ zeros (length old) → Room n old → Room n l
zeros_room n old l e h = rw e (omega (arith, length-replicate {A = ℕ} (length old) 0))

pub from_zeros : {n : ℕ} (size : ℕ) (D : ℕ → ℕ → Type 0) {l new : List ℕ} → l ≡ zeros size → Adds n D l new → Adds n D (zeros size) new
from_zeros size D e a = rw e at a

-- what the pair table is made from
pub record Given (n m : ℕ) (classes heights reads read_heights leftClasses leftHeights rightClasses rightHeights apart : List ℕ) : Type 0 where
  pub terms : Terms n classes heights
  pub reading : Column n reads read_heights
  pub sides : Sides n m leftClasses leftHeights rightClasses rightHeights
  pub apart_room : Room n apart

-- homes, points and leads of a set
pub record Placed (n count : ℕ) (classes heights homes points leads reads read_heights : List ℕ) : Type 0 where
  pub homes_are : Homes n classes heights homes
  pub points_are : Points n classes homes points
  pub leads_are : Leads n homes reads read_heights leads count

-- a relation between places that moves along equalities and is kept by inverse dereferencing
pub record Inverse (n : ℕ) (classes heights reads read_heights : List ℕ) (D : ℕ → ℕ → ℕ → ℕ → Bool) : Type 0 where
  pub mirrored : {a p b q : ℕ} → D a p b q ≡ true → D b q a p ≡ true
  pub moved : {a p b q i j : ℕ} → i + q ≡ j + p → D a p b q ≡ true → D a i b j ≡ true
  pub drawn : (x y : ℕ) → x < n → y < n → class reads x < n → class reads y < n → D (class classes x) (height heights x) (class classes y) (height heights y) ≡ true → D (class reads x) (height read_heights x) (class reads y) (height read_heights y) ≡ true

-- it holds of each pair whose bit is set
abbrev pub HoldsOf : ℕ → List ℕ → List ℕ → (ℕ → ℕ → ℕ → ℕ → Bool) → List ℕ → Type 0
HoldsOf n classes heights D table = (i j : ℕ) → i < n → j < n → is_set table (i * n + j) ≡ true → D (class classes i) (height heights i) (class classes j) (height heights j) ≡ true

-- the terms of a set, where each is its own home
abbrev pub plain : ℕ → List ℕ → List ℕ → List ℕ → List ℕ → List ℕ → Setting
plain n classes heights reads read_heights apart = setting n classes heights [] reads read_heights apart

module _ (n m : ℕ) (classes heights reads read_heights leftClasses leftHeights rightClasses rightHeights apart : List ℕ) where
  -- the pair table: what is set by classes and by disequalities, closed under inverse dereferencing, and nothing else
  pub record Told (size : ℕ) (new : List ℕ) : Type 0 where
    pub long : length new ≡ size
    pub bytes : Bytes new
    pub unused : (k : ℕ) → n * n ≤ k → is_set new k ≡ true → ⊥
    pub classes_set : (i j : ℕ) → i < n → j < n → places_differ n apart classes heights i j ≡ true → is_set new (i * n + j) ≡ true
    pub listed_set : (k : ℕ) → k < m → class leftClasses k < n → (i j : ℕ) → i < n → j < n → Listed n classes heights leftClasses leftHeights rightClasses rightHeights k i j → is_set new (i * n + j) ≡ true
    pub closed :
        (x y : ℕ) → x < n → y < n → class reads x < n → class reads y < n → is_set new (x * n + y) ≡ true → is_set new (y * n + x) ≡ true →
        Settled (plain n classes heights reads read_heights apart) new x y ⊎ Settled (plain n classes heights reads read_heights apart) new y x
    pub only :
        (D : ℕ → ℕ → ℕ → ℕ → Bool) →
        Inverse n classes heights reads read_heights D →
        ((i j : ℕ) → i < n → j < n → places_differ n apart classes heights i j ≡ true → D (class classes i) (height heights i) (class classes j) (height heights j) ≡ true) →
        ((k : ℕ) → k < m → class leftClasses k < n → D (class leftClasses k) (height leftHeights k) (class rightClasses k) (height rightHeights k) ≡ true) →
        HoldsOf n classes heights D new

-- what is set at homes by classes and by disequalities
module _ (n m : ℕ) (points heights leftClasses leftHeights rightClasses rightHeights apart : List ℕ) where
  abbrev pub Sided : ℕ → ℕ → ℕ → Type 0
  Sided = ListedPair n points heights leftClasses leftHeights rightClasses rightHeights

  zeros_uniform : (size : ℕ) → Uniform n points heights (zeros size)
  zeros_uniform size = record { moves = λ hi hj hu hv a b f e. absurd (no_bits size _ e) }

  differ_moving : Moving n points heights (PointsDiffer n apart points heights)
  unfolding differ_by_classes
  differ_moving = record { moves = λ {i} {j} {u} {v} a b f (hi, (hj, d)). (rw (← a) hi, (rw (← b) hj, go i j u v a b f d)) }
    where
      go : (i j u v : ℕ) → class points i ≡ class points u → class points j ≡ class points v → height heights i + height heights v ≡ height heights u + height heights j → places_differ n apart points heights i j ≡ true → places_differ n apart points heights u v ≡ true
      go i j u v a b f d =
          ⊎_elim
          (λ e. or_first (is_set apart (class points u * n + class points v)) _ (rw (a, b) at e))
          (λ e.
          let r = other_parts (class points i) (height heights i) (class points j) (height heights j) e in
          let m = r.1 in
          or_second (is_set apart (class points u * n + class points v)) _ (parts_other (class points u) (height heights u) (class points v) (height heights v) (sym a ∙ r.0 ∙ b) (λ s. m (omega arith))))
          (or_cases (is_set apart (class points i * n + class points j)) _ d)

  sided_moving : Moving n points heights (Upto m Sided)
  sided_moving = record { moves = λ a b f (k, hk, (hl, (o, w))). (k, hk, (hl, (o, (either_moving n points heights _ _ _ _).moves a b f w))) }

  -- a table with what is set by classes and by disequalities, and nothing else
  pub record Based (size : ℕ) (base : List ℕ) : Type 0 where
    pub middle : List ℕ
    pub by_class : Adds n (PointsDiffer n apart points heights) (zeros size) middle
    pub by_side : Adds n (Upto m Sided) middle base

  pub room_based : (old : List ℕ) {base : List ℕ} → Based (length old) base → Room n old → Room n base
  room_based old B h = omega (arith, B.by_side.long, B.by_class.long, length-replicate {A = ℕ} (length old) 0)

  pub base_uniform : {size : ℕ} {base : List ℕ} → Based size base → Uniform n points heights base
  base_uniform {size} B = uniform_adds (Upto m Sided) sided_moving (uniform_adds (PointsDiffer n apart points heights) differ_moving (zeros_uniform size) B.by_class) B.by_side

module _ (n m : ℕ) (classes heights homes points reads read_heights leads leftClasses leftHeights rightClasses rightHeights apart : List ℕ) where
  abbrev S : Setting
  S = setting n points heights homes reads read_heights apart

  abbrev E : ℕ → ℕ → ℕ → Type 0
  E = Sided n m points heights leftClasses leftHeights rightClasses rightHeights apart

  -- the table at homes, with the bits of all pairs from those of their homes, is the pair table
  module _ {r : ℕ} (terms : Terms n classes heights) (sides : Sides n m leftClasses leftHeights rightClasses rightHeights) (H : Homes n classes heights homes) (P : Points n classes homes points) (L : Leads n homes reads read_heights leads r) where
    at_home : (t : ℕ) → t < n → class points (home homes t) ≡ class classes t
    at_home t h = P.own (home homes t) (H.below t h) (H.own t h) ∙ H.class_same t h

    -- a term with a class is its own home
    is_home : (t : ℕ) → t < n → class points t < n → home homes t ≡ t
    is_home t h l = ⊎_elim (λ (e : home homes t ≡ t). e) (λ (d : home homes t ≢ t). absurd (let o = P.other t h d in omega arith)) (same_or_not (home homes t) t)

    own_class : (t : ℕ) → t < n → class points t < n → class points t ≡ class classes t
    own_class t h l = P.own t h (is_home t h l)

    at_homes : {a p b q : ℕ} (i j : ℕ) → i < n → j < n → AtEither classes heights a p b q i j → AtEither points heights a p b q (home homes i) (home homes j)
    at_homes {a} {p} {b} {q} i j hi hj (inl d) = inl (record { left = at_home i hi ∙ d.left; right = at_home j hj ∙ d.right; far = let f = d.far in let x = H.height_same i hi in let y = H.height_same j hj in omega arith })
    at_homes {a} {p} {b} {q} i j hi hj (inr d) = inr (record { left = at_home j hj ∙ d.left; right = at_home i hi ∙ d.right; far = let f = d.far in let x = H.height_same i hi in let y = H.height_same j hj in omega arith })

    differ_home : (i j : ℕ) → i < n → j < n → places_differ n apart classes heights i j ≡ true → PointsDiffer n apart points heights (home homes i) (home homes j)
    differ_home i j hi hj e =
        (rw (at_home i hi) (terms.inside i hi), (rw (at_home j hj) (terms.inside j hj), rw (at_home i hi, at_home j hj, H.height_same i hi, H.height_same j hj) e))

    module _ {size : ℕ} {base old : List ℕ} (B : Based n m points heights leftClasses leftHeights rightClasses rightHeights apart size base) (d : Done S r leads base old) where
      abbrev a : Adds n (PointsDiffer n apart points heights) (zeros size) B.middle
      a = B.by_class

      abbrev b : Adds n (Upto m E) B.middle base
      b = B.by_side

      -- what holds of places that differ by classes or by a disequality, and is kept by inverse dereferencing, holds where a bit is set
      holds :
          (D : ℕ → ℕ → ℕ → ℕ → Bool) → InverseOf S D →
          ((i j : ℕ) → i < n → j < n → PointsDiffer n apart points heights i j → D (class points i) (height heights i) (class points j) (height heights j) ≡ true) →
          ((k : ℕ) → k < m → class leftClasses k < n → D (class leftClasses k) (height leftHeights k) (class rightClasses k) (height rightHeights k) ≡ true) →
          HoldsIn S D old
      holds D I c l = d.grows.sound D I
          (λ i j hi hj s.
          ⊎_elim
          (λ t. ⊎_elim (λ u. absurd (no_bits size (i * n + j) u)) (c i j hi hj) (bit_cases n (PointsDiffer n apart points heights) a i j hj t))
          (λ (k, hk, (hl, (o, w))). side_moved i j (l k hk hl) w)
          (bit_cases n (Upto m E) b i j hj s))
        where
          side_moved : {p q u v : ℕ} (i j : ℕ) → D p q u v ≡ true → AtEither points heights p q u v i j → D (class points i) (height heights i) (class points j) (height heights j) ≡ true
          side_moved i j e (inl w) = rw (w.left, w.right) (I.moved w.far e)
          side_moved i j e (inr w) = I.mirrored (rw (w.left, w.right) (I.moved w.far e))

      -- both terms of a pair whose bit is set are homes
      have_classes : (i j : ℕ) → i < n → j < n → is_set old (i * n + j) ≡ true → (class points i < n) × (class points j < n)
      have_classes i j hi hj e =
          let s = and_true (ltb (class points i) n) _
          (holds (λ p _ q _. ltb p n && ltb q n)
          (record {
            mirrored = λ g. let s = and_true (ltb _ n) _ g in both_true _ _ s.1 s.0;
            moved = λ _ g. g;
            drawn = λ R _. both_true _ _ (lt-ltb _ _ R.left_reads) (lt-ltb _ _ R.right_reads);
          })
          (λ u v hu hv (g, (h, _)). both_true _ _ (lt-ltb _ _ g) (lt-ltb _ _ h))
          (λ k hk hl. both_true _ _ (lt-ltb _ _ hl) (lt-ltb _ _ ((sides k hk).inside hl))) i j hi hj e) in
          (ltb-true _ _ s.0, ltb-true _ _ s.1)

      pub home_columns : HomeColumns n homes old
      home_columns = record { column = λ i j hi hj e. is_home j hj (have_classes i j hi hj e).1 }

      pub class_set : ClassSet n classes homes old
      unfolding differ_by_classes
      class_set = record {
        set = λ i t hi ht o e m.
            let g : places_differ n apart classes heights i t ≡ true =
            or_second (is_set apart (class classes i * n + class classes t)) _ (parts_other (class classes i) (height heights i) (class classes t) (height heights t) e (λ f. m (sym (H.unique i t hi ht e f) ∙ o))) in
            let k = home homes i * n + home homes t in
            rw o at (d.grows.kept k (b.kept k (a.added (home homes i) (home homes t) (H.below i hi) (H.below t ht) (differ_home i t hi ht g))));
      }

      module _ {new : List ℕ} (x : Expanded n homes old new) where
        -- a bit is set where that of the homes is
        home_bit : (i j : ℕ) → i < n → j < n → is_set new (i * n + j) ≡ true → is_set old (home homes i * n + home homes j) ≡ true
        home_bit i j hi hj e =
            ⊎_elim
            (λ o. let c = have_classes i j hi hj o in rw (is_home i hi c.0, is_home j hj c.1) o)
            (λ g. g)
            (bit_cases n (λ u v. is_set old (home homes u * n + home homes v) ≡ true) x i j hj e)

        by_classes : (i j : ℕ) → i < n → j < n → places_differ n apart classes heights i j ≡ true → is_set new (i * n + j) ≡ true
        by_classes i j hi hj e =
            let k = home homes i * n + home homes j in
            x.added i j hi hj (d.grows.kept k (b.kept k (a.added (home homes i) (home homes j) (H.below i hi) (H.below j hj) (differ_home i j hi hj e))))

        by_side : (k : ℕ) → k < m → class leftClasses k < n → (i j : ℕ) → i < n → j < n → Listed n classes heights leftClasses leftHeights rightClasses rightHeights k i j → (o : Bool) → sides_differ n classes heights leftClasses leftHeights rightClasses rightHeights k ≡ o → is_set new (i * n + j) ≡ true
        unfolding differ_by_classes
        by_side k hk hl i j hi hj l false o =
            x.added i j hi hj (d.grows.kept (home homes i * n + home homes j) (b.added (home homes i) (home homes j) (H.below i hi) (H.below j hj) (k, hk, (hl, (o, at_homes i j hi hj l)))))
        by_side k hk hl i j hi hj l true o =
            by_classes i j hi hj (or_second (is_set apart (class classes i * n + class classes j)) (height_of_other (class classes i) (height heights i) (class classes j) (height heights j)) (other_moved i j o l))

        -- from the leads of two dereferences to themselves
        led : (u v : ℕ) → (g : Led homes reads read_heights leads r u) → (h : Led homes reads read_heights leads r v) → Settled S old (lead leads g.at) (lead leads h.at) → Settled (plain n classes heights reads read_heights apart) new u v
        led u v g h (one_class e) = one_class (sym g.class_same ∙ e ∙ h.class_same)
        led u v g h (apart_classes e) = apart_classes (rw (g.class_same, h.class_same) at e)
        led u v g h (moved k) = moved (record {
          bits = λ i j hi hj w. x.added i j hi hj (k.bits (home homes i) (home homes j) (H.below i hi) (H.below j hj)
              (rw (g.class_same, h.class_same, g.height_same, h.height_same) (at_homes i j hi hj w)));
        })

        row : (u v : ℕ) → u < n → v < n → class reads u < n → class reads v < n → home homes v ≤ home homes u → is_set new (u * n + v) ≡ true → Settled (plain n classes heights reads read_heights apart) new u v
        row u v hu hv lu lv o e = go (L.covers u hu lu) (L.covers v hv lv)
          where
            go : Led homes reads read_heights leads r u → Led homes reads read_heights leads r v → Settled (plain n classes heights reads read_heights apart) new u v
            go g h =
                led u v g h
                (d.closed g.at h.at g.inside h.inside (rw (g.home_same, h.home_same) o)
                (record {
                  left = L.below g.at g.inside;
                  right = L.below h.at h.inside;
                  left_key = rw g.home_same (H.below u hu);
                  right_key = rw h.home_same (H.below v hv);
                  left_reads = rw g.class_same lu;
                  right_reads = rw h.class_same lv;
                })
                (rw (g.home_same, h.home_same) (home_bit u v hu hv e)))

        in_order : (u v : ℕ) → u < n → v < n → class reads u < n → class reads v < n → is_set new (u * n + v) ≡ true → is_set new (v * n + u) ≡ true → Settled (plain n classes heights reads read_heights apart) new u v ⊎ Settled (plain n classes heights reads read_heights apart) new v u
        in_order u v hu hv lu lv e f =
            ⊎_elim (λ (o : home homes u < home homes v). inr (row v u hv hu lv lu (omega arith) f)) (λ (o : home homes v ≤ home homes u). inl (row u v hu hv lu lv o e)) (less_or_not (home homes u) (home homes v))

        pub table_told : Told n m classes heights reads read_heights leftClasses leftHeights rightClasses rightHeights apart size new
        table_told = record {
          long = x.long ∙ d.grows.long ∙ b.long ∙ a.long ∙ length-replicate {A = ℕ} size 0;
          bytes = x.bytes (d.grows.bytes (b.bytes (a.bytes (zero_bytes size))));
          unused = λ k h e. no_bits size k (past_kept n (PointsDiffer n apart points heights) a k h (past_kept n (Upto m E) b k h (d.grows.past k h (past_kept n (λ u v. is_set old (home homes u * n + home homes v) ≡ true) x k h e))));
          classes_set = by_classes;
          listed_set = λ k hk hl i j hi hj l. by_side k hk hl i j hi hj l (sides_differ n classes heights leftClasses leftHeights rightClasses rightHeights k) refl;
          closed = in_order;
          only = λ D I c l i j hi hj e.
              rw (← (at_home i hi), ← (at_home j hj), ← (H.height_same i hi), ← (H.height_same j hj))
              (holds D
              (record {
                mirrored = I.mirrored;
                moved = I.moved;
                drawn = λ {x = u} {y = v} R g. I.drawn u v R.left R.right R.left_reads R.right_reads (rw (at_home u R.left, at_home v R.right, H.height_same u R.left, H.height_same v R.right) at g);
              })
              (λ u v hu hv (g, (h, w)). rw (own_class u hu g, own_class v hv h) (c u v hu hv (rw (own_class u hu g, own_class v hv h) at w)))
              l (home homes i) (home homes j) (H.below i hi) (H.below j hj) (home_bit i j hi hj e));
        }
