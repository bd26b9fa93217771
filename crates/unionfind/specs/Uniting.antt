-- Two roots joined, and what that says of the terms whose roots they are.
use Rattle.std.specs.Prelude.{ℕ, ◌<◌, ◌≡◌, refl, ◌≢◌, ◌↔◌, List, ℤ, pos, neg_ℤ, ◌+ℤ◌, ◌-ℤ◌, length, get_or, set}
use Rattle.std.proofs.Common.{sym, ◌∙◌, ap, arith, length-set}
use Rattle.integers.specs.Linear.{linear, value, ‹◌›, #◌, ◌⊕◌, ◌⊖◌, ⊝◌}
use Rattle.rules.specs.Assignments.{Placement}
use Rattle.labels.specs.Relabel.{Relabelled}
use Rattle.integers.specs.Within.{Within}
use Rattle.labels.specs.Spread.{far}
use Rattle.labels.specs.Joins.{Joined, down, rise}
use Rattle.unionfind.specs.declared.Root.{Root}
use Rattle.unionfind.specs.declared.Joining.{Joining}
use Rattle.unionfind.specs.Forest.{Links, flat, Near, Follows, Found, Equated, joined, held, clashed, flat_follows, flat_lowest, flat_root}
use Rattle.unionfind.specs.Hanging.{hung_links, hung_moves}

-- the class of the root `from` hangs under the root `to`
pub record Linking (p0 : List ℕ) (o0 : List ℤ) (p : List ℕ) (o : List ℤ) (from : ℕ) (d : ℤ) (to : ℕ) : Type 0 where
  pub links : Links p o
  pub long : length p ≡ length p0
  pub moves : Relabelled (length p0) (flat p0 o0) (flat p o) from d to

pub linking :
    {p : List ℕ} {o : List ℤ} (from : ℕ) (d : ℤ) (to : ℕ) →
    Links p o →
    from < length p →
    to < from →
    get_or p from 0 ≡ from →
    get_or p to 0 ≡ to →
    Linking p o (set p from to) (set o from d) from d to
linking {p} from d to L h lower ef et = record {
  links = hung_links L from to d h lower;
  long = length-set p from to;
  moves = hung_moves L from to d h lower ef et;
}

-- x and y are the labels of a and b
pub record Pair (p0 : List ℕ) (o0 : List ℤ) (p : List ℕ) (o : List ℤ) (a : ℕ) (x : Root) (b : ℕ) (y : Root) : Type 0 where
  pub links : Links p o
  pub same : flat p o ≡ flat p0 o0
  pub long : length p ≡ length p0
  pub root_a : x.term.0 ≡ (flat p0 o0).block a
  pub offset_a : x.offset ≡ (flat p0 o0).position a
  pub root_b : y.term.0 ≡ (flat p0 o0).block b
  pub offset_b : y.offset ≡ (flat p0 o0).position b

pub found_both :
    {p0 : List ℕ} {o0 : List ℤ} {p1 : List ℕ} {o1 : List ℤ} {p : List ℕ} {o : List ℤ} {a b : ℕ} {x y : Root} →
    Found p0 o0 p1 o1 a x →
    Found p1 o1 p o b y →
    Pair p0 o0 p o a x b y
found_both A B = record {
  links = B.links;
  same = B.same ∙ A.same;
  long = B.long ∙ A.long;
  root_a = A.root;
  offset_a = A.offset;
  root_b = rw A.same at B.root;
  offset_b = rw A.same at B.offset;
}

module _ {p0 : List ℕ} {o0 : List ℤ} {p : List ℕ} {o : List ℤ} {a b : ℕ} {x y : Root} (B : Pair p0 o0 p o a x b y) where
  swapped : Pair p0 o0 p o b y a x
  swapped = record {
    links = B.links;
    same = B.same;
    long = B.long;
    root_a = B.root_b;
    offset_a = B.offset_b;
    root_b = B.root_a;
    offset_b = B.offset_a;
  }

  pair_root : get_or p x.term.0 0 ≡ x.term.0
  pair_root = rw (B.root_a, ← B.same) (flat_root B.links a)

  follows : Follows p o (flat p0 o0)
  follows = rw B.same at (flat_follows B.links)

  pair_block : (flat p0 o0).block x.term.0 ≡ (flat p0 o0).block a
  pair_block = follows.root_block x.term.0 pair_root ∙ B.root_a

  pair_zero : (flat p0 o0).position x.term.0 ≡ pos 0
  pair_zero = follows.root_position x.term.0 pair_root

  pair_below : a < length p0 → x.term.0 < length p
  pair_below h = rw (B.root_a, ← B.same) (omega (arith, flat_lowest B.links a, B.long))

  pair_near : Near (length p0) (flat p0 o0) → a < length p0 → Within far x.offset
  pair_near N h = rw B.offset_a (N.near h)

-- so their roots can be joined
pub pair_joinable :
    {p0 : List ℕ} {o0 : List ℤ} {p : List ℕ} {o : List ℤ} {a b : ℕ} {x y : Root} →
    Pair p0 o0 p o a x b y →
    Near (length p0) (flat p0 o0) →
    a < length p0 →
    b < length p0 →
    {z : ℤ} →
    Within far z →
    (Links p o × ((x.term.0 < length p) × (y.term.0 < length p))) × (((get_or p x.term.0 0 ≡ x.term.0) × (get_or p y.term.0 0 ≡ y.term.0)) × (Within far x.offset × (Within far z × Within far y.offset)))
pair_joinable B N ha hb w =
    ((B.links, (pair_below B ha, pair_below (swapped B) hb)), ((pair_root B, pair_root (swapped B)), (pair_near B N ha, (w, pair_near (swapped B) N hb))))

-- i and j are the roots of a and b, and i = d + j says what a = z + b does
record Between (P : Placement) (a : ℕ) (z : ℤ) (b i : ℕ) (d : ℤ) (j : ℕ) : Type 0 where
  left : P.block i ≡ P.block a
  right : P.block j ≡ P.block b
  left_zero : P.position i ≡ pos 0
  right_zero : P.position j ≡ pos 0
  distance : d ≡ z +ℤ P.position b -ℤ P.position a

module _ {P : Placement} {a : ℕ} {z : ℤ} {b i : ℕ} {d : ℤ} {j : ℕ} (B : Between P a z b i d j) where
  forth : d +ℤ P.position j -ℤ P.position i ≡ z +ℤ P.position b -ℤ P.position a
  forth =
      let v = value (‹ d › ⊕ ‹ P.position j › ⊖ ‹ P.position i ›) in
      let w = value (‹ z › ⊕ ‹ P.position b › ⊖ ‹ P.position a ›) in
      omega (linear, B.distance, B.left_zero, B.right_zero, value (# 0), v, w)

  back : neg_ℤ d +ℤ P.position i -ℤ P.position j ≡ neg_ℤ z +ℤ P.position a -ℤ P.position b
  back =
      let v = value (⊝ ‹ d › ⊕ ‹ P.position i › ⊖ ‹ P.position j ›) in
      let w = value (‹ z › ⊕ ‹ P.position b › ⊖ ‹ P.position a ›) in
      let x = value (⊝ ‹ z › ⊕ ‹ P.position a › ⊖ ‹ P.position b ›) in
      omega (linear, B.distance, B.left_zero, B.right_zero, value (# 0), v, w, x)

  joined_between : {n : ℕ} {Q : Placement} → Joined n P Q i d j → Joined n P Q a z b
  joined_between (down h R) = down (rw (B.left, B.right) at h) (rw (B.left, forth, B.right) at R)
  joined_between (rise h R) = rise (rw (B.left, B.right) at h) (rw (B.right, back, B.left) at R)

  class_between : P.block i ≡ P.block j → P.block a ≡ P.block b
  class_between e = sym B.left ∙ e ∙ B.right

  offset_between : (P.position i ≡ d +ℤ P.position j) ↔ (P.position a ≡ z +ℤ P.position b)
  offset_between =
      let v = value (‹ d › ⊕ ‹ P.position j ›) in
      let w = value (‹ z › ⊕ ‹ P.position b › ⊖ ‹ P.position a ›) in
      let x = value (‹ z › ⊕ ‹ P.position b ›) in (
        λ e. omega (linear, e, B.distance, B.left_zero, B.right_zero, value (# 0), v, w, x),
        λ e. omega (linear, e, B.distance, B.left_zero, B.right_zero, value (# 0), v, w, x),
      )

-- what joining the roots finds, joining a and b finds
module _ {p0 : List ℕ} {o0 : List ℤ} {p : List ℕ} {o : List ℤ} {a b : ℕ} {x y : Root} (B : Pair p0 o0 p o a x b y) {d : ℤ} (z : ℤ) (ed : d ≡ z +ℤ y.offset -ℤ x.offset) where
  between : Between (flat p0 o0) a z b x.term.0 d y.term.0
  between = record {
    left = pair_block B;
    right = pair_block (swapped B);
    left_zero = pair_zero B;
    right_zero = pair_zero (swapped B);
    distance = rw (B.offset_a, B.offset_b) at ed;
  }

  pub pair_equated : {p1 : List ℕ} {o1 : List ℤ} {r : Joining} → Equated p o p1 o1 x.term.0 d y.term.0 r → Equated p0 o0 p1 o1 a z b r
  pair_equated (joined K l J) = joined K (l ∙ B.long) (joined_between between (rw (B.long, B.same) at J))
  pair_equated (held K l e h) =
      held K (l ∙ B.long) (e ∙ B.same) (record {
        same_block = class_between between (rw B.same at h.same_block);
        at_offset = (offset_between between).0 (rw B.same at h.at_offset);
      })
  pair_equated (clashed K l e s m) =
      clashed K (l ∙ B.long) (e ∙ B.same) (class_between between (rw B.same at s)) (λ f. m (rw B.same ((offset_between between).1 f)))

-- what joining i = d + j finds, for two roots
module _ {p : List ℕ} {o : List ℤ} (L : Links p o) {i j : ℕ} (d : ℤ) (ri : get_or p i 0 ≡ i) (rj : get_or p j 0 ≡ j) where
  block_i : (flat p o).block i ≡ i
  block_i = (flat_follows L).root_block i ri

  block_j : (flat p o).block j ≡ j
  block_j = (flat_follows L).root_block j rj

  zero_i : (flat p o).position i ≡ pos 0
  zero_i = (flat_follows L).root_position i ri

  zero_j : (flat p o).position j ≡ pos 0
  zero_j = (flat_follows L).root_position j rj

  own : (z : ℤ) → z +ℤ (flat p o).position j -ℤ (flat p o).position i ≡ z
  own z = omega (linear, zero_i, zero_j, value (# 0), value (‹ z › ⊕ ‹ (flat p o).position j › ⊖ ‹ (flat p o).position i ›))

  pub roots_held : i ≡ j → d ≡ pos 0 → Equated p o p o i d j Joining.Held
  roots_held e ed = held L refl refl (record {
    same_block = ap (flat p o).block e;
    at_offset = omega (linear, ed, zero_i, zero_j, value (# 0), value (‹ d › ⊕ ‹ (flat p o).position j ›));
  })

  pub roots_clashed : i ≡ j → d ≢ pos 0 → Equated p o p o i d j Joining.Clashed
  roots_clashed e m = clashed L refl refl (ap (flat p o).block e)
      (λ f. m (omega (linear, f, zero_i, zero_j, value (# 0), value (‹ d › ⊕ ‹ (flat p o).position j ›))))

  module _ {p1 : List ℕ} {o1 : List ℤ} where
    pub roots_down : j < i → Linking p o p1 o1 i d j → Equated p o p1 o1 i d j Joining.Joined
    roots_down h K = joined K.links K.long (down (rw (block_i, block_j) h) (rw (block_i, block_j, own d) K.moves))

pub roots_rise :
    {p : List ℕ} {o : List ℤ} →
    Links p o →
    {i j : ℕ} (d : ℤ) →
    get_or p i 0 ≡ i →
    get_or p j 0 ≡ j →
    {p1 : List ℕ} {o1 : List ℤ} →
    i < j →
    Linking p o p1 o1 j (neg_ℤ d) i →
    Equated p o p1 o1 i d j Joining.Joined
roots_rise L d ri rj h K =
    let bi = block_i L d ri rj in
    let bj = block_j L d ri rj in
    joined K.links K.long (rise (rw (bi, bj) h) (rw (bi, bj, own L d rj ri (neg_ℤ d)) K.moves))
