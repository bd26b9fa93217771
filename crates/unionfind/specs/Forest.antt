-- A forest of links: each term has a parent, of no higher number, and its offset from the parent. A root is its own parent.
-- `flat` is the labelling that the links stand for: each term's root, and its offset from there.
use Prim.Native.Nat.{ℕ, zero, suc, ◌<◌, ◌≤◌}
use Rattle.std.specs.Prelude.{◌≡◌, ◌≢◌, List, ℤ, pos, ◌+ℤ◌, length}
use Rattle.std.proofs.Math.Path.{refl, sym, ap, fun_ext}
use Rattle.std.proofs.Common.{◌∙◌, arith}
use Rattle.std.proofs.Math.Logic.{⊎_elim}
use Rattle.std.proofs.Math.ListN.{get_or, get_or-eq_default}
use Rattle.integers.specs.Linear.{linear, value, ‹◌›, #◌, ◌⊕◌}
use Rattle.rules.specs.Assignments.{Placement, Holds}
use Rattle.labels.specs.Relabel.{Rooted, same_or_not}
use Rattle.integers.specs.Within.{Within}
use Rattle.labels.specs.Spread.{far}
use Rattle.labels.specs.Joins.{Joined}
use Rattle.labels.specs.Steps.{Fresh}
use Rattle.labels.specs.View.{view}
use Rattle.unionfind.specs.declared.Root.{Root}
use Rattle.unionfind.specs.declared.Joining.{Joining}

-- for all t: past the columns' end the parent is 0, and the offset too
pub record Links (p : List ℕ) (o : List ℤ) : Type 0 where
  pub few : length p ≤ 512
  pub same_length : length o ≡ length p
  pub falls : (t : ℕ) → get_or p t 0 ≤ t
  pub settled : (t : ℕ) → get_or p t 0 ≡ t → get_or o t (pos 0) ≡ pos 0

-- the term k links above t, and the offset of t from it
unfoldable pub climb : ℕ → List ℕ → ℕ → ℕ
climb zero p t = t
climb (suc k) p t = climb k p (get_or p t 0)

unfoldable pub rise : ℕ → List ℕ → List ℤ → ℕ → ℤ
rise zero p o t = pos 0
rise (suc k) p o t = rise k p o (get_or p t 0) +ℤ get_or o t (pos 0)

-- t links above t is a root, as each link but a root's falls
unfoldable pub flat : List ℕ → List ℤ → Placement
flat p o = record { block = λ t. climb t p t; position = λ t. rise t p o t }

-- no offset of a term below n is far
pub record Near (n : ℕ) (P : Placement) : Type 0 where
  pub near : {t : ℕ} → t < n → Within far (P.position t)

-- the links stand for the labelling that they stood for, and r is the label of t
pub record Found (p0 : List ℕ) (o0 : List ℤ) (p : List ℕ) (o : List ℤ) (t : ℕ) (r : Root) : Type 0 where
  pub links : Links p o
  pub same : flat p o ≡ flat p0 o0
  pub long : length p ≡ length p0
  pub root : r.term.0 ≡ (flat p0 o0).block t
  pub offset : r.offset ≡ (flat p0 o0).position t

-- a = z + b was joined, or held already, or cannot hold
pub data Equated (p0 : List ℕ) (o0 : List ℤ) (p : List ℕ) (o : List ℤ) (a : ℕ) (z : ℤ) (b : ℕ) : Joining → Type 0 where
  joined : Links p o → length p ≡ length p0 → Joined (length p0) (flat p0 o0) (flat p o) a z b → Equated p0 o0 p o a z b Joining.Joined
  held : Links p o → length p ≡ length p0 → flat p o ≡ flat p0 o0 → Holds (flat p0 o0) a z b → Equated p0 o0 p o a z b Joining.Held
  clashed :
      Links p o →
      length p ≡ length p0 →
      flat p o ≡ flat p0 o0 →
      (flat p0 o0).block a ≡ (flat p0 o0).block b →
      (flat p0 o0).position a ≢ z +ℤ (flat p0 o0).position b →
      Equated p0 o0 p o a z b Joining.Clashed

-- in each case the links stay such
module _ {p0 : List ℕ} {o0 : List ℤ} {p : List ℕ} {o : List ℤ} {a : ℕ} {z : ℤ} {b : ℕ} where
  pub equated_links : {r : Joining} → Equated p0 o0 p o a z b r → Links p o
  equated_links (joined L l J) = L
  equated_links (held L l e h) = L
  equated_links (clashed L l e s m) = L

  pub equated_long : {r : Joining} → Equated p0 o0 p o a z b r → length p ≡ length p0
  equated_long (joined L l J) = l
  equated_long (held L l e h) = l
  equated_long (clashed L l e s m) = l

-- each link leads to the root: the columns hold the labels
pub record Flattened (p0 : List ℕ) (o0 : List ℤ) (p : List ℕ) (o : List ℤ) : Type 0 where
  pub labels : view p o ≡ flat p0 o0
  pub long : length p ≡ length p0
  pub offsets_long : length o ≡ length o0
  pub links : Links p o
  pub same : flat p o ≡ flat p0 o0

-- each term is a root
pub record Cleared (p0 : List ℕ) (o0 : List ℤ) (p : List ℕ) (o : List ℤ) : Type 0 where
  pub links : Links p o
  pub long : length p ≡ length p0
  pub offsets_long : length o ≡ length o0
  pub own : Fresh (length p) (view p o)
  pub fresh : Fresh (length p) (flat p o)

-- P labels roots by themselves, and each other term by way of its link
pub record Follows (p : List ℕ) (o : List ℤ) (P : Placement) : Type 0 where
  pub root_block : (t : ℕ) → get_or p t 0 ≡ t → P.block t ≡ t
  pub root_position : (t : ℕ) → get_or p t 0 ≡ t → P.position t ≡ pos 0
  pub link_block : (t : ℕ) → P.block t ≡ P.block (get_or p t 0)
  pub link_position : (t : ℕ) → P.position t ≡ P.position (get_or p t 0) +ℤ get_or o t (pos 0)

pub same_placement : (P Q : Placement) → ((t : ℕ) → P.block t ≡ Q.block t) → ((t : ℕ) → P.position t ≡ Q.position t) → P ≡ Q
same_placement P Q b q =
    ap (λ (f : ℕ → ℕ). record { block = f; position = P.position }) (fun_ext b)
    ∙ ap (λ (f : ℕ → ℤ). record { block = Q.block; position = f }) (fun_ext q)

zero_sum : (z : ℤ) → z ≡ pos 0 → pos 0 +ℤ z ≡ pos 0
zero_sum z e = omega (linear, value (# 0 ⊕ ‹ z ›), value (# 0))

module _ {p : List ℕ} {o : List ℤ} (L : Links p o) where
  -- what holds of roots, and of each other term where it holds of its parent, holds of all terms
  pub by_links : (X : ℕ → Type 0) → ((t : ℕ) → get_or p t 0 ≡ t → X t) → ((t : ℕ) → get_or p t 0 < t → X (get_or p t 0) → X t) → (t : ℕ) → X t
  by_links X root link t = go (suc t) t (omega arith)
    where
      go : (n t : ℕ) → t < n → X t
      go zero t h = absurd (omega arith)
      go (suc n) t h =
          ⊎_elim
          (λ (e : get_or p t 0 ≡ t). root t e)
          (λ (m : get_or p t 0 ≢ t).
          let l : get_or p t 0 < t = omega (arith, L.falls t) in
          link t l (go n (get_or p t 0) (omega arith)))
          (same_or_not (get_or p t 0) t)

  climb_root : (k t : ℕ) → get_or p t 0 ≡ t → climb k p t ≡ t
  unfolding climb
  climb_root zero t e = refl
  climb_root (suc k) t e = rw e (climb_root k t e)

  rise_root : (k t : ℕ) → get_or p t 0 ≡ t → rise k p o t ≡ pos 0
  unfolding rise
  rise_root zero t e = refl
  rise_root (suc k) t e = rw e (rw (rise_root k t e) (zero_sum _ (L.settled t e)))

  -- t links lead to the root, and so do more
  climb_enough : (k j t : ℕ) → t ≤ k → t ≤ j → climb k p t ≡ climb j p t
  unfolding climb
  climb_enough zero j t h i = let e : get_or p t 0 ≡ t = omega (arith, L.falls t) in sym (climb_root j t e)
  climb_enough (suc k) zero t h i = let e : get_or p t 0 ≡ t = omega (arith, L.falls t) in climb_root (suc k) t e
  climb_enough (suc k) (suc j) t h i =
      ⊎_elim
      (λ (e : get_or p t 0 ≡ t). climb_root (suc k) t e ∙ sym (climb_root (suc j) t e))
      (λ (m : get_or p t 0 ≢ t).
      let l = L.falls t in
      climb_enough k j (get_or p t 0) (omega arith) (omega arith))
      (same_or_not (get_or p t 0) t)

  rise_enough : (k j t : ℕ) → t ≤ k → t ≤ j → rise k p o t ≡ rise j p o t
  unfolding rise
  rise_enough zero j t h i = let e : get_or p t 0 ≡ t = omega (arith, L.falls t) in sym (rise_root j t e)
  rise_enough (suc k) zero t h i = let e : get_or p t 0 ≡ t = omega (arith, L.falls t) in rise_root (suc k) t e
  rise_enough (suc k) (suc j) t h i =
      ⊎_elim
      (λ (e : get_or p t 0 ≡ t). rise_root (suc k) t e ∙ sym (rise_root (suc j) t e))
      (λ (m : get_or p t 0 ≢ t).
      let l = L.falls t in
      ap (λ (z : ℤ). z +ℤ get_or o t (pos 0)) (rise_enough k j (get_or p t 0) (omega arith) (omega arith)))
      (same_or_not (get_or p t 0) t)

  pub flat_follows : Follows p o (flat p o)
  unfolding flat climb rise
  flat_follows = record {
    root_block = λ t e. climb_root t t e;
    root_position = λ t e. rise_root t t e;
    link_block = λ t. climb_enough t (suc t) t (omega arith) (omega arith) ∙ climb_enough t (get_or p t 0) (get_or p t 0) (L.falls t) (omega arith);
    link_position = λ t. rise_enough t (suc t) t (omega arith) (omega arith) ∙ ap (λ (z : ℤ). z +ℤ get_or o t (pos 0)) (rise_enough t (get_or p t 0) (get_or p t 0) (L.falls t) (omega arith));
  }

  -- the links determine the labelling
  pub follows_flat : (P : Placement) → Follows p o P → flat p o ≡ P
  follows_flat P F = same_placement (flat p o) P blocks positions
    where
      G : Follows p o (flat p o)
      G = flat_follows

      blocks : (t : ℕ) → (flat p o).block t ≡ P.block t
      blocks =
          by_links (λ t. (flat p o).block t ≡ P.block t)
          (λ t e. G.root_block t e ∙ sym (F.root_block t e))
          (λ t l e. G.link_block t ∙ e ∙ sym (F.link_block t))

      positions : (t : ℕ) → (flat p o).position t ≡ P.position t
      positions =
          by_links (λ t. (flat p o).position t ≡ P.position t)
          (λ t e. G.root_position t e ∙ sym (F.root_position t e))
          (λ t l e. G.link_position t ∙ ap (λ (z : ℤ). z +ℤ get_or o t (pos 0)) e ∙ sym (F.link_position t))

  -- the root of a class has the lowest number in it
  pub flat_lowest : (t : ℕ) → (flat p o).block t ≤ t
  flat_lowest =
      by_links (λ t. (flat p o).block t ≤ t)
      (λ t e. omega (arith, flat_follows.root_block t e))
      (λ t l h. omega (arith, flat_follows.link_block t))

  pub flat_root : (t : ℕ) → get_or p ((flat p o).block t) 0 ≡ (flat p o).block t
  flat_root =
      by_links (λ t. get_or p ((flat p o).block t) 0 ≡ (flat p o).block t)
      (λ t e. rw (flat_follows.root_block t e) e)
      (λ t l h. rw (flat_follows.link_block t) h)

  pub flat_rooted : Rooted (length p) (flat p o)
  flat_rooted = record {
    below = λ {t} h. omega (arith, flat_lowest t);
    own = λ {t} h. flat_follows.root_block ((flat p o).block t) (flat_root t);
    zero_offset = λ {t} h. flat_follows.root_position ((flat p o).block t) (flat_root t);
  }

  -- past the columns' end each term is in the class of 0
  pub past_block : {t : ℕ} → length p ≤ t → (flat p o).block t ≡ 0
  past_block {t} h = flat_follows.link_block t ∙ rw (get_or-eq_default p 0 h) (flat_follows.root_block 0 (omega (arith, L.falls 0)))

  pub past_position : {t : ℕ} → length p ≤ t → (flat p o).position t ≡ pos 0
  past_position {t} h =
      let e = rw (get_or-eq_default p 0 h) at (flat_follows.link_position t) in
      let r = flat_follows.root_position 0 (omega (arith, L.falls 0)) in
      e ∙ rw r (zero_sum _ (get_or-eq_default o (pos 0) (omega (arith, L.same_length))))
