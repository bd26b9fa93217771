-- How far the loops have come, and what one step of halving leaves.
use Rattle.std.specs.Prelude.{ℕ, ◌+◌, ◌<◌, ◌≤◌, ◌≡◌, refl, ◌≢◌, ◌⊎◌, Bool, true, false, List, ltb, ℤ, pos, ◌+ℤ◌, length, get_or, set}
use Rattle.std.proofs.Common.{sym, ◌∙◌, ap, inl, inr, ⊎_elim, arith, length-set, get_or-set_same, get_or-set_other, ltb-true, ltb-false}
use Rattle.std.proofs.Math.ListN.{get_or-eq_default}
use Rattle.integers.specs.Linear.{linear, value, ‹◌›, #◌, ◌⊕◌}
use Rattle.rules.specs.Assignments.{Placement}
use Rattle.labels.specs.Relabel.{same_or_not}
use Rattle.integers.specs.Within.{Within}
use Rattle.labels.specs.Spread.{far}
use Rattle.labels.specs.View.{view}
use Rattle.labels.specs.Clearing.{Clearing}
use Rattle.unionfind.specs.declared.Root.{Root}
use Rattle.unionfind.specs.Forest.{Links, flat, Near, Follows, Found, Flattened, Cleared, flat_follows, past_block, past_position, same_placement}
use Rattle.unionfind.specs.Hanging.{hung_links, hung_same}

-- t hangs under r, which was its parent's parent
pub record Halved (p0 : List ℕ) (o0 : List ℤ) (p : List ℕ) (o : List ℤ) (t r : ℕ) : Type 0 where
  pub links : Links p o
  pub same : flat p o ≡ flat p0 o0
  pub parents : p ≡ set p0 t r
  pub offsets : o ≡ set o0 t (get_or o0 t (pos 0) +ℤ get_or o0 (get_or p0 t 0) (pos 0))
  pub parent : r ≡ get_or p0 (get_or p0 t 0) 0
  pub linked : get_or p t 0 ≡ r
  pub lower : r < t

module _ {p : List ℕ} {o : List ℤ} (L : Links p o) (t : ℕ) (ht : t < length p) where
  abbrev P : Placement
  P = flat p o

  abbrev u : ℕ
  u = get_or p t 0

  F : Follows p o P
  F = flat_follows L

  -- the offset from the parent's parent
  pub halved_within : Near (length p) P → Within (far + far) (get_or o t (pos 0) +ℤ get_or o u (pos 0))
  halved_within N =
      let l = L.falls t in
      let k = L.falls u in
      let a = N.near ht in
      let b = N.near {t = get_or p u 0} (omega arith) in
      let v = value (‹ P.position u › ⊕ ‹ get_or o t (pos 0) ›) in
      let w = value (‹ P.position (get_or p u 0) › ⊕ ‹ get_or o u (pos 0) ›) in
      let x = value (‹ get_or o t (pos 0) › ⊕ ‹ get_or o u (pos 0) ›) in
      record {
        above = omega (linear, F.link_position t, F.link_position u, v, w, x, a.above, b.below);
        below = omega (linear, F.link_position t, F.link_position u, v, w, x, a.below, b.above);
      }

  pub halved : (r : ℕ) (d : ℤ) → u ≢ t → r ≡ get_or p u 0 → d ≡ get_or o t (pos 0) +ℤ get_or o u (pos 0) → Halved p o (set p t r) (set o t d) t r
  halved r d m er ed =
      let l = L.falls t in
      let k = L.falls u in
      let lower : r < t = omega arith in
      record {
        links = hung_links L t r d ht lower;
        same = hung_same L t r d ht lower (F.link_block t ∙ F.link_block u ∙ ap P.block (sym er)) (rw (er, ed) (omega (
          linear,
          F.link_position t,
          F.link_position u,
          value (‹ P.position u › ⊕ ‹ get_or o t (pos 0) ›),
          value (‹ P.position (get_or p u 0) › ⊕ ‹ get_or o u (pos 0) ›),
          value (‹ P.position (get_or p u 0) › ⊕ (‹ get_or o t (pos 0) › ⊕ ‹ get_or o u (pos 0) ›)),
        )));
        parents = refl;
        offsets = ap (set o t) ed;
        parent = er;
        linked = get_or-set_same p t r 0 ht;
        lower = lower;
      }

inside_or_past : (t n : ℕ) → (t < n) ⊎ (n ≤ t)
inside_or_past t n = go (ltb t n) refl
  where
    go : (b : Bool) → ltb t n ≡ b → (t < n) ⊎ (n ≤ t)
    go true e = inl (ltb-true t n e)
    go false e = inr (omega (arith, ltb-false t n e))

-- columns whose labels are fresh are links
pub cleared :
    {p0 : List ℕ} {o0 : List ℤ} {p : List ℕ} {o : List ℤ} {t : ℕ} →
    length o0 ≡ length p0 →
    length p0 ≤ 512 →
    length p0 ≤ t →
    Clearing p0 o0 (length p0) t p o →
    Cleared p0 o0 p o
cleared {p0} {o0} {p} {o} {t} same few past C = record {
  links = links;
  long = C.long_reps;
  offsets_long = C.long_offs;
  own = record { block = root; position = λ s h. C.fresh.position s (omega (arith, C.long_reps)) };
  fresh = record {
    block = λ s h. (flat_follows links).root_block s (root s h);
    position = λ s h. (flat_follows links).root_position s (root s h);
  };
}
  where
    root : (s : ℕ) → s < length p → get_or p s 0 ≡ s
    root s h = C.fresh.block s (omega (arith, C.long_reps))

    links : Links p o
    links = record {
      few = omega (arith, C.long_reps);
      same_length = C.long_offs ∙ same ∙ sym C.long_reps;
      falls = λ s. ⊎_elim (λ h. omega (arith, root s h)) (λ h. omega (arith, get_or-eq_default p 0 h)) (inside_or_past s (length p));
      settled = λ s e. ⊎_elim
          (λ h. C.fresh.position s (omega (arith, C.long_reps)))
          (λ h. get_or-eq_default o (pos 0) (omega (arith, C.long_reps, C.long_offs)))
          (inside_or_past s (length p));
    }

-- t is s above `at`, in one class
pub record Finding (p0 : List ℕ) (o0 : List ℤ) (p : List ℕ) (o : List ℤ) (t at : ℕ) (s : ℤ) : Type 0 where
  pub links : Links p o
  pub same : flat p o ≡ flat p0 o0
  pub long : length p ≡ length p0
  pub below : at < length p
  pub class : (flat p0 o0).block t ≡ (flat p0 o0).block at
  pub offset : (flat p0 o0).position t ≡ s +ℤ (flat p0 o0).position at

pub finding_start : {p : List ℕ} {o : List ℤ} {t : ℕ} → Links p o → t < length p → Finding p o p o t t (pos 0)
finding_start {p} {o} {t} L h = record {
  links = L;
  same = refl;
  long = refl;
  below = h;
  class = refl;
  offset = omega (linear, value (# 0 ⊕ ‹ (flat p o).position t ›));
}

module _ {p0 : List ℕ} {o0 : List ℤ} {p : List ℕ} {o : List ℤ} {t at : ℕ} {s : ℤ} (F : Finding p0 o0 p o t at s) where
  module _ {p1 : List ℕ} {o1 : List ℤ} {r : ℕ} (H : Halved p o p1 o1 at r) where
    same_now : flat p1 o1 ≡ flat p0 o0
    same_now = H.same ∙ F.same

    step : (flat p0 o0).position at ≡ (flat p0 o0).position r +ℤ get_or o1 at (pos 0)
    step = rw (same_now, H.linked) at ((flat_follows H.links).link_position at)

    total : (flat p0 o0).position t ≡ s +ℤ get_or o1 at (pos 0) +ℤ (flat p0 o0).position r
    total =
        let P = flat p0 o0 in
        let d = get_or o1 at (pos 0) in
        omega (linear, F.offset, step, value (‹ s › ⊕ ‹ P.position at ›), value (‹ P.position r › ⊕ ‹ d ›), value (‹ s › ⊕ ‹ d › ⊕ ‹ P.position r ›))

    pub finding_within : Near (length p0) (flat p0 o0) → t < length p0 → Within (far + far) (s +ℤ get_or o1 at (pos 0))
    finding_within N h =
        let P = flat p0 o0 in
        let a = N.near h in
        let b = N.near {t = r} (omega (arith, F.below, F.long, H.lower)) in
        let d = get_or o1 at (pos 0) in
        let v = value (‹ s › ⊕ ‹ d ›) in
        let w = value (‹ s › ⊕ ‹ d › ⊕ ‹ P.position r ›) in
        record {
          above = omega (linear, total, v, w, a.above, b.below);
          below = omega (linear, total, v, w, a.below, b.above);
        }

    pub finding_next : {z : ℤ} → z ≡ s +ℤ get_or o1 at (pos 0) → Finding p0 o0 p1 o1 t r z
    finding_next e = record {
      links = H.links;
      same = same_now;
      long = ap length H.parents ∙ length-set p at r ∙ F.long;
      below = omega (arith, ap length H.parents, length-set p at r, F.below, H.lower);
      class = F.class ∙ rw (same_now, H.linked) at ((flat_follows H.links).link_block at);
      offset = rw e total;
    }

  -- under a root
  module _ (u : get_or p (get_or p at 0) 0 ≡ get_or p at 0) where
    leads : Follows p o (flat p0 o0)
    leads = rw F.same at (flat_follows F.links)

    below_root : s +ℤ get_or o at (pos 0) ≡ (flat p0 o0).position t
    below_root =
        let P = flat p0 o0 in
        let up = get_or p at 0 in
        let d = get_or o at (pos 0) in
        omega (linear, F.offset, leads.link_position at, leads.root_position up u, value (‹ s › ⊕ ‹ P.position at ›), value (‹ P.position up › ⊕ ‹ d ›), value (‹ s › ⊕ ‹ d ›), value (# 0))

    pub below_root_within : Near (length p0) (flat p0 o0) → t < length p0 → Within far (s +ℤ get_or o at (pos 0))
    below_root_within N h = rw below_root (N.near h)

    pub below_root_found : (r : Root) → r.term.0 ≡ get_or p at 0 → r.offset ≡ s +ℤ get_or o at (pos 0) → Found p0 o0 p o t r
    below_root_found r er es = record {
      links = F.links;
      same = F.same;
      long = F.long;
      root = er ∙ sym (F.class ∙ leads.link_block at ∙ leads.root_block (get_or p at 0) u);
      offset = es ∙ below_root;
    }

  pub finding_found : (r : Root) → get_or p at 0 ≡ at → r.term.0 ≡ at → r.offset ≡ s → Found p0 o0 p o t r
  finding_found r e er es =
      let R = rw F.same at (flat_follows F.links) in
      record {
        links = F.links;
        same = F.same;
        long = F.long;
        root = er ∙ sym (F.class ∙ R.root_block at e);
        offset = es ∙ sym (F.offset ∙ rw (R.root_position at e) (omega (linear, value (‹ s › ⊕ # 0))));
      }

-- the terms below i have their labels in the columns
pub record Flattening (p0 : List ℕ) (o0 : List ℤ) (p : List ℕ) (o : List ℤ) (i : ℕ) : Type 0 where
  pub links : Links p o
  pub same : flat p o ≡ flat p0 o0
  pub long : length p ≡ length p0
  pub within : i ≤ length p0
  pub blocks : (s : ℕ) → s < i → get_or p s 0 ≡ (flat p0 o0).block s
  pub positions : (s : ℕ) → s < i → get_or o s (pos 0) ≡ (flat p0 o0).position s

pub flattening_start : {p : List ℕ} {o : List ℤ} → Links p o → Flattening p o p o 0
flattening_start L = record {
  links = L;
  same = refl;
  long = refl;
  within = omega arith;
  blocks = λ s h. absurd (omega arith);
  positions = λ s h. absurd (omega arith);
}

module _ {p0 : List ℕ} {o0 : List ℤ} {p : List ℕ} {o : List ℤ} {i : ℕ} (F : Flattening p0 o0 p o i) where
  R : Follows p o (flat p0 o0)
  R = rw F.same at (flat_follows F.links)

  -- a root has its label
  pub flattening_skip : i < length p0 → get_or p i 0 ≡ i → Flattening p0 o0 p o (i + 1)
  flattening_skip h e = record {
    links = F.links;
    same = F.same;
    long = F.long;
    within = omega arith;
    blocks = λ s b. ⊎_elim (λ (k : s ≡ i). rw k (e ∙ sym (R.root_block i e))) (λ (m : s ≢ i). F.blocks s (omega arith)) (same_or_not s i);
    positions = λ s b. ⊎_elim
        (λ (k : s ≡ i). rw k (F.links.settled i e ∙ sym (R.root_position i e)))
        (λ (m : s ≢ i). F.positions s (omega arith))
        (same_or_not s i);
  }

  -- another's parent has: its parent's parent is the root
  pub flattening_next : {p1 : List ℕ} {o1 : List ℤ} {r : ℕ} → i < length p0 → get_or p i 0 ≢ i → Halved p o p1 o1 i r → Flattening p0 o0 p1 o1 (i + 1)
  flattening_next {p1} {o1} {r} h m H = record {
    links = H.links;
    same = H.same ∙ F.same;
    long = ap length H.parents ∙ length-set p i r ∙ F.long;
    within = omega arith;
    blocks = λ s b. ⊎_elim
        (λ (k : s ≡ i). rw k (H.linked ∙ H.parent ∙ F.blocks u lower ∙ sym (R.link_block i)))
        (λ (k : s ≢ i). rw H.parents (get_or-set_other p i s r 0 k) ∙ F.blocks s (omega arith))
        (same_or_not s i);
    positions = λ s b. ⊎_elim
        (λ (k : s ≡ i). rw (k, H.offsets) (get_or-set_same o i d (pos 0) (omega (arith, F.links.same_length, F.long)) ∙ here))
        (λ (k : s ≢ i). rw H.offsets (get_or-set_other o i s d (pos 0) k) ∙ F.positions s (omega arith))
        (same_or_not s i);
  }
    where
      u : ℕ
      u = get_or p i 0

      d : ℤ
      d = get_or o i (pos 0) +ℤ get_or o u (pos 0)

      lower : u < i
      lower = omega (arith, F.links.falls i)

      here : d ≡ (flat p0 o0).position i
      here =
          omega (linear, R.link_position i, F.positions u lower, value (‹ (flat p0 o0).position u › ⊕ ‹ get_or o i (pos 0) ›), value (‹ get_or o i (pos 0) › ⊕ ‹ get_or o u (pos 0) ›))

  pub flattened : length o0 ≡ length p0 → length p0 ≤ i → Flattened p0 o0 p o
  flattened same past = record {
    labels = same_placement (view p o) (flat p0 o0)
        (λ t. ⊎_elim
        (λ h. F.blocks t (omega arith))
        (λ h. get_or-eq_default p 0 (omega (arith, F.long)) ∙ sym (rw F.same at (past_block F.links {t = t} (omega (arith, F.long)))))
        (inside_or_past t (length p0)))
        (λ t. ⊎_elim
        (λ h. F.positions t (omega arith))
        (λ h. get_or-eq_default o (pos 0) (omega (arith, F.long, F.links.same_length)) ∙ sym (rw F.same at (past_position F.links {t = t} (omega (arith, F.long)))))
        (inside_or_past t (length p0)));
    long = F.long;
    offsets_long = F.links.same_length ∙ F.long ∙ sym same;
    links = F.links;
    same = F.same;
  }
