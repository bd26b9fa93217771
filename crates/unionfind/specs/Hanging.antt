-- A term hung under another: the labelling stays where both are of one class, and a root takes its class along.
use Rattle.std.specs.Prelude.{ℕ, ◌<◌, ◌≡◌, ◌≢◌, List, ℤ, pos, ◌+ℤ◌, length, get_or, set}
use Rattle.std.proofs.Common.{sym, ◌∙◌, ap, ⊎_elim, arith, length-set, get_or-set_same, get_or-set_other}
use Rattle.integers.specs.Linear.{linear, value, ‹◌›, #◌, ◌⊕◌}
use Rattle.rules.specs.Assignments.{Placement}
use Rattle.labels.specs.Relabel.{Relabelled, same_or_not}
use Rattle.unionfind.specs.Forest.{Links, flat, Follows, by_links, flat_follows, follows_flat}

-- how a term's label moves with the class of `from`
data Moved (P Q : Placement) (from : ℕ) (d : ℤ) (to s : ℕ) : Type 0 where
  moved : P.block s ≡ from → Q.block s ≡ to → Q.position s ≡ P.position s +ℤ d → Moved P Q from d to s
  kept : P.block s ≢ from → Q.block s ≡ P.block s → Q.position s ≡ P.position s → Moved P Q from d to s

relabelled : {n : ℕ} {P Q : Placement} {from to : ℕ} {d : ℤ} → ((s : ℕ) → Moved P Q from d to s) → Relabelled n P Q from d to
relabelled {P = P} {Q = Q} {from = from} {to = to} {d = d} M = record {
  moved_block = λ {t} h e. moved_block (M t) e;
  moved_position = λ {t} h e. moved_position (M t) e;
  kept_block = λ {t} h m. kept_block (M t) m;
  kept_position = λ {t} h m. kept_position (M t) m;
}
  where
    moved_block : {t : ℕ} → Moved P Q from d to t → P.block t ≡ from → Q.block t ≡ to
    moved_block (moved e b q) f = b
    moved_block (kept m b q) f = absurd (m f)

    moved_position : {t : ℕ} → Moved P Q from d to t → P.block t ≡ from → Q.position t ≡ P.position t +ℤ d
    moved_position (moved e b q) f = q
    moved_position (kept m b q) f = absurd (m f)

    kept_block : {t : ℕ} → Moved P Q from d to t → P.block t ≢ from → Q.block t ≡ P.block t
    kept_block (moved e b q) k = absurd (k e)
    kept_block (kept m b q) k = b

    kept_position : {t : ℕ} → Moved P Q from d to t → P.block t ≢ from → Q.position t ≡ P.position t
    kept_position (moved e b q) k = absurd (k e)
    kept_position (kept m b q) k = q

-- t hung under v, a term of a lower number, at the offset d from it
module _ {p : List ℕ} {o : List ℤ} (L : Links p o) (t v : ℕ) (d : ℤ) (ht : t < length p) (lower : v < t) where
  abbrev P : Placement
  P = flat p o

  abbrev Q : Placement
  Q = flat (set p t v) (set o t d)

  parent_here : get_or (set p t v) t 0 ≡ v
  parent_here = get_or-set_same p t v 0 ht

  parent_other : (s : ℕ) → s ≢ t → get_or (set p t v) s 0 ≡ get_or p s 0
  parent_other s m = get_or-set_other p t s v 0 m

  offset_here : get_or (set o t d) t (pos 0) ≡ d
  offset_here = get_or-set_same o t d (pos 0) (omega (arith, L.same_length))

  offset_other : (s : ℕ) → s ≢ t → get_or (set o t d) s (pos 0) ≡ get_or o s (pos 0)
  offset_other s m = get_or-set_other o t s d (pos 0) m

  -- t is no root any more
  not_here : (s : ℕ) → get_or (set p t v) s 0 ≡ s → s ≢ t
  not_here s e h = omega (arith, parent_here, rw h at e)

  still_root : (s : ℕ) → get_or (set p t v) s 0 ≡ s → get_or p s 0 ≡ s
  still_root s e = sym (parent_other s (not_here s e)) ∙ e

  pub hung_links : Links (set p t v) (set o t d)
  hung_links = record {
    few = omega (arith, length-set p t v, L.few);
    same_length = length-set o t d ∙ L.same_length ∙ sym (length-set p t v);
    falls = λ s. ⊎_elim
        (λ (e : s ≡ t). rw e (omega (arith, parent_here)))
        (λ (m : s ≢ t). omega (arith, parent_other s m, L.falls s))
        (same_or_not s t);
    settled = λ s e. offset_other s (not_here s e) ∙ L.settled s (still_root s e);
  }

  G : Follows p o P
  G = flat_follows L

  H : Follows (set p t v) (set o t d) Q
  H = flat_follows hung_links

  -- under one of its class, at its distance from it: the labelling stays
  pub hung_same : P.block t ≡ P.block v → P.position t ≡ P.position v +ℤ d → Q ≡ P
  hung_same eb ep = follows_flat hung_links P (record {
    root_block = λ s e. G.root_block s (still_root s e);
    root_position = λ s e. G.root_position s (still_root s e);
    link_block = λ s. ⊎_elim
        (λ (e : s ≡ t). rw e (rw parent_here eb))
        (λ (m : s ≢ t). rw (parent_other s m) (G.link_block s))
        (same_or_not s t);
    link_position = λ s. ⊎_elim
        (λ (e : s ≡ t). rw e (rw (parent_here, offset_here) ep))
        (λ (m : s ≢ t). rw (parent_other s m, offset_other s m) (G.link_position s))
        (same_or_not s t);
  })

  -- one root under another: the one's class moves to the other's
  module _ (root-t : get_or p t 0 ≡ t) (root-v : get_or p v 0 ≡ v) where
    moved_root : Moved P Q t d v t
    moved_root =
        let r : get_or (set p t v) v 0 ≡ v = parent_other v (λ e. omega arith) ∙ root-v in
        let q : Q.position t ≡ Q.position v +ℤ d = rw (parent_here, offset_here) at (H.link_position t) in
        moved
        (G.root_block t root-t)
        (rw parent_here at (H.link_block t) ∙ H.root_block v r)
        (omega (linear, q, H.root_position v r, G.root_position t root-t, value (‹ Q.position v › ⊕ ‹ d ›), value (‹ P.position t › ⊕ ‹ d ›), value (# 0)))

    along : (s : ℕ) → s ≢ t → Moved P Q t d v (get_or p s 0) → Moved P Q t d v s
    along s m (moved e b q) =
        let u = get_or p s 0 in
        let z = get_or o s (pos 0) in
        moved (G.link_block s ∙ e) (rw (parent_other s m) at (H.link_block s) ∙ b)
        (omega (
          linear,
          q,
          G.link_position s,
          rw (parent_other s m, offset_other s m) at (H.link_position s),
          value (‹ P.position u › ⊕ ‹ d ›),
          value (‹ P.position u › ⊕ ‹ z ›),
          value (‹ Q.position u › ⊕ ‹ z ›),
          value (‹ P.position s › ⊕ ‹ d ›),
        ))
    along s m (kept k b q) =
        kept (λ e. k (sym (G.link_block s) ∙ e))
        (rw (parent_other s m) at (H.link_block s) ∙ b ∙ sym (G.link_block s))
        (rw (parent_other s m, offset_other s m) at (H.link_position s) ∙ ap (λ (z : ℤ). z +ℤ get_or o s (pos 0)) q ∙ sym (G.link_position s))

    pub hung_moves : {n : ℕ} → Relabelled n P Q t d v
    hung_moves = relabelled (by_links hung_links (Moved P Q t d v)
        (λ s e. kept (λ f. not_here s e (sym (G.root_block s (still_root s e)) ∙ f))
        (H.root_block s e ∙ sym (G.root_block s (still_root s e)))
        (H.root_position s e ∙ sym (G.root_position s (still_root s e))))
        (λ s l M. ⊎_elim
        (λ (e : s ≡ t). rw e moved_root)
        (λ (m : s ≢ t). along s m (rw (parent_other s m) at M))
        (same_or_not s t)))
