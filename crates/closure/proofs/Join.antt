-- Laws of specs/Join.
use Rattle.std.specs.Prelude.{ℕ, zero, suc, ◌+◌, ◌<◌, ◌≤◌, ◌≡◌, refl, ◌≢◌, Bool, true, false, List, [], ◌∷◌, map, ltb, ℤ, pos, neg_ℤ, ◌+ℤ◌, ◌-ℤ◌, length, get_or}
use Rattle.std.proofs.Common.{sym, ◌∙◌, ⊎_elim, eq-eqb, ne_eqb, ltb-true, ltb-false}
use Rattle.std.proofs.Math.Path.{ap}
use native.Mathlib.Omega.{arith}
use Rattle.std.proofs.lemmas.List.{length-map}
use Rattle.lists.specs.Items.{item_map, get_d_item}
use Rattle.lists.specs.Search.{choose}
use Rattle.rules.specs.Terms.{Term, Given, WellFormed}
use Rattle.labels.specs.Relabel.{Relabelled, same_or_not, keeps_block, joins_block}
use Rattle.labels.specs.Spread.{Spread}
use Rattle.labels.specs.Steps.{State, Step, reversed, Bounded, joined_state, joined_spread, Fresh, fresh_state, fresh_spread}
use Rattle.closure.specs.Join.{Label, unlabelled, placed, own, relabel, link, join, total}

pub length_own : (t n : ℕ) → length (own t n) ≡ n
unfolding own
length_own t zero = refl
length_own t (suc n) = ap suc (length_own (suc t) n)

pub own_at : (t n i : ℕ) → i < n → get_or (own t n) i unlabelled ≡ record { rep = t + i; off = pos 0 }
unfolding own
own_at t zero i h = absurd (omega arith)
own_at t (suc n) zero h = let e : t + 0 ≡ t = omega arith in rw e
own_at t (suc n) (suc i) h = let e : t + suc i ≡ suc t + i = omega arith in rw e (own_at (suc t) n i (omega arith))

map_at : (f : Label → Label) (l : List Label) (t : ℕ) → t < length l → get_or (map f l) t unlabelled ≡ f (get_or l t unlabelled)
map_at f [] t h = absurd (omega arith)
map_at f (x ∷ l) zero h = refl
map_at f (x ∷ l) (suc t) h = map_at f l t (omega arith)

relabel_moved : (from : ℕ) (d : ℤ) (to : ℕ) (x : Label) → x.rep ≡ from → relabel from d to x ≡ record { rep = to; off = x.off +ℤ d }
relabel_moved from d to x e = rw (eq-eqb x.rep from e)

relabel_kept : (from : ℕ) (d : ℤ) (to : ℕ) (x : Label) → x.rep ≢ from → relabel from d to x ≡ x
relabel_kept from d to x m = rw (ne_eqb x.rep from m)

relabels : (from : ℕ) (d : ℤ) (to : ℕ) (l : List Label) → Relabelled (length l) (placed l) (placed (map (relabel from d to) l)) from d to
unfolding placed
relabels from d to l = record {
  moved_block = λ {t} h e. ap (λ (x : Label). x.rep) (map_at (relabel from d to) l t h ∙ relabel_moved from d to (get_or l t unlabelled) e);
  moved_position = λ {t} h e. ap (λ (x : Label). x.off) (map_at (relabel from d to) l t h ∙ relabel_moved from d to (get_or l t unlabelled) e);
  kept_block = λ {t} h e. ap (λ (x : Label). x.rep) (map_at (relabel from d to) l t h ∙ relabel_kept from d to (get_or l t unlabelled) e);
  kept_position = λ {t} h e. ap (λ (x : Label). x.off) (map_at (relabel from d to) l t h ∙ relabel_kept from d to (get_or l t unlabelled) e);
}

pub link_relabels :
    (l : List Label) (a : ℕ) (z : ℤ) (b : ℕ) →
    Relabelled (length l) (placed l) (placed (link l a z b)) ((placed l).block a) (z +ℤ (placed l).position b -ℤ (placed l).position a) ((placed l).block b)
unfolding link
link_relabels l a z b = relabels ((placed l).block a) (z +ℤ (placed l).position b -ℤ (placed l).position a) ((placed l).block b) l

pub length_link : (l : List Label) (a : ℕ) (z : ℤ) (b : ℕ) → length (link l a z b) ≡ length l
unfolding link
length_link l a z b = length-map l _

-- a property of the outcome of a join, by its three cases
pub join_cases :
    (Q : List Label → Type 0) (l : List Label) (a : ℕ) (z : ℤ) (b : ℕ) →
    ((placed l).block b < (placed l).block a → Q (link l a z b)) →
    ((placed l).block a < (placed l).block b → Q (link l b (neg_ℤ z) a)) →
    ((placed l).block a ≡ (placed l).block b → Q l) →
    Q (join l a z b)
unfolding join
join_cases Q l a z b down rise same = first (ltb ((placed l).block b) ((placed l).block a)) refl
  where
    second : (x : Bool) → (placed l).block a ≤ (placed l).block b → ltb ((placed l).block a) ((placed l).block b) ≡ x → Q (choose x (link l b (neg_ℤ z) a) l)
    second true h e = rise (ltb-true _ _ e)
    second false h e = same (omega (arith, ltb-false ((placed l).block a) ((placed l).block b) e))

    first : (x : Bool) → ltb ((placed l).block b) ((placed l).block a) ≡ x → Q (choose x (link l a z b) (choose (ltb ((placed l).block a) ((placed l).block b)) (link l b (neg_ℤ z) a) l))
    first true e = down (ltb-true _ _ e)
    first false e = second (ltb ((placed l).block a) ((placed l).block b)) (ltb-false _ _ e) refl

pub length_join : (l : List Label) (a : ℕ) (z : ℤ) (b : ℕ) → length (join l a z b) ≡ length l
length_join l a z b = join_cases (λ m. length m ≡ length l) l a z b (λ h. length_link l a z b) (λ h. length_link l b (neg_ℤ z) a) (λ h. refl)

-- terms of one class stay in one class
pub join_keeps : (l : List Label) (a : ℕ) (z : ℤ) (b : ℕ) {t u : ℕ} → t < length l → u < length l → (placed l).block t ≡ (placed l).block u → (placed (join l a z b)).block t ≡ (placed (join l a z b)).block u
join_keeps l a z b {t} {u} ht hu e =
    join_cases (λ m. (placed m).block t ≡ (placed m).block u) l a z b
    (λ h. keeps_block (length l) (placed l) (placed (link l a z b)) _ _ _ (link_relabels l a z b) ht hu e)
    (λ h. keeps_block (length l) (placed l) (placed (link l b (neg_ℤ z) a)) _ _ _ (link_relabels l b (neg_ℤ z) a) ht hu e)
    (λ h. e)

-- the two terms joined are in one class
pub join_joins : (l : List Label) (a : ℕ) (z : ℤ) (b : ℕ) → a < length l → b < length l → (placed (join l a z b)).block a ≡ (placed (join l a z b)).block b
join_joins l a z b ha hb =
    join_cases (λ m. (placed m).block a ≡ (placed m).block b) l a z b
    (λ h. joins_block (length l) (placed l) (placed (link l a z b)) _ _ _ (link_relabels l a z b) ha hb (λ e. omega arith) refl refl)
    (λ h. sym (joins_block (length l) (placed l) (placed (link l b (neg_ℤ z) a)) _ _ _ (link_relabels l b (neg_ℤ z) a) hb ha (λ e. omega arith) refl refl))
    (λ h. h)

module _ (ts : List Term) (G : Given) (wf : WellFormed ts G) where
  module _ (l : List Label) (long : length l ≡ length ts) {a b : ℕ} {z : ℤ} (s : Step ts G (placed l) a z b) (S : State ts G (placed l)) where
    relabels_terms : (a : ℕ) (z : ℤ) (b : ℕ) → Relabelled (length ts) (placed l) (placed (link l a z b)) ((placed l).block a) (z +ℤ (placed l).position b -ℤ (placed l).position a) ((placed l).block b)
    relabels_terms a z b = rw long at (link_relabels l a z b)

    pub join_state : State ts G (placed (join l a z b))
    join_state =
        join_cases (λ m. State ts G (placed m)) l a z b
        (λ h. joined_state ts G wf (placed l) (placed (link l a z b)) s (relabels_terms a z b) h S)
        (λ h. joined_state ts G wf (placed l) (placed (link l b (neg_ℤ z) a)) (reversed s) (relabels_terms b (neg_ℤ z) a) h S)
        (λ h. S)

    pub join_spread : (W : ℕ) → Bounded W G → Spread W (length ts) (placed l) → Spread W (length ts) (placed (join l a z b))
    join_spread W B near =
        join_cases (λ m. Spread W (length ts) (placed m)) l a z b
        (λ h. joined_spread ts G wf (placed l) (placed (link l a z b)) s (relabels_terms a z b) h S W B near)
        (λ h. joined_spread ts G wf (placed l) (placed (link l b (neg_ℤ z) a)) (reversed s) (relabels_terms b (neg_ℤ z) a) h S W B near)
        (λ h. near)

  own_block : (t : ℕ) → t < length ts → (placed (own 0 (length ts))).block t ≡ t
  unfolding placed
  own_block t h = ap (λ (x : Label). x.rep) (own_at 0 (length ts) t h) ∙ omega arith

  own_position : (t : ℕ) → t < length ts → (placed (own 0 (length ts))).position t ≡ pos 0
  unfolding placed
  own_position t h = ap (λ (x : Label). x.off) (own_at 0 (length ts) t h)

  own_fresh : Fresh (length ts) (placed (own 0 (length ts)))
  own_fresh = record { block = own_block; position = own_position }

  pub own_state : State ts G (placed (own 0 (length ts)))
  own_state = fresh_state ts G (placed (own 0 (length ts))) own_fresh

  pub own_spread : (W : ℕ) → Spread W (length ts) (placed (own 0 (length ts)))
  own_spread W = fresh_spread W (length ts) (placed (own 0 (length ts))) own_fresh

relabel_at_most : (from : ℕ) (d : ℤ) (to : ℕ) → to < from → (x : Label) → (relabel from d to x).rep ≤ x.rep
relabel_at_most from d to h x =
    ⊎_elim
    (λ (e : x.rep ≡ from). rw (relabel_moved from d to x e) (omega arith))
    (λ (m : x.rep ≢ from). rw (relabel_kept from d to x m) (omega arith))
    (same_or_not x.rep from)

total_at_most : (from : ℕ) (d : ℤ) (to : ℕ) → to < from → (l : List Label) → total (map (relabel from d to) l) ≤ total l
unfolding total
total_at_most from d to h [] = omega arith
total_at_most from d to h (x ∷ l) = omega (arith, relabel_at_most from d to h x, total_at_most from d to h l)

total_less : (from : ℕ) (d : ℤ) (to : ℕ) → to < from → (l : List Label) (t : ℕ) → t < length l → (get_or l t unlabelled).rep ≡ from → total (map (relabel from d to) l) < total l
unfolding total
total_less from d to h [] t b e = absurd (omega arith)
total_less from d to h (x ∷ l) zero b e = omega (arith, ap (λ (y : Label). y.rep) (relabel_moved from d to x e), total_at_most from d to h l)
total_less from d to h (x ∷ l) (suc t) b e = omega (arith, relabel_at_most from d to h x, total_less from d to h l t (omega arith) e)

link_lowers : (l : List Label) (a : ℕ) (z : ℤ) (b : ℕ) → a < length l → (placed l).block b < (placed l).block a → total (link l a z b) < total l
unfolding link placed
link_lowers l a z b ha h = total_less ((placed l).block a) (z +ℤ (placed l).position b -ℤ (placed l).position a) ((placed l).block b) h l a ha refl

pub join_lowers : (l : List Label) (a : ℕ) (z : ℤ) (b : ℕ) → a < length l → b < length l → (placed l).block a ≢ (placed l).block b → total (join l a z b) < total l
join_lowers l a z b ha hb m =
    join_cases (λ k. total k < total l) l a z b
    (λ h. link_lowers l a z b ha h)
    (λ h. link_lowers l b (neg_ℤ z) a hb h)
    (λ h. absurd (m h))

-- the labelling's representatives and offsets as lists
pub rep_at : (l : List Label) (t : ℕ) → t < length l → get_or (map (λ x. x.rep) l) t 0 ≡ (placed l).block t
unfolding placed
rep_at l t h = item_map (λ (x : Label). x.rep) l t 0 (get_d_item l t unlabelled h)

pub off_at : (l : List Label) (t : ℕ) → t < length l → get_or (map (λ x. x.off) l) t (pos 0) ≡ (placed l).position t
unfolding placed
off_at l t h = item_map (λ (x : Label). x.off) l t (pos 0) (get_d_item l t unlabelled h)
