-- Placements that agree on the terms below n: what is said of a labelling reads no other terms.
use Rattle.std.specs.Prelude.{ℕ, zero, suc, ◌<◌, ◌≡◌, refl, List, ◌++◌, ℤ, pos, length}
use Rattle.std.proofs.Common.{sym, ◌∙◌, arith}
use Rattle.std.proofs.Math.ListN.{get_or-append}
use Rattle.lists.specs.Items.{item_below}
use Rattle.rules.specs.Terms.{Term, Given, WellFormed}
use Rattle.rules.specs.Assignments.{Placement, Holds, Assignment}
use Rattle.labels.specs.Spread.{Spread, members}
use Rattle.labels.specs.Steps.{State}
use Rattle.labels.specs.View.{view}

-- Q is P on the terms below n
pub record AgreeBelow (n : ℕ) (P Q : Placement) : Type 0 where
  pub block : {t : ℕ} → t < n → Q.block t ≡ P.block t
  pub position : {t : ℕ} → t < n → Q.position t ≡ P.position t

-- columns with more cells behind those of the n terms
pub agree_front :
    {n : ℕ} (reps : List ℕ) (offs : List ℤ) (more-reps : List ℕ) (more-offs : List ℤ) →
    length reps ≡ n →
    length offs ≡ n →
    AgreeBelow n (view reps offs) (view (reps ++ more-reps) (offs ++ more-offs))
agree_front reps offs more-reps more-offs r o = record {
  block = λ {t} h. get_or-append reps more-reps 0 t (omega arith);
  position = λ {t} h. get_or-append offs more-offs (pos 0) t (omega arith);
}

agree_back : {n : ℕ} {P Q : Placement} → AgreeBelow n P Q → AgreeBelow n Q P
agree_back A = record { block = λ h. sym (A.block h); position = λ h. sym (A.position h) }

pub agree_holds : {n : ℕ} {P Q : Placement} {t u : ℕ} {z : ℤ} → AgreeBelow n P Q → t < n → u < n → Holds P t z u → Holds Q t z u
agree_holds A ht hu h = record {
  same_block = rw (A.block ht, A.block hu) h.same_block;
  at_offset = rw (A.position ht, A.position hu) h.at_offset;
}

pub agree_state : {ts : List Term} {G : Given} {P Q : Placement} → AgreeBelow (length ts) P Q → State ts G P → State ts G Q
agree_state A S = record {
  sound = λ t h. rw (A.block h, A.position h) (S.sound t h);
  lowest = λ t h. rw (A.block h) (S.lowest t h);
  rooted = record {
    below = λ {t} h. rw (A.block h) (S.rooted.below h);
    own = λ {t} h. rw (A.block h) (A.block (S.rooted.below h) ∙ S.rooted.own h);
    zero_offset = λ {t} h. rw (A.block h) (A.position (S.rooted.below h) ∙ S.rooted.zero_offset h);
  };
}

agree_members : (n : ℕ) {P Q : Placement} (r : ℕ) → AgreeBelow n P Q → members n Q r ≡ members n P r
unfolding members
agree_members zero r A = refl
agree_members (suc n) r A =
    let rest = agree_members n r (record { block = λ {t} h. A.block {t = t} (omega arith); position = λ {t} h. A.position {t = t} (omega arith) }) in
    rw (A.block {t = n} (omega arith), rest)

pub agree_spread : (W : ℕ) {n : ℕ} {P Q : Placement} → AgreeBelow n P Q → Spread W n P → Spread W n Q
agree_spread W {n} {P} {Q} A S t u ht hu e =
    rw (A.block ht, A.position ht, A.position hu, agree_members n (P.block t) A)
    (S t u ht hu (sym (A.block ht) ∙ e ∙ A.block hu))

pub agree_assignment : {ts : List Term} {G : Given} {P Q : Placement} → WellFormed ts G → AgreeBelow (length ts) P Q → Assignment ts G P → Assignment ts G Q
agree_assignment {ts} {G} {P} {Q} wf A M = record {
  respects = record {
    equal = λ g. let l = wf.equal_listed g in agree_holds A l.0 l.1 (M.respects.equal g);
    congruent = λ {t1} {t2} {d1} {d2} {z1} {z2} i j b e.
        let h1 = item_below ts d1 i in
        let h2 = item_below ts d2 j in
        let l1 : t1 < length ts = omega (arith, wf.earlier i) in
        let l2 : t2 < length ts = omega (arith, wf.earlier j) in
        agree_holds A h1 h2
        (M.respects.congruent i j (sym (A.block l1) ∙ b ∙ A.block l2) (rw (A.position l1, A.position l2) at e));
  };
  unequal = λ g h. let l = wf.unequal_listed g in M.unequal g (agree_holds (agree_back A) l.0 l.1 h);
  apart = λ g b. let l = wf.apart_listed g in M.apart g (sym (A.block l.0) ∙ b ∙ A.block l.1);
}
