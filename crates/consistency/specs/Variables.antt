-- The variables of a table of terms by their classes: which classes have one, and that none has two.
use Rattle.std.specs.Prelude.{ℕ, zero, suc, ◌+◌, ◌<◌, ◌≤◌, ◌≡◌, refl, ◌≢◌, Bool, true, false, List, length, get_or, set, replicate}
use Rattle.std.proofs.Common.{sym, ◌∙◌, ⊎_elim, arith, length-set, get_or-set_same, get_or-set_other}
use Rattle.std.proofs.lemmas.List.{length-replicate}
use Rattle.labels.specs.Relabel.{same_or_not}
use Rattle.tables.specs.Limits.{most}
use Rattle.tables.specs.Records.{TermRecord, variable_kind}
use Rattle.consistency.specs.Deciding.{Meets, meet, none_meet}

zeros : (n c : ℕ) → get_or (replicate n false) c false ≡ false
zeros zero c = refl
zeros (suc n) zero = refl
zeros (suc n) (suc c) = zeros n c

module _ (n : ℕ) (rec : ℕ → TermRecord) (reps : List ℕ) where
  -- a variable below t in class c
  pub record VariableIn (t c : ℕ) : Type 0 where
    pub term : ℕ
    pub below : term < t
    pub variable : (rec term).kind ≡ variable_kind
    pub class : get_or reps term 0 ≡ c

  -- a class is seen if a variable below t is in it, and only then; no two of them are in one
  pub record Seen (seen : List Bool) (t : ℕ) : Type 0 where
    pub within : t ≤ n
    pub long : length seen ≡ most
    pub noted : (c : ℕ) → get_or seen c false ≡ true → VariableIn t c
    pub note : {i : ℕ} → i < t → (rec i).kind ≡ variable_kind → get_or seen (get_or reps i 0) false ≡ true
    pub alone : (i j : ℕ) → i < t → j < i → (rec i).kind ≡ variable_kind → (rec j).kind ≡ variable_kind → get_or reps i 0 ≡ get_or reps j 0 → ⊥

  later : {t c : ℕ} → VariableIn t c → VariableIn (t + 1) c
  later v = record { term = v.term; below = omega (arith, v.below); variable = v.variable; class = v.class }

  pub seen_start : Seen (replicate most false) 0
  seen_start = record {
    within = omega arith;
    long = length-replicate {A = Bool} most false;
    noted = λ c m. let z = zeros most c in cc;
    note = λ b. absurd (omega arith);
    alone = λ i j b. absurd (omega arith);
  }

  -- a term that is no variable
  pub seen_other : {seen : List Bool} {t : ℕ} → t < n → (rec t).kind ≢ variable_kind → Seen seen t → Seen seen (t + 1)
  seen_other {seen} {t} h m S = record {
    within = omega arith;
    long = S.long;
    noted = λ c s. later (S.noted c s);
    note = λ {i} b v. S.note (earlier i b v) v;
    alone = λ i j b l v. S.alone i j (earlier i b v) l v;
  }
    where
      earlier : (i : ℕ) → i < t + 1 → (rec i).kind ≡ variable_kind → i < t
      earlier i b v = ⊎_elim (λ (e : i ≡ t). absurd (m (rw e at v))) (λ (d : i ≢ t). omega arith) (same_or_not i t)

  module _ {seen : List Bool} {t c : ℕ} (h : t < n) (v : (rec t).kind ≡ variable_kind) (e : c ≡ get_or reps t 0) where
    -- a variable in a class that is not seen
    pub seen_variable : c < most → get_or seen c false ≡ false → Seen seen t → Seen (set seen c true) (t + 1)
    seen_variable few z S = record {
      within = omega arith;
      long = length-set seen c true ∙ S.long;
      noted = noted;
      note = note;
      alone = λ i j b l vi vj s. ⊎_elim
          (λ (f : i ≡ t). let k = S.note {i = j} (omega arith) vj in let w : get_or seen (get_or reps j 0) false ≡ false = rw (← s, f, ← e) z in cc)
          (λ (d : i ≢ t). S.alone i j (omega arith) l vi vj s)
          (same_or_not i t);
    }
      where
        here : get_or (set seen c true) c false ≡ true
        here = get_or-set_same seen c true false (omega (arith, S.long))

        noted : (d : ℕ) → get_or (set seen c true) d false ≡ true → VariableIn (t + 1) d
        noted d m =
            ⊎_elim
            (λ (f : d ≡ c). record { term = t; below = omega arith; variable = v; class = sym (f ∙ e) })
            (λ (f : d ≢ c). later (S.noted d (sym (get_or-set_other seen c d true false f) ∙ m)))
            (same_or_not d c)

        note : {i : ℕ} → i < t + 1 → (rec i).kind ≡ variable_kind → get_or (set seen c true) (get_or reps i 0) false ≡ true
        note {i} b w =
            ⊎_elim
            (λ (f : get_or reps i 0 ≡ c). rw f here)
            (λ (f : get_or reps i 0 ≢ c).
            let l : i < t = ⊎_elim (λ (s : i ≡ t). absurd (f (rw s (sym e)))) (λ (d : i ≢ t). omega arith) (same_or_not i t) in
            get_or-set_other seen c (get_or reps i 0) true false f ∙ S.note l w)
            (same_or_not (get_or reps i 0) c)

    -- and in one that is
    pub seen_meets : get_or seen c false ≡ true → Seen seen t → Meets n rec reps true
    seen_meets m S = let w = S.noted c m in meet h w.below v w.variable (sym (w.class ∙ e))

  pub seen_all : {seen : List Bool} {t : ℕ} → n ≤ t → Seen seen t → Meets n rec reps false
  seen_all {seen} {t} h S = none_meet (λ i j b. S.alone i j (omega arith))
