-- The first fault of a table: how a search finds it, and how two searches make one.
use Prim.Native.Nat.{ℕ, zero, suc, ◌+◌, ◌<◌, ◌≤◌}
use Rattle.std.proofs.Math.Path.{◌≡◌, refl}
use Rattle.std.proofs.Common.{sym, ap, ◌∙◌, below_none, below_more, le-leb}
use Rattle.std.specs.Prelude.{Bool, true, false, leb, Option as Maybe, Some, None, Result, Ok, Err, MatchResult}
use Rattle.std.proofs.Math.Option.{Option, none, some}
use native.Mathlib.Omega.{arith}
use Rattle.std.proofs.lemmas.Bool.{lt-leb}
use Rattle.lists.specs.Search.{choose}
use Rattle.types.specs.declared.Refusal.{Refusal}
use Rattle.tables.specs.Refusals.{Fault, fault, or_else, refuse_if, at_place, first_fault}
use Rattle.tables.specs.RefusalLaws.{all_none}
use Rattle.tables.specs.TableFaults.{acceptance}

-- what a test answers
abbrev pub Checked : Type 0
Checked = Result (Unit {0}) Fault

-- what the judgement of record k returns
abbrev pub judged : ℕ → Option Refusal → Checked
judged k o = acceptance (at_place k o none)

-- what judgements of the records 0..n, one after another, answer: the first fault, if there is one
pub record FirstOf (judges : ℕ → Checked → Type 0) (n : ℕ) (r : Checked) : Type 0 where
  pub found : MatchResult r (λ _. (i : ℕ) → i < n → judges i (Ok tt))
      (λ e. (i : ℕ) × (i < n) × judges i (Err e) × ((j : ℕ) → j < i → judges j (Ok tt)))

-- a fault's place
abbrev pub place_of : Option Fault → Maybe ℕ
place_of none = None
place_of (some f) = Some f.place

-- a fault's place, n where there is none
abbrev pub place_or : ℕ → Option Fault → ℕ
place_or n none = n
place_or n (some f) = f.place

-- the first i of n numbers have no fault
pub record Clear (f : ℕ → Option Refusal) (n i : ℕ) : Type 0 where
  pub within : i ≤ n
  pub clear : (j : ℕ) → j < i → f j ≡ none

-- what an answer says of the fault that it was made of
pub accepts : (o : Option Fault) {a : Checked} → a ≡ acceptance o → a ≡ Ok tt → o ≡ none
accepts none e h = refl
accepts (some f) e h = cc

pub passes_test : {a b : Checked} → a ≡ b → a ≡ Ok tt → Ok tt ≡ b
passes_test e h = sym h ∙ e

pub refuses : (o : Option Fault) {a : Checked} {x : Fault} → a ≡ acceptance o → a ≡ Err x → o ≡ some x
refuses none e h = cc
refuses (some f) e h = cc

judged_none : (k : ℕ) (o : Option Refusal) {a : Checked} → a ≡ judged k o → a ≡ Ok tt → o ≡ none
judged_none k none e h = refl
judged_none k (some r) e h = cc

-- one test before another: its refusal stands,
pub refused_first : (o p : Option Fault) {a : Checked} {x : Fault} → a ≡ acceptance o → a ≡ Err x → a ≡ acceptance (or_else o p)
refused_first o p e h = rw (refuses o e h) h

-- and where it accepts, the other decides
pub accepted_first : (o p : Option Fault) {a b : Checked} → a ≡ acceptance o → a ≡ Ok tt → b ≡ acceptance p → b ≡ acceptance (or_else o p)
accepted_first o p e h next = rw (accepts o e h) next

module _ (f : ℕ → Option Refusal) where
  first_at : (k n i : ℕ) {r : Refusal} → i < n → ((j : ℕ) → j < i → f (k + j) ≡ none) → f (k + i) ≡ some r → first_fault f k n ≡ fault r (k + i)
  unfolding first_fault
  first_at k zero i h before at = absurd (omega arith)
  first_at k (suc n) zero h before at = let s : k + 0 ≡ k = omega arith in let e : f k ≡ some _ = rw s at at in rw (s, e)
  first_at k (suc n) (suc i) h before at =
      let s : k + suc i ≡ suc k + i = omega arith in
      let z : k + 0 ≡ k = omega arith in
      let e : f k ≡ none = rw z at (before 0 (omega arith)) in
      rw (e, s)
      (first_at (suc k) n i (omega arith)
      (λ j l. let t : suc k + j ≡ k + suc j = omega arith in rw t (before (suc j) (omega arith)))
      (rw s at at))

  -- the fault at i, where none is before it
  pub first_found : (n i : ℕ) {r : Refusal} → i < n → Clear f n i → f i ≡ some r → first_fault f 0 n ≡ fault r i
  first_found n i {r} h before at =
      let z : 0 + i ≡ i = omega arith in
      rw z at (first_at 0 n i {r = r} h (λ j l. let t : 0 + j ≡ j = omega arith in rw t (before.clear j l)) (rw z at))

  pub first_clear : (n i : ℕ) → n ≤ i → Clear f n i → first_fault f 0 n ≡ none
  first_clear n i h before = all_none f n (λ k l. before.clear k (omega arith))

  -- A search of n records that judges one after the other starts with none judged.
  pub starts : (n : ℕ) → Clear f n 0
  starts n = record { within = omega arith; clear = below_none (λ j. f j ≡ none) }

  pub passes : {n i : ℕ} → i < n → Clear f n i → f i ≡ none → Clear f n (i + 1)
  passes {n} {i} h before e = record { within = omega arith; clear = below_more (λ j. f j ≡ none) i before.clear e }

  -- judgements by f find its first fault
  pub first_of : (judges : ℕ → Checked → Type 0) (n : ℕ) (r : Checked) → FirstOf judges n r → ((i : ℕ) (a : Checked) → i < n → judges i a → a ≡ judged i (f i)) → r ≡ acceptance (first_fault f 0 n)
  first_of judges n (Ok tt) F by =
      sym (ap acceptance (all_none f n (λ i h. judged_none i (f i) (by i (Ok tt) h (F.found i h)) refl)))
  first_of judges n (Err e) F by = let w = F.found in go (f w.0) refl (by w.0 (Err e) w.1 w.2)
    where
      before : Clear f n F.found.0
      before = record { within = omega arith; clear = λ j h. judged_none j (f j) (by j (Ok tt) (omega arith) (F.found.3 j h)) refl }

      go : (o : Option Refusal) → f F.found.0 ≡ o → Err e ≡ judged F.found.0 o → Err e ≡ acceptance (first_fault f 0 n)
      go none at t = cc
      go (some s) at t = t ∙ ap acceptance (sym (first_found n F.found.0 F.found.1 before at))

  -- A judgement that accepts lets it go on,
  pub goes_on : {n i : ℕ} {a : Checked} → i < n → Clear f n i → a ≡ judged i (f i) → a ≡ Ok tt → Clear f n (i + 1)
  goes_on {n} {i} h before e t = passes h before (judged_none i (f i) e t)

  -- one that refuses is its answer,
  pub stops : {n i : ℕ} {a : Checked} {x : Fault} → i < n → Clear f n i → a ≡ judged i (f i) → a ≡ Err x → a ≡ acceptance (first_fault f 0 n)
  stops {n} {i} {a} {x} h before = go (f i) refl
    where
      go : (o : Option Refusal) → f i ≡ o → a ≡ judged i o → a ≡ Err x → a ≡ acceptance (first_fault f 0 n)
      go none at e t = e ∙ cc
      go (some s) at e t = e ∙ ap acceptance (sym (first_found n i h before at))

  -- and it accepts after the last.
  pub ends : {n i : ℕ} → n ≤ i → Clear f n i → Ok tt ≡ acceptance (first_fault f 0 n)
  ends {n} {i} h before = sym (ap acceptance (first_clear n i h before))

  bounds : (k n : ℕ) {x : Fault} → first_fault f k n ≡ some x → (k ≤ x.place) × (x.place < k + n)
  unfolding first_fault
  bounds k zero e = let z : ◌≡◌ {A = ℕ} 0 1 = cc in absurd (omega arith)
  bounds k (suc n) {x} e = go (f k) e (bounds (suc k) n)
    where
      go :
          (o : Option Refusal) →
          at_place k o (first_fault f (suc k) n) ≡ some x →
          (first_fault f (suc k) n ≡ some x → (suc k ≤ x.place) × (x.place < suc k + n)) →
          (k ≤ x.place) × (x.place < k + suc n)
      go none e rest = let r = rest e in (omega arith, omega arith)
      go (some r) e rest = let h : k ≡ x.place = cc in (omega arith, omega arith)

module _ (f g : ℕ → Option Refusal) where
  ext_from : (k n : ℕ) → ((j : ℕ) → j < k + n → f j ≡ g j) → first_fault f k n ≡ first_fault g k n
  unfolding first_fault
  ext_from k zero same = refl
  ext_from k (suc n) same =
      let here = same k (omega arith) in
      let rest = ext_from (suc k) n (λ j h. same j (omega arith)) in
      rw (here, rest)

  -- faults that are the same at the first n numbers
  pub first_ext : (n : ℕ) → ((j : ℕ) → j < n → f j ≡ g j) → first_fault f 0 n ≡ first_fault g 0 n
  first_ext n same = ext_from 0 n (λ j h. same j (omega arith))

-- of two faults the one at the lower place; at one place the first
abbrev earlier : Option Fault → Option Fault → Option Fault
earlier none b = b
earlier (some a) none = some a
earlier (some a) (some b) = choose (leb a.place b.place) (some a) (some b)

earlier_left : (a : Fault) (b : Option Fault) → ((y : Fault) → b ≡ some y → a.place ≤ y.place) → earlier (some a) b ≡ some a
earlier_left a none h = refl
earlier_left a (some y) h = rw (le-leb a.place y.place (h _ refl))

earlier_right : (a : Option Fault) (b : Fault) → ((x : Fault) → a ≡ some x → b.place < x.place) → earlier a (some b) ≡ some b
earlier_right none b h = refl
earlier_right (some x) b h = rw (lt-leb x.place b.place (h _ refl))

earlier_none : (a : Option Fault) → earlier a none ≡ a
earlier_none none = refl
earlier_none (some x) = refl

-- the first fault where each record has the faults of f before those of g
first_both : (f g : ℕ → Option Refusal) (k n : ℕ) → first_fault (λ k. or_else (f k) (g k)) k n ≡ earlier (first_fault f k n) (first_fault g k n)
unfolding first_fault
first_both f g k zero = refl
first_both f g k (suc n) = step (f k) (g k) (first_both f g (suc k) n)
  where
    step :
        (a b : Option Refusal) →
        first_fault (λ k. or_else (f k) (g k)) (suc k) n ≡ earlier (first_fault f (suc k) n) (first_fault g (suc k) n) →
        at_place k (or_else a b) (first_fault (λ k. or_else (f k) (g k)) (suc k) n)
        ≡ earlier (at_place k a (first_fault f (suc k) n)) (at_place k b (first_fault g (suc k) n))
    step none none rest = rest
    step none (some s) rest = sym (earlier_right (first_fault f (suc k) n) _ (λ x e. (bounds f (suc k) n e).0))
    step (some r) none rest = sym (earlier_left _ (first_fault g (suc k) n) (λ y e. let h = bounds g (suc k) n e in omega arith))
    step (some r) (some s) rest = rw (le-leb k k (omega arith))

-- the fault of a search for one refusal
same_refusal : (p : ℕ → Bool) (r : Refusal) (k n : ℕ) {x : Fault} → first_fault (λ k. refuse_if (p k) r) k n ≡ some x → x.refusal ≡ r
unfolding first_fault
same_refusal p r k zero e = cc
same_refusal p r k (suc n) {x} e = go (p k) e (same_refusal p r (suc k) n)
  where
    go :
        (b : Bool) →
        at_place k (refuse_if b r) (first_fault (λ k. refuse_if (p k) r) (suc k) n) ≡ some x →
        (first_fault (λ k. refuse_if (p k) r) (suc k) n ≡ some x → x.refusal ≡ r) →
        x.refusal ≡ r
    go true e rest = cc
    go false e rest = rest e

-- What two searches of n records find together: f's first fault, and the place of the first record that p holds of.
module _ (f : ℕ → Option Refusal) (p : ℕ → Bool) (r : Refusal) (n : ℕ) where
  abbrev both : Option Fault
  both = first_fault (λ k. or_else (f k) (refuse_if (p k) r)) 0 n

  abbrev first : Option Fault
  first = first_fault f 0 n

  abbrev second : Option Fault
  second = first_fault (λ k. refuse_if (p k) r) 0 n

  together : earlier first second ≡ both
  together = sym (first_both f (λ k. refuse_if (p k) r) 0 n)

  -- without a record that p holds of the first fault of f is that of both
  pub no_second : {a : Checked} → a ≡ acceptance first → None ≡ place_of second → a ≡ acceptance both
  no_second {a} e h = go second h ∙ ap acceptance together
    where
      go : (b : Option Fault) → None ≡ place_of b → a ≡ acceptance (earlier first b)
      go none h = e ∙ ap acceptance (sym (earlier_none first))
      go (some y) h = cc

  -- a fault of f up to the place of that record stands,
  pub keeps_first : {a : Checked} {x : Fault} {place : ℕ} → a ≡ acceptance first → a ≡ Err x → Some place ≡ place_of second → x.place ≤ place → Err x ≡ acceptance both
  keeps_first {a} {x} {place} e t h below = go second h ∙ ap acceptance together
    where
      go : (b : Option Fault) → Some place ≡ place_of b → Err x ≡ acceptance (earlier first b)
      go none h = cc
      go (some y) h = let s : place ≡ y.place = cc in let l : x.place ≤ y.place = omega arith in rw (refuses first e t, le-leb x.place y.place l)

  pub takes_first : {a : Checked} {x : Fault} → a ≡ acceptance first → a ≡ Err x → x.place ≤ place_or n second → a ≡ acceptance both
  takes_first {a} {x} e t h = go second h ∙ ap acceptance together
    where
      go : (b : Option Fault) → x.place ≤ place_or n b → a ≡ acceptance (earlier first b)
      go none h = rw (refuses first e t) t
      go (some y) h = rw (refuses first e t, le-leb x.place y.place h) t

  -- f has no fault up to place k
  abbrev pub Later : ℕ → Type 0
  Later k = (x : Fault) → first ≡ some x → k < x.place

  pub later_clear : {a : Checked} {k : ℕ} → a ≡ acceptance first → a ≡ Ok tt → Later k
  later_clear e t x i = let j = accepts first e t in let z : ◌≡◌ {A = ℕ} 0 1 = cc in absurd (omega arith)

  pub later_fault : {a : Checked} {y : Fault} {k : ℕ} → a ≡ acceptance first → a ≡ Err y → k < y.place → Later k
  later_fault {y = y} {k = k} e t h x g = let j = refuses first e t in let s : y ≡ x = cc in rw s at h

  -- else that record's does
  pub keeps_second : {place : ℕ} → Later place → Some place ≡ place_of second → Err (record { refusal = r; place = place }) ≡ acceptance both
  keeps_second {place} later h = go second refl h ∙ ap acceptance together
    where
      go : (b : Option Fault) → second ≡ b → Some place ≡ place_of b → Err (record { refusal = r; place = place }) ≡ acceptance (earlier first b)
      go none i h = cc
      go (some y) i h =
          let s : place ≡ y.place = cc in
          let t = same_refusal p r 0 n i in
          rw (s, earlier_right first y (rw s at later), t)

  pub takes_second : Later (place_or n second) → place_or n second < n → Err (record { refusal = r; place = place_or n second }) ≡ acceptance both
  takes_second later h = go second refl later h ∙ ap acceptance together
    where
      go :
          (b : Option Fault) → second ≡ b → Later (place_or n b) → place_or n b < n → Err (record { refusal = r; place = place_or n b }) ≡ acceptance (earlier first b)
      go none i later h = absurd (omega arith)
      go (some y) i later h = let s = same_refusal p r 0 n i in rw (earlier_right first y later, s)

  pub takes_none : Later (place_or n second) → n ≤ place_or n second → Ok tt ≡ acceptance both
  takes_none later h = go first second refl refl later h ∙ ap acceptance together
    where
      go : (a b : Option Fault) → first ≡ a → second ≡ b → Later (place_or n b) → n ≤ place_or n b → Ok tt ≡ acceptance (earlier a b)
      go none none i j later h = refl
      go (some x) none i j later h = let g = bounds f 0 n i in let t = later x i in absurd (omega arith)
      go a (some y) i j later h = let g = bounds (λ k. refuse_if (p k) r) 0 n j in absurd (omega arith)
