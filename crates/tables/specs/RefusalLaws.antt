-- Laws of refusals: nothing is refused where every test passes.
use Rattle.std.specs.Prelude.{ℕ, zero, suc, ◌+◌, ◌<◌, ◌≡◌, refl, Bool, true, false}
use Rattle.std.proofs.Math.Option.{Option, none, some}
use Rattle.std.proofs.Common.{arith}
use Rattle.types.specs.declared.Refusal.{Refusal}
use Rattle.tables.specs.Refusals.{Fault, or_else, refuse_if, fault_if, malformed, at_place, first_fault}

pub or_else_none {ℓ} : {A : Type ℓ} (a b : Option A) → or_else a b ≡ none → (a ≡ none) × (b ≡ none)
or_else_none none b e = (refl, e)
or_else_none (some x) b e = (e, cc)

pub refuse_if_none : (b : Bool) (r : Refusal) → refuse_if b r ≡ none → b ≡ false
refuse_if_none true r e = cc
refuse_if_none false r e = refl

pub fault_if_none : (b : Bool) (r : Refusal) (k : ℕ) → fault_if b r k ≡ none → b ≡ false
fault_if_none true r k e = cc
fault_if_none false r k e = refl

pub malformed_none : {A : Type 0} (o : Option A) → malformed o ≡ none → (a : A) × (o ≡ some a)
malformed_none none e = let z : ◌≡◌ {A = ℕ} 0 1 = cc in absurd (omega arith)
malformed_none (some a) e = (a, refl)

at_place_none : (k : ℕ) (o : Option Refusal) (rest : Option Fault) → at_place k o rest ≡ none → (o ≡ none) × (rest ≡ none)
at_place_none k none rest e = (refl, e)
at_place_none k (some r) rest e = (cc, cc)

-- no fault at any of the numbers
pub first_fault_none : (f : ℕ → Option Refusal) (k n : ℕ) → first_fault f k n ≡ none → (i : ℕ) → i < n → f (k + i) ≡ none
unfolding first_fault
first_fault_none f k zero e i h = absurd (omega arith)
first_fault_none f k (suc n) e zero h = let s : k + 0 ≡ k = omega arith in rw s (at_place_none k (f k) (first_fault f (suc k) n) e).0
first_fault_none f k (suc n) e (suc i) h =
    let s : k + suc i ≡ suc k + i = omega arith in
    rw s (first_fault_none f (suc k) n (at_place_none k (f k) (first_fault f (suc k) n) e).1 i (omega arith))

pub none_at : (f : ℕ → Option Refusal) (n : ℕ) → first_fault f 0 n ≡ none → (k : ℕ) → k < n → f k ≡ none
none_at f n e k h = let s : 0 + k ≡ k = omega arith in rw s at (first_fault_none f 0 n e k h)

pub both_none {ℓ} : {A : Type ℓ} (a b : Option A) → a ≡ none → b ≡ none → or_else a b ≡ none
both_none none b e f = f
both_none (some x) b e f = e

pub not_faulty : (b : Bool) (r : Refusal) (k : ℕ) → b ≡ false → fault_if b r k ≡ none
not_faulty b r k e = rw e

none_first_fault : (f : ℕ → Option Refusal) (k n : ℕ) → ((i : ℕ) → i < n → f (k + i) ≡ none) → first_fault f k n ≡ none
unfolding first_fault
none_first_fault f k zero h = refl
none_first_fault f k (suc n) h =
    let s : k + 0 ≡ k = omega arith in
    let here : f k ≡ none = rw s at (h 0 (omega arith)) in
    rw here (none_first_fault f (suc k) n (λ i b. let t : suc k + i ≡ k + suc i = omega arith in rw t (h (suc i) (omega arith))))

pub all_none : (f : ℕ → Option Refusal) (n : ℕ) → ((k : ℕ) → k < n → f k ≡ none) → first_fault f 0 n ≡ none
all_none f n h = none_first_fault f 0 n (λ i b. let s : 0 + i ≡ i = omega arith in rw s (h i b))
