-- Laws of specs/Stands.
use Rattle.std.specs.Prelude.{◌<◌, ◌≤◌, ◌≡◌, refl, Bool, true, false, ◌&&◌, eqb, ltb, ℤ, pos, negsuc}
use Rattle.std.proofs.Common.{arith, SFits, eqb-true, ltb-true}
use Rattle.std.proofs.Math.Option.{some}
use Rattle.std.specs.Int.{w32}
use Rattle.offsets.specs.Fits.{fits_within}
use Rattle.integers.specs.Compare.{eq_ℤ, eq_ℤ_true}
use Rattle.lists.specs.Search.{choose}
use Rattle.rules.specs.Terms.{Term, variable, auxiliary, deref, Proposition, equality, disequality, block_disequality}
use Rattle.integers.specs.Within.{Within}
use Rattle.lists.specs.Booleans.{and_true}
use Rattle.tables.specs.Limits.{atom_limit, offset_limit}
use Rattle.tables.specs.Records.{TermRecord, PropositionRecord, variable_kind, auxiliary_kind, deref_kind, equality_kind, disequality_kind, block_disequality_kind, when, atom_record, offset_in_range, term_of, proposition_of}
use Rattle.tables.specs.Stands.{kind_of, number_of, offset_of, StandsFor, proposition_kind_of, left_of, proposition_offset_of, right_of, Asserts}

pub when_some : {A : Type 0} (b : Bool) (a x : A) → when b a ≡ some x → (b ≡ true) × (a ≡ x)
when_some true a x e = (refl, cc)
when_some false a x e = (cc, cc)

-- an offset in range fits 32 bits
pub range_fits : (z : ℤ) → offset_in_range z ≡ true → SFits w32 z
unfolding offset_in_range
range_fits (pos n) e = record { sfits = ltb-true n offset_limit e }
range_fits (negsuc n) e = record { sfits = ltb-true n offset_limit e }

pub in_range_lem : (z : ℤ) → offset_in_range z ≡ true → Within offset_limit z
in_range_lem z e = fits_within (range_fits z e)

zero_fits : (z : ℤ) → z ≡ pos 0 → SFits w32 z
zero_fits z e = rw e (record { sfits = omega arith })

atom_offset : (r : TermRecord) → atom_record r ≡ true → r.offset ≡ pos 0
unfolding atom_record
atom_offset r e = eq_ℤ_true _ _ (and_true (ltb r.number atom_limit) (eq_ℤ r.offset (pos 0)) e).1

atom_number : (r : TermRecord) → atom_record r ≡ true → r.number < atom_limit
unfolding atom_record
atom_number r e = ltb-true _ _ (and_true (ltb r.number atom_limit) (eq_ℤ r.offset (pos 0)) e).0

pub stands_for : (r : TermRecord) (x : Term) → term_of r ≡ some x → StandsFor r x
unfolding term_of
stands_for r x = go (eqb r.kind variable_kind) refl (eqb r.kind auxiliary_kind) refl
  where
    go :
        (a : Bool) →
        eqb r.kind variable_kind ≡ a →
        (b : Bool) →
        eqb r.kind auxiliary_kind ≡ b →
        choose a (when (atom_record r) (variable r.number))
        (choose b (when (atom_record r) (auxiliary r.number))
        (when (eqb r.kind deref_kind && offset_in_range r.offset) (deref r.offset r.number)))
        ≡ some x →
        StandsFor r x
    go true k b l e =
        let s = when_some (atom_record r) (variable r.number) x e in
        rw (← s.1) (record { kind = eqb-true _ _ k; number = refl; offset = atom_offset r s.0; atom = λ m. atom_number r s.0; fits = zero_fits r.offset (atom_offset r s.0) })
    go false k true l e =
        let s = when_some (atom_record r) (auxiliary r.number) x e in
        rw (← s.1) (record { kind = eqb-true _ _ l; number = refl; offset = atom_offset r s.0; atom = λ m. atom_number r s.0; fits = zero_fits r.offset (atom_offset r s.0) })
    go false k false l e =
        let s = when_some (eqb r.kind deref_kind && offset_in_range r.offset) (deref r.offset r.number) x e in
        let t = and_true (eqb r.kind deref_kind) (offset_in_range r.offset) s.0 in
        let d = eqb-true r.kind deref_kind t.0 in
        rw (← s.1) (record { kind = d; number = refl; offset = refl; atom = λ m. absurd (m d); fits = range_fits r.offset t.1 })

-- the offset of a well-formed dereference is within the limit
pub deref_within : (r : TermRecord) (x : Term) → term_of r ≡ some x → r.kind ≡ deref_kind → Within offset_limit r.offset
deref_within r x e k = fits_within (stands_for r x e).fits

pub kind_at_most : (x : Term) → kind_of x ≤ deref_kind
kind_at_most (variable x) = omega arith
kind_at_most (auxiliary x) = omega arith
kind_at_most (deref z t) = omega arith

-- a term is told by its kind
pub deref_by_kind : (x : Term) → kind_of x ≡ deref_kind → x ≡ deref (offset_of x) (number_of x)
deref_by_kind (variable x) e = absurd (omega arith)
deref_by_kind (auxiliary x) e = absurd (omega arith)
deref_by_kind (deref z t) e = refl

pub variable_by_kind : (x : Term) → kind_of x ≡ variable_kind → x ≡ variable (number_of x)
variable_by_kind (variable x) e = refl
variable_by_kind (auxiliary x) e = absurd (omega arith)
variable_by_kind (deref z t) e = absurd (omega arith)

pub asserts : (p : PropositionRecord) (x : Proposition) → proposition_of p ≡ some x → Asserts p x
unfolding proposition_of
asserts p x = go (eqb p.kind equality_kind) refl (eqb p.kind disequality_kind) refl
  where
    go :
        (a : Bool) →
        eqb p.kind equality_kind ≡ a →
        (b : Bool) →
        eqb p.kind disequality_kind ≡ b →
        choose a (when (offset_in_range p.offset) (equality p.left p.offset p.right))
        (choose b (when (offset_in_range p.offset) (disequality p.left p.offset p.right))
        (when (eqb p.kind block_disequality_kind && eq_ℤ p.offset (pos 0)) (block_disequality p.left p.right)))
        ≡ some x →
        Asserts p x
    go true k b l e =
        let s = when_some (offset_in_range p.offset) (equality p.left p.offset p.right) x e in
        rw (← s.1) (record { kind = eqb-true _ _ k; left = refl; offset = refl; right = refl; within = in_range_lem p.offset s.0; fits = range_fits p.offset s.0 })
    go false k true l e =
        let s = when_some (offset_in_range p.offset) (disequality p.left p.offset p.right) x e in
        rw (← s.1) (record { kind = eqb-true _ _ l; left = refl; offset = refl; right = refl; within = in_range_lem p.offset s.0; fits = range_fits p.offset s.0 })
    go false k false l e =
        let s = when_some (eqb p.kind block_disequality_kind && eq_ℤ p.offset (pos 0)) (block_disequality p.left p.right) x e in
        let t = and_true (eqb p.kind block_disequality_kind) (eq_ℤ p.offset (pos 0)) s.0 in
        let z = eq_ℤ_true p.offset (pos 0) t.1 in
        rw (← s.1) (record { kind = eqb-true _ _ t.0; left = refl; offset = z; right = refl; within = fits_within (zero_fits p.offset z); fits = zero_fits p.offset z })

pub proposition_kind_at_most : (x : Proposition) → proposition_kind_of x ≤ block_disequality_kind
proposition_kind_at_most (equality t1 z t2) = omega arith
proposition_kind_at_most (disequality t1 z t2) = omega arith
proposition_kind_at_most (block_disequality t1 t2) = omega arith

-- a proposition is told by its kind
pub equality_by_kind : (x : Proposition) → proposition_kind_of x ≡ equality_kind → x ≡ equality (left_of x) (proposition_offset_of x) (right_of x)
equality_by_kind (equality t1 z t2) e = refl
equality_by_kind (disequality t1 z t2) e = absurd (omega arith)
equality_by_kind (block_disequality t1 t2) e = absurd (omega arith)

pub disequality_by_kind : (x : Proposition) → proposition_kind_of x ≡ disequality_kind → x ≡ disequality (left_of x) (proposition_offset_of x) (right_of x)
disequality_by_kind (equality t1 z t2) e = absurd (omega arith)
disequality_by_kind (disequality t1 z t2) e = refl
disequality_by_kind (block_disequality t1 t2) e = absurd (omega arith)

pub block_by_kind : (x : Proposition) → proposition_kind_of x ≡ block_disequality_kind → x ≡ block_disequality (left_of x) (right_of x)
block_by_kind (equality t1 z t2) e = absurd (omega arith)
block_by_kind (disequality t1 z t2) e = absurd (omega arith)
block_by_kind (block_disequality t1 t2) e = refl
