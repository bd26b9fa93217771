-- Records that stand for something, and offsets in range.
use Rattle.std.specs.Prelude.{ℕ, ◌≢◌, ◌+◌, ◌-◌, ◌<◌, ◌≤◌, ◌≡◌, refl, Bool, true, false, ◌&&◌, ◌||◌, ℤ, pos, negsuc, eqb, ltb, cond}
use Rattle.std.proofs.Common.{sym, arith, eq-eqb, ne_eqb, lt-ltb, le-ltb, ltb-true, ltb-false}
use Rattle.std.proofs.lemmas.Bool.{eqb-false}
use Rattle.std.proofs.Math.Option.{Option, none, some}
use Rattle.std.proofs.Math.Dec.{leb-suc-suc}
use Rattle.std.specs.Int.Signed.{lt_z, le_z}
use Rattle.std.specs.Ordering.{int_cmp, is_le, is_lt}
use Rattle.std.specs.declared.cmp.Ordering.TheVariants.{Less, Equal, Greater}
use Rattle.integers.specs.Compare.{eq_ℤ}
use Rattle.lists.specs.Search.{choose, is_some}
use Rattle.types.specs.declared.Refusal.{Refusal}
use Rattle.types.specs.declared.Refusal.TheVariants.{Malformed}
use Rattle.rules.specs.Terms.{Comparison}
use Rattle.tables.specs.Limits.{offset_limit}
use Rattle.tables.specs.Records.{TermRecord, PropositionRecord, variable_kind, auxiliary_kind, deref_kind, equality_kind, disequality_kind, block_disequality_kind}
use Rattle.tables.specs.Records.{when, offset_in_range, atom_record, term_of, proposition_of, question_of}
use Rattle.tables.specs.Refusals.{or_else, malformed}

and_true : (b : Bool) → (b && true) ≡ b
and_true true = refl
and_true false = refl

-- an offset's range by two tests
pub range_tests : (z : ℤ) → (lt_z z (pos offset_limit) && le_z (negsuc (offset_limit - 1)) z) ≡ offset_in_range z
unfolding offset_in_range
range_tests (pos n) = and_true (lt_z (pos n) (pos offset_limit))
range_tests (negsuc n) = sym (leb-suc-suc n (offset_limit - 1))

is_less : (a b : Bool) → is_lt (cond a Less (cond b Greater Equal)) ≡ a
is_less true b = refl
is_less false true = refl
is_less false false = refl

-- an offset's range, as a range of numbers
pub range_holds : (z : ℤ) → (is_le (int_cmp (negsuc (offset_limit - 1)) z) && is_lt (int_cmp z (pos offset_limit))) ≡ offset_in_range z
unfolding offset_in_range
range_holds (pos n) = is_less (ltb n offset_limit) (ltb offset_limit n)
range_holds (negsuc n) = go (ltb n (offset_limit - 1)) refl (ltb (offset_limit - 1) n) refl
  where
    go : (a : Bool) → ltb n (offset_limit - 1) ≡ a → (b : Bool) → ltb (offset_limit - 1) n ≡ b → (is_le (cond a Less (cond b Greater Equal)) && true) ≡ ltb n offset_limit
    go true e b f = sym (lt-ltb n offset_limit (omega (arith, ltb-true n (offset_limit - 1) e)))
    go false e true f = sym (le-ltb n offset_limit (omega (arith, ltb-true (offset_limit - 1) n f)))
    go false e false f = sym (lt-ltb n offset_limit (omega (arith, ltb-false (offset_limit - 1) n f)))

is_some_when : {A : Type 0} (b : Bool) (a : A) → is_some (when b a) ≡ b
is_some_when true a = refl
is_some_when false a = refl

-- records of two kinds that stand for something by one test
two_kinds : {A : Type 0} (k a : ℕ) (t : Bool) (x y : A) (rest : Option A) → a ≤ k → k < a + 2 → t ≡ is_some (choose (eqb k a) (when t x) (choose (eqb k (a + 1)) (when t y) rest))
two_kinds k a t x y rest h l = go (eqb k a) refl
  where
    go : (b : Bool) → eqb k a ≡ b → t ≡ is_some (choose b (when t x) (choose (eqb k (a + 1)) (when t y) rest))
    go true e = sym (is_some_when t x)
    go false e =
        let n : k ≡ a → ⊥ = eqb-false k a e in
        let s : k ≡ a + 1 = omega arith in
        rw (eq-eqb k (a + 1) s) (sym (is_some_when t y))

pub is_question : (q : Comparison) → is_some (question_of q) ≡ offset_in_range q.offset
unfolding question_of
is_question q = is_some_when (offset_in_range q.offset) q

-- Whether a record stands for something: records of two kinds by the same test, those of a third by another.
by_kind : {A : Type 0} (a b t d : Bool) (x y z : A) → choose (a || b) t d ≡ is_some (choose a (when t x) (choose b (when t y) (when d z)))
by_kind true b t d x y z = sym (is_some_when t x)
by_kind false true t d x y z = sym (is_some_when t y)
by_kind false false t d x y z = sym (is_some_when d z)

-- which records stand for a term or a proposition, by whether they are of the first two kinds
pub is_term_lem :
    (r : TermRecord) (atom : Bool) →
    (eqb r.kind variable_kind || eqb r.kind auxiliary_kind) ≡ atom →
    choose atom (atom_record r) (eqb r.kind deref_kind && offset_in_range r.offset) ≡ is_some (term_of r)
unfolding term_of
is_term_lem r atom e =
    rw (← e)
    (by_kind (eqb r.kind variable_kind) (eqb r.kind auxiliary_kind) (atom_record r) (eqb r.kind deref_kind && offset_in_range r.offset) _ _ _)

pub is_proposition_lem :
    (p : PropositionRecord) (compares : Bool) →
    (eqb p.kind equality_kind || eqb p.kind disequality_kind) ≡ compares →
    choose compares (offset_in_range p.offset) (eqb p.kind block_disequality_kind && eq_ℤ p.offset (pos 0)) ≡ is_some (proposition_of p)
unfolding proposition_of
is_proposition_lem p compares e =
    rw (← e)
    (by_kind (eqb p.kind equality_kind) (eqb p.kind disequality_kind) (offset_in_range p.offset) (eqb p.kind block_disequality_kind && eq_ℤ p.offset (pos 0)) _ _ _)

-- the same, by their kind
module _ (r : TermRecord) where
  pub is_atom_lem : 1 ≤ r.kind → r.kind < 3 → atom_record r ≡ is_some (term_of r)
  unfolding term_of
  is_atom_lem h l = two_kinds r.kind variable_kind (atom_record r) _ _ _ h l

  pub is_deref_lem : r.kind ≡ deref_kind → offset_in_range r.offset ≡ is_some (term_of r)
  unfolding term_of
  is_deref_lem e = rw e (sym (is_some_when (offset_in_range r.offset) _))

  pub no_term_lem : r.kind ≢ variable_kind → r.kind ≢ auxiliary_kind → r.kind ≢ deref_kind → false ≡ is_some (term_of r)
  unfolding term_of
  no_term_lem v a d = rw (ne_eqb r.kind variable_kind v, ne_eqb r.kind auxiliary_kind a, ne_eqb r.kind deref_kind d)

module _ (p : PropositionRecord) where
  pub is_comparison_lem : equality_kind ≤ p.kind → p.kind < block_disequality_kind → offset_in_range p.offset ≡ is_some (proposition_of p)
  unfolding proposition_of
  is_comparison_lem h l = two_kinds p.kind equality_kind (offset_in_range p.offset) _ _ _ h l

  pub is_block_lem : p.kind ≡ block_disequality_kind → eq_ℤ p.offset (pos 0) ≡ is_some (proposition_of p)
  unfolding proposition_of
  is_block_lem e = rw e (sym (is_some_when (eq_ℤ p.offset (pos 0)) _))

  pub no_proposition_lem : p.kind ≢ equality_kind → p.kind ≢ disequality_kind → p.kind ≢ block_disequality_kind → false ≡ is_some (proposition_of p)
  unfolding proposition_of
  no_proposition_lem a b c = rw (ne_eqb p.kind equality_kind a, ne_eqb p.kind disequality_kind b, ne_eqb p.kind block_disequality_kind c)

-- a record's fault: 9, if it stands for nothing, or else that of its names
pub not_formed : {A : Type 0} (o : Option A) (f : Option Refusal) → is_some o ≡ false → or_else (malformed o) f ≡ some Malformed
not_formed none f e = refl
not_formed (some a) f e = cc

pub formed : {A : Type 0} (o : Option A) (f : Option Refusal) → is_some o ≡ true → or_else (malformed o) f ≡ f
formed none f e = cc
formed (some a) f e = refl
