-- More given facts derive no less.
use Rattle.std.specs.Prelude.{ℕ, List, ℤ}
use Rattle.rules.specs.Terms.{Term, Given, WellFormed}
use Rattle.rules.specs.Rules.{Equal, E0, E1, E2, E3, E4, Apart, Contradiction}

-- each fact that G gives, H gives
pub record Sub (G H : Given) : Type 0 where
  pub equal : {t1 t2 : ℕ} {z : ℤ} → G.equal t1 z t2 → H.equal t1 z t2
  pub unequal : {t1 t2 : ℕ} {z : ℤ} → G.unequal t1 z t2 → H.unequal t1 z t2
  pub apart : {t1 t2 : ℕ} → G.apart t1 t2 → H.apart t1 t2

module _ (ts : List Term) (G H : Given) (S : Sub G H) where
  pub equal_more : {t1 t2 : ℕ} {z : ℤ} → Equal ts G t1 z t2 → Equal ts H t1 z t2
  equal_more (E0 g) = E0 (S.equal g)
  equal_more (E1 h) = E1 h
  equal_more (E2 e) = E2 (equal_more e)
  equal_more (E3 e f) = E3 (equal_more e) (equal_more f)
  equal_more (E4 e i j) = E4 (equal_more e) i j

  pub apart_more : {t1 t2 : ℕ} → Apart ts G t1 t2 → Apart ts H t1 t2
  apart_more (Apart.given g) = Apart.given (S.apart g)
  apart_more (Apart.symmetry a) = Apart.symmetry (apart_more a)
  apart_more (Apart.closure a e1 e2) = Apart.closure (apart_more a) (equal_more e1) (equal_more e2)

  pub contradiction_more : Contradiction ts G → Contradiction ts H
  contradiction_more (Contradiction.itself e n) = Contradiction.itself (equal_more e) n
  contradiction_more (Contradiction.disequality_equal g e) = Contradiction.disequality_equal (S.unequal g) (equal_more e)
  contradiction_more (Contradiction.apart_equal a e) = Contradiction.apart_equal (apart_more a) (equal_more e)

  pub well_formed_less : WellFormed ts H → WellFormed ts G
  well_formed_less wf = record {
    earlier = λ i. wf.earlier i;
    equal_listed = λ g. wf.equal_listed (S.equal g);
    unequal_listed = λ g. wf.unequal_listed (S.unequal g);
    apart_listed = λ g. wf.apart_listed (S.apart g);
  }
