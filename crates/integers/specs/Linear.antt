-- Linear arithmetic on whole numbers, by way of `omega`, which reads natural numbers alone.
-- A whole number z is `up z` less `dn z`. `linear` is `omega`'s set with the two laws between an equation of whole numbers and
-- one of natural numbers; `value e` says what the two parts of a sum, a difference or a negation are.
use Rattle.std.specs.Prelude.{ℕ, zero, suc, ◌+◌, ◌-◌, ◌<◌, ◌≤◌, ◌≡◌, refl, Bool, true, false, cond, ltb, ℤ, pos, negsuc, neg_ℤ, ◌+ℤ◌, ◌-ℤ◌}
use Rattle.std.proofs.Common.{ap, ◌∙◌, sym, arith, ltb→lt, nltb→le}
use Rattle.std.proofs.Math.IntN.{sub_ℕ}

unfoldable pub up : ℤ → ℕ
up (pos n) = n
up (negsuc n) = 0

unfoldable pub dn : ℤ → ℕ
dn (pos n) = 0
dn (negsuc n) = suc n

pub eq_parts : (a b : ℤ) → a ≡ b → up a + dn b ≡ up b + dn a
eq_parts a b e = cc

pub parts_eq : (a b : ℤ) → up a + dn b ≡ up b + dn a → a ≡ b
unfolding up dn
parts_eq (pos m) (pos n) h = ap pos (omega arith)
parts_eq (pos m) (negsuc n) h = absurd (omega arith)
parts_eq (negsuc m) (pos n) h = absurd (omega arith)
parts_eq (negsuc m) (negsuc n) h = ap negsuc (omega arith)

pub ruleset linear = (arith, eq_parts, parts_eq)

-- the parts of a − b, for two natural numbers
sub_ℕ_parts : (a b : ℕ) → up (sub_ℕ a b) + b ≡ dn (sub_ℕ a b) + a
unfolding up dn
sub_ℕ_parts a b = go (ltb a b) refl
  where
    go : (t : Bool) → ltb a b ≡ t → up (cond t (negsuc (b - suc a)) (pos (a - b))) + b ≡ dn (cond t (negsuc (b - suc a)) (pos (a - b))) + a
    go true e = let h : a < b = ltb→lt a b (rw e tt) in omega arith
    go false e = let h : b ≤ a = nltb→le a b (rw e tt) in omega arith

sum_parts : (a b : ℤ) → up (a +ℤ b) + (dn a + dn b) ≡ dn (a +ℤ b) + (up a + up b)
unfolding up dn
sum_parts (pos a) (pos b) = omega arith
sum_parts (pos a) (negsuc b) = omega (arith, sub_ℕ_parts a (suc b))
sum_parts (negsuc a) (pos b) = omega (arith, sub_ℕ_parts b (suc a))
sum_parts (negsuc a) (negsuc b) = omega arith

up_neg : (a : ℤ) → up (neg_ℤ a) ≡ dn a
unfolding up dn
up_neg (pos zero) = refl
up_neg (pos (suc n)) = refl
up_neg (negsuc n) = refl

dn_neg : (a : ℤ) → dn (neg_ℤ a) ≡ up a
unfolding up dn
dn_neg (pos zero) = refl
dn_neg (pos (suc n)) = refl
dn_neg (negsuc n) = refl

-- an expression over whole numbers ‹ z › and natural numbers # n, and its two parts as sums of its atoms' parts
pub data Expr : Type 0 where
  ‹◌› : ℤ → Expr
  #◌ : ℕ → Expr
  ◌⊕◌ : Expr → Expr → Expr
  ◌⊖◌ : Expr → Expr → Expr
  ⊝◌ : Expr → Expr

infixl 6 ◌⊕◌ ◌⊖◌
infix 7 ⊝◌ #◌
abbrev pub eval : Expr → ℤ
eval ‹ z › = z
eval (# n) = pos n
eval (a ⊕ b) = eval a +ℤ eval b
eval (a ⊖ b) = eval a -ℤ eval b
eval (⊝ a) = neg_ℤ (eval a)

abbrev mutual
  pub plus : Expr → ℕ
  plus ‹ z › = up z
  plus (# n) = n
  plus (a ⊕ b) = plus a + plus b
  plus (a ⊖ b) = plus a + minus b
  plus (⊝ a) = minus a

  pub minus : Expr → ℕ
  minus ‹ z › = dn z
  minus (# n) = 0
  minus (a ⊕ b) = minus a + minus b
  minus (a ⊖ b) = minus a + plus b
  minus (⊝ a) = plus a

pub value : (e : Expr) → up (eval e) + minus e ≡ dn (eval e) + plus e
unfolding up dn
value ‹ z › = omega arith
value (# n) = omega arith
value (a ⊕ b) = omega (arith, value a, value b, sum_parts (eval a) (eval b))
value (a ⊖ b) =
    omega (arith, value a, value b, sum_parts (eval a) (neg_ℤ (eval b)), up_neg (eval b), dn_neg (eval b))
value (⊝ a) = omega (arith, value a, up_neg (eval a), dn_neg (eval a))

-- the sets' use, on the equation between the offsets of two terms of one class
offsets_apart : (z1 o1 z2 o2 : ℤ) → z1 +ℤ o1 ≡ z2 +ℤ o2 → o1 -ℤ o2 ≡ z2 -ℤ z1
offsets_apart z1 o1 z2 o2 h =
    omega (linear, value (‹ z1 › ⊕ ‹ o1 ›), value (‹ z2 › ⊕ ‹ o2 ›), value (‹ o1 › ⊖ ‹ o2 ›), value (‹ z2 › ⊖ ‹ z1 ›))
