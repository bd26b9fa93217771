-- Labellings as lists, and the join of two classes.
use Rattle.std.specs.Prelude.{ℕ, zero, suc, ◌+◌, List, [], ◌∷◌, map, eqb, ltb, ℤ, pos, neg_ℤ, ◌+ℤ◌, ◌-ℤ◌, get_or}
use Rattle.lists.specs.Search.{choose}
use Rattle.rules.specs.Assignments.{Placement}

-- a term's representative and its offset from it
pub record Label : Type 0 where
  pub rep : ℕ
  pub off : ℤ

abbrev pub unlabelled : Label
unlabelled = record { rep = 0; off = pos 0 }

-- the labelling of a list, by the terms' numbers
unfoldable pub placed : List Label → Placement
placed l = record { block = λ t. (get_or l t unlabelled).rep; position = λ t. (get_or l t unlabelled).off }

-- each of n terms its own representative, the first one's number being t
unfoldable pub own : ℕ → ℕ → List Label
own t zero = []
own t (suc n) = record { rep = t; off = pos 0 } ∷ own (suc t) n

-- the label of a member of the class of `from`, moved to `to`, where `from` is d + `to`
abbrev pub relabel : ℕ → ℤ → ℕ → Label → Label
relabel from d to x = choose (eqb x.rep from) (record { rep = to; off = x.off +ℤ d }) x

-- a = z + b, where b's representative has the lower number
unfoldable pub link : List Label → ℕ → ℤ → ℕ → List Label
link l a z b =
    let P = placed l in
    map (relabel (P.block a) (z +ℤ P.position b -ℤ P.position a) (P.block b)) l

-- a = z + b: the class of the higher representative goes to the lower; within one class nothing changes
unfoldable pub join : List Label → ℕ → ℤ → ℕ → List Label
join l a z b =
    let P = placed l in
    choose (ltb (P.block b) (P.block a)) (link l a z b)
    (choose (ltb (P.block a) (P.block b)) (link l b (neg_ℤ z) a) l)

-- the sum of the representatives' numbers, which a join of two classes lowers
unfoldable pub total : List Label → ℕ
total [] = 0
total (x ∷ l) = x.rep + total l
