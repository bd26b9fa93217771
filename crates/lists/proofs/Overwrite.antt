-- Laws of specs/Overwrite.
use Rattle.std.specs.Prelude.{ℕ, suc, ◌+◌, ◌<◌, ◌≤◌, ◌≡◌, List, [], ◌∷◌, ◌++◌, length, get_or, take, drop, set}
use Rattle.std.proofs.Common.{◌∙◌, sym, append-nil, arith, add-one, length-append, length-drop, get_or-append-add, get_or-drop, drop-cons, take-suc, length-take-le}
use Rattle.std.proofs.Math.ListN.{get_or-append}
use Rattle.std.proofs.Math.Seq.{drop-length, take-append_seam, drop-append_seam, append_snoc}
use Rattle.std.proofs.lemmas.List.{set_at}
use Rattle.lists.specs.Overwrite.{overwrite, Keeps}

module _ {A : Type 0} (new old : List A) where
  pub length_overwrite : length new ≤ length old → length (overwrite new old) ≡ length old
  length_overwrite h = length-append new (drop (length new) old) ∙ omega (arith, length-drop (length new) old)

  -- the written cells are there, also where the list was shorter
  pub overwrite_covers : length new ≤ length (overwrite new old)
  overwrite_covers = omega (arith, length-append new (drop (length new) old))

  -- a cell that is written
  pub overwritten : (k : ℕ) (d : A) → k < length new → get_or (overwrite new old) k d ≡ get_or new k d
  overwritten k d h = get_or-append new (drop (length new) old) d k h

  -- and one beyond
  pub beyond : (i : ℕ) (d : A) → get_or (overwrite new old) (length new + i) d ≡ get_or old (length new + i) d
  beyond i d = get_or-append-add new (drop (length new) old) i d ∙ get_or-drop (length new) old i d

  -- as many cells as there are
  pub overwrite_all : length new ≡ length old → overwrite new old ≡ new
  overwrite_all e = rw (e, drop-length old) (append-nil new)

  -- the written cells
  pub take_overwrite : (n : ℕ) → length new ≡ n → take n (overwrite new old) ≡ new
  take_overwrite n e = rw (← e) (take-append_seam new (drop (length new) old))

  -- the others
  pub overwrite_keeps : (n : ℕ) → length new ≡ n → n ≤ length old → Keeps n old (overwrite new old)
  overwrite_keeps n e h = (length_overwrite (omega arith), rw (← e) (drop-append_seam new (drop (length new) old)))

  -- one cell more
  pub overwrite_next : (x : A) (k : ℕ) → length new ≡ k → k < length old → set (overwrite new old) k x ≡ overwrite (new ++ (x ∷ [])) old
  overwrite_next x k n h =
      let m : length (new ++ (x ∷ [])) ≡ suc k = omega (arith, length-append new (x ∷ [])) in
      let rest = drop (suc k) old in
      let s : set (new ++ get_or old k x ∷ rest) k x ≡ new ++ x ∷ rest = set_at new (get_or old k x) rest x k n in
      rw (m, n, drop-cons old k x h, s) (sym (append_snoc new x rest))

-- one cell more of those copied from a list
pub overwrite_copied : {A : Type 0} (from to : List A) (d : A) (k : ℕ) → k < length from → k < length to → set (overwrite (take k from) to) k (get_or from k d) ≡ overwrite (take (k + 1) from) to
overwrite_copied from to d k h g =
    rw (add-one k, take-suc from k d h) (overwrite_next (take k from) to (get_or from k d) k (length-take-le k from (omega arith)) g)
