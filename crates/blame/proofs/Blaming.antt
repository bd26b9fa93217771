-- Laws of specs/Blaming.
use Rattle.std.specs.Prelude.{ℕ, suc, ◌+◌, ◌-◌, ◌<◌, ◌≤◌, ◌≡◌, refl, Bool, true, not, ltb, ℤ, set}
use Rattle.std.proofs.Math.Path.{sym, ap}
use Rattle.std.proofs.Common.{◌∙◌, ltb-true, ltb-false}
use Rattle.std.proofs.Math.Bool.{false}
use mathlib.Core.List.{List, map}
use native.Mathlib.Omega.{arith}
use Rattle.std.proofs.Math.ListN.{length, get_or}
use Rattle.std.proofs.lemmas.List.{length-map}
use Rattle.std.proofs.Math.Seq.{ext_get_or}
use Rattle.lists.specs.Items.{item_map, get_d_item}
use Rattle.outcome.specs.Blame.{kept_contradictory, drop_below, blame}
use Rattle.outcome.proofs.Lengths.{length_blame}
use Rattle.outcome.specs.PairBits.{bit_value}
use Rattle.tables.proofs.PropositionTable.{length_propositions_from}
use Rattle.tables.specs.Sets.{Set, AcceptedSet, terms_in, propositions_in}
use Rattle.consistency.specs.Live.{is_kept, kept_of}
use Rattle.consistency.specs.Deciding.{Decided}
use Rattle.blame.specs.Kept.{AllKept, decided_kept, kept_is_contradictory, kept_at, length_kept, kept_all, set_well_formed}
use Rattle.blame.specs.Runs.{set_run, length_run, run_below, run_inside, run_above, run_is, run_none, run_one, run_both, run_back}
use Rattle.blame.specs.Dropping.{drop_run, drop_none}
use Rattle.blame.specs.Blaming.{marks_of_blame, is_droppable, tried_run, Trying, BlamedIn}

pub length_blame_marks : (S : Set) → length (marks_of_blame S) ≡ S.propositions
length_blame_marks S =
    length-map (blame (terms_in S) (propositions_in S)) bit_value ∙ (length_blame (terms_in S) (propositions_in S) ∙ length_propositions_from S.propositions S.proposition)

module _ (S : Set) (marks : List ℕ) (from to : ℕ) where
  tried_dropped : is_droppable S marks from to ≡ true → tried_run S marks from to ≡ set_run marks from to 0
  unfolding tried_run
  tried_dropped e = rw e

  pub tried_kept : is_droppable S marks from to ≡ false → tried_run S marks from to ≡ marks
  unfolding tried_run
  tried_kept e = rw e

  -- by the verdict without the run, its marks stay cleared or are set again
  module _ (good : AcceptedSet S) {less reps : List ℕ} {offs : List ℤ} (is : less ≡ set_run marks from to 0) where
    decided_run : (r : Bool) → Decided S less reps offs r → is_droppable S marks from to ≡ not r
    unfolding is_droppable
    decided_run r D = decided_kept S good r (rw is at D)

    pub run_dropped : Decided S less reps offs false → (true ≡ is_droppable S marks from to) × (less ≡ tried_run S marks from to)
    run_dropped D = let e = decided_run false D in (sym e, is ∙ sym (tried_dropped e))

    pub run_kept :
        {last : List ℕ} →
        Decided S less reps offs true →
        from ≤ to →
        to ≤ length marks →
        AllKept marks to →
        last ≡ set_run less from to 1 →
        (false ≡ is_droppable S marks from to) × (last ≡ tried_run S marks from to)
    run_kept D o w A l =
        let e = decided_run true D in
        (sym e, l ∙ (ap (λ (m : List ℕ). set_run m from to 1) is ∙ (run_back 0 marks 0 1 from to o w (λ k _ h. A k h) ∙ sym (tried_kept e))))

  module _ (ordered : from ≤ to) (within : to ≤ S.propositions) (count : length marks ≡ S.propositions) where
    -- the kept propositions without the run
    kept_cleared : kept_of S (set_run marks from to 0) ≡ set_run (kept_of S marks) from to false
    kept_cleared =
        let less = set_run marks from to 0 in
        let w : to ≤ length marks = omega arith in
        let n = length_kept S marks in
        run_is (kept_of S marks) from to false ordered (omega arith) false (kept_of S less) (length_kept S less ∙ sym n)
        (λ k h. kept_at S less k (omega arith) ∙ rw (run_below marks from to 0 ordered w k 0 h) (sym (kept_at S marks k (omega arith))))
        (λ k h g. kept_at S less k (omega arith) ∙ rw (run_inside marks from to 0 ordered w k 0 h g))
        (λ k h g. kept_at S less k (omega arith) ∙ rw (run_above marks from to 0 ordered w k 0 h) (sym (kept_at S marks k (omega arith))))

module _ (S : Set) where
  pub trying_start : (marks : List ℕ) → length marks ≡ S.propositions → AllKept marks S.propositions → Trying S marks S.propositions
  unfolding blame
  trying_start marks l A = record {
    within = omega arith;
    count = l;
    bits = λ j h. rw (A j h);
    ones = A;
    rest = rw (kept_all S marks A, length_propositions_from S.propositions S.proposition);
  }

  -- a run that can be dropped, or is empty, is
  module _
      (good : AcceptedSet S) (marks : List ℕ) (from k : ℕ) (t : Trying S marks k)
      (ordered : from ≤ k) (drops : from < k → is_droppable S marks from k ≡ true)
    where
      abbrev less : List ℕ
      less = set_run marks from k 0

      long : k ≤ length marks
      long = omega (arith, t.within, t.count)

      run_bits : (j : ℕ) → j < S.propositions → get_or less j 0 ≡ bit_value (is_kept less j)
      run_bits j h = go (ltb j from) refl (ltb j k) refl
        where
          go : (a : Bool) → ltb j from ≡ a → (b : Bool) → ltb j k ≡ b → get_or less j 0 ≡ bit_value (is_kept less j)
          go true e b f = rw (run_below marks from k 0 ordered long j 0 (ltb-true j from e)) (t.bits j h)
          go false e true f = let g = ltb-false j from e in rw (run_inside marks from k 0 ordered long j 0 (omega arith) (ltb-true j k f))
          go false e false f = let g = ltb-false j k f in rw (run_above marks from k 0 ordered long j 0 (omega arith)) (t.bits j h)

      run_rest : drop_below (terms_in S) (propositions_in S) from (kept_of S less) ≡ blame (terms_in S) (propositions_in S)
      unfolding is_droppable
      run_rest =
          let e : from + (k - from) ≡ k = omega arith in
          let is = kept_cleared S marks from k ordered t.within t.count in
          let w : from + (k - from) ≤ length (kept_of S marks) = omega (arith, length_kept S marks, t.within) in
          let d = drop_run (terms_in S) (propositions_in S) (set_well_formed S good) from (k - from) (kept_of S marks) w (λ h. rw (e, ← is) (drops (omega arith))) in
          rw is (sym (rw e at d) ∙ t.rest)

      trying_cleared : Trying S (set_run marks from k 0) from
      trying_cleared = record {
        within = omega (arith, t.within);
        count = length_run marks from k 0 ordered long ∙ t.count;
        bits = run_bits;
        ones = λ j h. run_below marks from k 0 ordered long j 0 h ∙ t.ones j (omega arith);
        rest = run_rest;
      }

  pub trying_dropped :
      AcceptedSet S →
      {marks : List ℕ} {from k : ℕ} →
      Trying S marks k →
      from ≤ k →
      is_droppable S marks from k ≡ true →
      Trying S (tried_run S marks from k) from
  trying_dropped good {marks} {from} {k} t o e = rw (tried_dropped S marks from k e) (trying_cleared good marks from k t o (λ _. e))

  -- one that can't be dropped stays
  trying_kept : (marks : List ℕ) (k : ℕ) → Trying S marks (suc k) → is_droppable S marks k (suc k) ≡ false → Trying S marks k
  unfolding is_droppable
  trying_kept marks k t e =
      let is = kept_cleared S marks k (suc k) (omega arith) t.within t.count in
      let one = run_one false (kept_of S marks) false k (omega (arith, length_kept S marks, t.within)) in
      let c : kept_contradictory (terms_in S) (propositions_in S) (set (kept_of S marks) k false) ≡ false = rw (one, ← is) e in
      record {
        within = omega (arith, t.within);
        count = t.count;
        bits = t.bits;
        ones = λ j h. t.ones j (omega arith);
        rest = sym (drop_none (terms_in S) (propositions_in S) (kept_of S marks) k c) ∙ t.rest;
      }

pub halving_start :
    (S : Set) (old : List ℕ) (from to : ℕ) →
    from < to →
    to ≤ length old →
    is_droppable S old from to ≡ false →
    BlamedIn S old to old from to
halving_start S old from to h w e = record {
  nonempty = h;
  below = omega arith;
  are = run_none 0 old 0 to w;
  dropped = λ g. absurd (omega arith);
  stays = e;
}

module _ {S : Set} {old marks : List ℕ} {to low high : ℕ} (w : to ≤ length old) (b : BlamedIn S old to marks low high) where
  pub blamed_length : length marks ≡ length old
  blamed_length = ap length b.are ∙ length_run old high to 0 b.below w

  pub blamed_ones : AllKept old to → AllKept marks high
  blamed_ones A j h =
      ap (λ (l : List ℕ). get_or l j 0) b.are ∙ (run_below old high to 0 b.below w j 0 h ∙ A j (omega (arith, b.below)))

  -- a run that ends at `high`, and one that ends at `to`
  joined : (mid : ℕ) → mid ≤ high → set_run marks mid high 0 ≡ set_run old mid to 0
  joined mid h = ap (λ (l : List ℕ). set_run l mid high 0) b.are ∙ run_both 0 old 0 mid high to h b.below w

  same_droppable : (mid : ℕ) → mid ≤ high → is_droppable S marks mid high ≡ is_droppable S old mid to
  unfolding is_droppable
  same_droppable mid h = ap (kept_is_contradictory S) (joined mid h)

  module _ (mid : ℕ) (over : low < mid) (under : mid < high) where
    pub upper_dropped : is_droppable S marks mid high ≡ true → BlamedIn S old to (tried_run S marks mid high) low mid
    upper_dropped e = record {
      nonempty = over;
      below = omega (arith, b.below);
      are = tried_dropped S marks mid high e ∙ joined mid (omega arith);
      dropped = λ _. sym (same_droppable mid (omega arith)) ∙ e;
      stays = b.stays;
    }

    pub upper_kept : is_droppable S marks mid high ≡ false → BlamedIn S old to (tried_run S marks mid high) mid high
    upper_kept e = record {
      nonempty = under;
      below = b.below;
      are = tried_kept S marks mid high e ∙ b.are;
      dropped = b.dropped;
      stays = sym (same_droppable mid (omega arith)) ∙ e;
    }

module _ (S : Set) where
  -- the highest that can't be dropped is found
  pub trying_blamed : AcceptedSet S → {old marks : List ℕ} {to k : ℕ} → Trying S old to → BlamedIn S old to marks k (suc k) → Trying S marks k
  trying_blamed good {old} {marks} {to} {k} t b =
      let w : to ≤ length old = omega (arith, t.within, t.count) in
      let u : Trying S marks (suc k) = rw b.are (trying_cleared S good old (suc k) to t b.below b.dropped) in
      trying_kept S marks k u (same_droppable w b k (omega arith) ∙ b.stays)

  -- the marks at the end
  pub trying_end : (marks : List ℕ) → Trying S marks 0 → marks ≡ marks_of_blame S
  unfolding drop_below
  trying_end marks t =
      let B = blame (terms_in S) (propositions_in S) in
      let long : length B ≡ S.propositions = ap length (sym t.rest) ∙ length_kept S marks in
      ext_get_or 0 marks (map bit_value B) (t.count ∙ sym (length-map B bit_value ∙ long))
      (λ k b.
      let h : k < S.propositions = omega (arith, t.count) in
      t.bits k h ∙ (ap bit_value (sym (kept_at S marks k h) ∙ ap (λ (x : List Bool). get_or x k false) t.rest) ∙ sym (item_map bit_value B k 0 (get_d_item B k false (omega (arith, long))))))
