-- A run of propositions is tried in each turn: it is dropped, or what is above the highest that can't be.
use mathlib.Core.Path.{◌≡◌, sym, ◌∙◌}
use native.Mathlib.Omega.{arith}
use borrow.Author.Rules.{rules}
use Rattle.tables.specs.Sets.{set_of}
use Rattle.blame.specs.Blaming.{Turn}
use Rattle.blame.proofs.Blaming.{tried_kept, trying_start, trying_dropped, trying_blamed, trying_end}
use Rattle.blame.proofs.blame_marks.Statement.{statement}
use Rattle.blame.proofs.blame_marks.Tie as tie

abbrev invariant-loop : tie.invariant-loop-k
invariant-loop terms propositions marks₀ representatives₀ offsets₀ k₀ run₀ marks representatives offsets k run =
    Turn (set_of terms propositions) marks representatives offsets k run

abbrev decreases-loop : tie.decreases-loop-k
decreases-loop terms propositions marks₀ representatives₀ offsets₀ k₀ run₀ marks representatives offsets k run = k

loop-holds : tie.Need-loop-k-init invariant-loop decreases-loop
loop-holds c =
    let s = c in
    let l = s.requires.0 in
    record {
      trying = trying_start _ s.args.marks.now l.marks_count s.requires.1;
      reps_count = l.reps_count;
      offs_count = l.offs_count;
      run_least = omega arith;
      run_most = omega arith;
    }

drop-run-requires : tie.Need-drop_run-requires invariant-loop decreases-loop
drop-run-requires c κs =
    let a = c in
    let l = a in
    let s = l in
    let i = l.loop-k.invariant in (
      record { good = s.requires.0.good; marks_count = i.trying.count; reps_count = i.reps_count; offs_count = i.offs_count },
      (omega (arith, a.saturating_sub-low.ensures), i.trying.within, i.trying.ones),
    )

-- the next run's length fits
mul-run : tie.Need-overflow_mul-run invariant-loop decreases-loop
mul-run c =
    let a = c in
    omega (arith, a.saturating_sub-low.ensures, a.loop-k.invariant.run_most)

loop-less : tie.Need-loop-k-smaller-then-drop_run invariant-loop decreases-loop
loop-less c =
    let a = c in
    omega (arith, a.saturating_sub-low.ensures, a.loop-k-test.true, a.loop-k.invariant.run_least)

loop-again : tie.Need-loop-k-preserved-then-drop_run invariant-loop decreases-loop
loop-again c =
    let t = c in
    let a = t in
    let h = a.loop-k-test.true in
    let l = a in
    let s = l in
    let i = l.loop-k.invariant in
    let e = sym t.drop_run.ensures.0 ∙ c.if-drop_run.true in
    record {
      trying = rw t.drop_run.ensures.1 (trying_dropped _ s.requires.0.good i.trying (omega (arith, a.saturating_sub-low.ensures)) e);
      reps_count = t.drop_run.auto.representatives ∙ i.reps_count;
      offs_count = t.drop_run.auto.offsets ∙ i.offs_count;
      run_least = omega (arith, a.saturating_sub-low.ensures, h, i.run_least);
      run_most = omega (arith, a.saturating_sub-low.ensures, h, i.run_most);
    }

find-blamed-requires : tie.Need-find_blamed-k-requires invariant-loop decreases-loop
find-blamed-requires c κs =
    let f = c in
    let t = f in
    let a = t in
    let h = a.loop-k-test.true in
    let l = a in
    let s = l in
    let i = l.loop-k.invariant in
    let stays = sym t.drop_run.ensures.0 ∙ f.if-drop_run.false in
    let same = t.drop_run.ensures.1 ∙ tried_kept _ l.loop-k.marks a.saturating_sub-low.result l.loop-k.k stays in (
      record {
        good = s.requires.0.good;
        marks_count = t.drop_run.auto.marks ∙ i.trying.count;
        reps_count = t.drop_run.auto.representatives ∙ i.reps_count;
        offs_count = t.drop_run.auto.offsets ∙ i.offs_count;
      },
      ((omega (arith, a.saturating_sub-low.ensures, h, i.run_least), i.trying.within, rw same i.trying.ones), rw same stays),
    )

loop-again-2 : tie.Need-loop-k-preserved invariant-loop decreases-loop
loop-again-2 c =
    let b = c in
    let f = b in
    let t = f in
    let a = t in
    let l = a in
    let s = l in
    let i = l.loop-k.invariant in
    let stays = sym t.drop_run.ensures.0 ∙ f.if-drop_run.false in
    let same = t.drop_run.ensures.1 ∙ tried_kept _ l.loop-k.marks a.saturating_sub-low.result l.loop-k.k stays in
    let e = b.find_blamed-k.ensures in
    record {
      trying = trying_blamed _ s.requires.0.good (rw same i.trying) e;
      reps_count = b.find_blamed-k.auto.representatives ∙ (t.drop_run.auto.representatives ∙ i.reps_count);
      offs_count = b.find_blamed-k.auto.offsets ∙ (t.drop_run.auto.offsets ∙ i.offs_count);
      run_least = omega arith;
      run_most = omega (arith, e.nonempty, e.below, i.trying.within);
    }

returns : tie.Need-returns invariant-loop decreases-loop
returns c =
    let l = c in
    let e : l.loop-k.k ≡ 0 = omega (arith, c.loop-k-test.false) in
    trying_end _ l.loop-k.marks (rw e at l.loop-k.invariant.trying)

pub blame_marks_spec : {M : Type 1} → statement M
blame_marks_spec =
    tie.close
    (tie.spec
    invariant-loop
    decreases-loop
    loop-holds
    (λ c κs. search rules)
    drop-run-requires
    (λ c. omega (arith, c.saturating_sub-low.ensures))
    mul-run
    loop-less
    loop-again
    find-blamed-requires
    (λ c. let e = c.find_blamed-k.ensures in omega (arith, e.nonempty, e.below))
    loop-again-2
    (λ c. omega (arith, c.loop-k.invariant.trying.count))
    (λ c. omega (arith, c.loop-k.invariant.reps_count))
    (λ c. omega (arith, c.loop-k.invariant.offs_count))
    returns)
