-- The part of the run that holds the highest proposition that can't be dropped is halved in each turn.
use Prim.Native.Nat.{suc, ◌+◌, ◌-◌, ◌/◌, ◌≤◌}
use mathlib.Core.Path.{◌≡◌, sym, ◌∙◌}
use native.Mathlib.Omega.{arith}
use lib.ListN.{length}
use Rattle.tables.specs.Sets.{set_of}
use Rattle.blame.specs.Blaming.{Halving}
use Rattle.blame.proofs.Blaming.{halving_start, blamed_length, blamed_ones, upper_dropped, upper_kept}
use Rattle.blame.proofs.find_blamed.Statement.{statement}
use Rattle.blame.proofs.find_blamed.Tie as tie

abbrev invariant-loop : tie.invariant-loop-high
invariant-loop terms propositions marks₀ representatives₀ offsets₀ from to low₀ high₀ marks representatives offsets low high =
    Halving (set_of terms propositions) marks₀ to marks representatives offsets low high

abbrev decreases-loop : tie.decreases-loop-high
decreases-loop terms propositions marks₀ representatives₀ offsets₀ from to low₀ high₀ marks representatives offsets low high = high - low

loop-holds : tie.Need-loop-high-init invariant-loop decreases-loop
loop-holds c =
    let s = c in
    let l = s.requires.0 in
    let p = s.requires.1.0 in
    record {
      blamed = halving_start _ s.args.marks.now s.args.from s.args.to p.0 (omega (arith, l.marks_count, p.1)) s.requires.1.1;
      reps_count = l.reps_count;
      offs_count = l.offs_count;
    }

drop-run-requires : tie.Need-drop_run-requires invariant-loop decreases-loop
drop-run-requires c κs =
    let l = c in
    let s = l in
    let p = s.requires.1.0 in
    let i = l.loop-high.invariant in
    let w : s.args.to ≤ length s.args.marks.now = omega (arith, s.requires.0.marks_count, p.1) in
    let b = i.blamed in
    let n = blamed_length w b in
    let A = blamed_ones w b p.2 in (
      record { good = s.requires.0.good; marks_count = n ∙ s.requires.0.marks_count; reps_count = i.reps_count; offs_count = i.offs_count },
      (omega (arith, b.nonempty), omega (arith, b.below, p.1), A),
    )

loop-again : tie.Need-loop-high-preserved-then-drop_run invariant-loop decreases-loop
loop-again c =
    let t = c in
    let l = t in
    let h = t.loop-high-test.true in
    let s = l in
    let i = l.loop-high.invariant in
    let w : s.args.to ≤ length s.args.marks.now = omega (arith, s.requires.0.marks_count, s.requires.1.0.1) in
    let mid = l.loop-high.low + (l.loop-high.high - l.loop-high.low) / 2 in
    let e = sym t.drop_run.ensures.0 ∙ c.if-drop_run.true in
    record {
      blamed = rw t.drop_run.ensures.1 (upper_dropped w i.blamed mid (omega (arith, h)) (omega (arith, h)) e);
      reps_count = t.drop_run.auto.representatives ∙ i.reps_count;
      offs_count = t.drop_run.auto.offsets ∙ i.offs_count;
    }

loop-again-2 : tie.Need-loop-high-preserved invariant-loop decreases-loop
loop-again-2 c =
    let t = c in
    let l = t in
    let h = t.loop-high-test.true in
    let s = l in
    let i = l.loop-high.invariant in
    let w : s.args.to ≤ length s.args.marks.now = omega (arith, s.requires.0.marks_count, s.requires.1.0.1) in
    let mid = l.loop-high.low + (l.loop-high.high - l.loop-high.low) / 2 in
    let e = sym t.drop_run.ensures.0 ∙ c.if-drop_run.false in
    record {
      blamed = rw t.drop_run.ensures.1 (upper_kept w i.blamed mid (omega (arith, h)) (omega (arith, h)) e);
      reps_count = t.drop_run.auto.representatives ∙ i.reps_count;
      offs_count = t.drop_run.auto.offsets ∙ i.offs_count;
    }

same_length : tie.Need-shape_of-marks invariant-loop decreases-loop
same_length c =
    let l = c in
    let s = l in
    let w : s.args.to ≤ length s.args.marks.now = omega (arith, s.requires.0.marks_count, s.requires.1.0.1) in
    blamed_length w l.loop-high.invariant.blamed

returns : tie.Need-returns invariant-loop decreases-loop
returns c =
    let l = c in
    let e : l.loop-high.high ≡ suc l.loop-high.low = omega (arith, c.loop-high-test.false, l.loop-high.invariant.blamed.nonempty) in
    rw e at l.loop-high.invariant.blamed

pub find_blamed_spec : {M : Type 1} → statement M
find_blamed_spec =
    tie.close
    (tie.spec
    invariant-loop
    decreases-loop
    loop-holds
    (λ c. omega (arith, c.loop-high.invariant.blamed.nonempty))
    (λ c. omega (arith, c.loop-high.invariant.blamed.nonempty))
    (λ c. omega arith)
    drop-run-requires
    (λ c. omega (arith, c.loop-high-test.true))
    loop-again
    (λ c. omega (arith, c.loop-high-test.true))
    loop-again-2
    same_length
    (λ c. omega (arith, c.loop-high.invariant.reps_count))
    (λ c. omega (arith, c.loop-high.invariant.offs_count))
    returns)
