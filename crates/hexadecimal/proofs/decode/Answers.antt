-- The bytes written so far, before those that the rest of the line spells, are the line's.
use Rattle.std.proofs.Common.{◌≡◌, ℕ, List, ◌++◌, ◌/◌, ◌<◌, length, get_or, drop, ◌+◌, ◌-◌, ◌*◌, Some, arith, sym, ◌∙◌, ap}
use Rattle.std.proofs.lemmas.Grind.{common_steps}
use Rattle.std.proofs.lemmas.List.{length-drop, length-append, drop-drop, drop_at}
use Rattle.text.specs.Lines.{digit}
use Rattle.hexadecimal.specs.Spelling.{spelled, pair_byte}
use Rattle.hexadecimal.specs.Hex.{bytes_of_odd, decode_all, decode_none, decode_more}
use Rattle.hexadecimal.proofs.decode.Goals as goal

-- the pair that an iteration takes
record Pair (line pair rest : List ℕ) (k : ℕ) : Type 0 where
  within : 2 * k + 1 < length line
  high : get_or pair 0 0 ≡ get_or line (2 * k) 0
  low : get_or pair 1 0 ≡ get_or line (2 * k + 1) 0
  next : rest ≡ drop (2 * (k + 1)) line

pair_of : (line pair rest : List ℕ) (k : ℕ) → drop (2 * k) line ≡ pair ++ rest → length pair ≡ 2 → Pair line pair rest k
pair_of line pair rest k e h = record {
  within = omega (arith, simp (length-drop, length-append) at (ap length e));
  high = grind (arith, common_steps);
  low = grind (arith, common_steps);
  next = sym (ap (λ (n : ℕ). drop n line) (omega arith) ∙ sym (drop-drop 2 (2 * k) line) ∙ ap (drop 2) e ∙ drop_at pair rest 2 h);
}

pub returns-then-size-line-clause-spelled : goal.returns-then-size-line-clause-spelled
returns-then-size-line-clause-spelled c = let l = c.args.line.now in bytes_of_odd (length l / 2) l (omega arith)

pub returns-in_err-bytes-clause-spelled : goal.returns-in_err-bytes-clause-spelled
returns-in_err-bytes-clause-spelled c =
    let i = c.loop-k.invariant in
    let s = c.in-Some.ensures.steps in
    let p = pair_of c.args.line.now c.in-Some.pair.now c.next.new.self.iter.rest.now c.loop-k.k-iterator.count (grind arith) (grind arith) in
    rw c.from_residual.ensures (decode_none _ c.loop-k.bytes _ i.so_far p.within (rw (← p.high, ← p.low) (sym c.in_err-bytes.ensures)))

pub loop-k-preserved : goal.loop-k-preserved
loop-k-preserved c =
    let i = c.loop-k.invariant in
    let s = c.in-Some.ensures.steps in
    let p = pair_of c.args.line.now c.in-Some.pair.now c.next.new.self.iter.rest.now c.loop-k.k-iterator.count (grind arith) (grind arith) in
    let e : spelled (pair_byte (digit (get_or c.args.line.now (2 * c.loop-k.k-iterator.count) 0)) (digit (get_or c.args.line.now (2 * c.loop-k.k-iterator.count + 1) 0))) ≡ Some c.in_ok-bytes.field-0 =
    rw (← p.high, ← p.low) (sym c.in_ok-bytes.ensures)
    in
    record {
      pairs = grind arith;
      within = omega arith;
      rest = grind (arith, p.next);
      so_far = rw (s.2, s.1) (decode_more _ c.loop-k.bytes _ i.so_far p.within _ e (omega arith));
    }

pub returns-clause-spelled : goal.returns-clause-spelled
returns-clause-spelled c =
    let i = c.loop-k.invariant in
    let s = c.in-None.ensures.steps in
    let l : length c.loop-k.k-iterator.iter.rest.now ≡ length c.args.line.now - 2 * c.loop-k.k-iterator.count = simp length-drop at (ap length i.rest) in
    let e : c.loop-k.k-iterator.count ≡ length c.args.line.now / 2 = omega arith in
    rw e at (decode_all _ c.loop-k.bytes _ i.so_far (omega arith))
