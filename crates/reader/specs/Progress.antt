-- The lines of a text up to a place, taken into the rows.
use Prim.Native.Nat.{ℕ, zero, suc, ◌+◌, ◌-◌, ◌<◌, ◌≤◌}
use Rattle.std.proofs.Math.Path.{◌≡◌, ap, sym}
use Rattle.std.specs.Prelude.{refl, true, List, [], ◌∷◌, take, Ok, Err}
use Rattle.std.proofs.Common.{◌∙◌, length-drop, drop_of_length-le, length-take-le, drop-drop}
use native.Mathlib.Omega.{arith}
use Rattle.std.proofs.Math.Numerals.{add-one}
use borrow.Author.Tests.{ltb-true}
use Rattle.std.proofs.Math.ListN.{length, drop}
use Rattle.types.specs.declared.Refusal.{Refusal}
use Rattle.text.specs.Lines.{Line, lines_of}
use Rattle.text.proofs.FrameLaws.{line_framed}
use Rattle.text.specs.Reading.{Records, nothing, accepted, refused, refuse, go_on, step, read_lines, reading, line_start}
use Rattle.text.proofs.Laws.{step_frame_lem}
use Rattle.types.specs.declared.Counts.{Counts}
use Rattle.lines.specs.LineEnds.{lines_of_nil, line_of, end_of_line, end_after, end_within, lines_of_at}
use Rattle.frames.specs.Taking.{Counted}
use Rattle.frames.specs.Rows.{Rows, rows_with, rows_with_nothing}
use Rattle.reader.specs.Loading.{Went, LoadedAs}

-- The k lines before the place `at` are taken into the rows D, which were C.
pub record Progress (text : List ℕ) (C D : Rows) (c : Counts) (at k : ℕ) : Type 0 where
  pub records : Records
  pub counts : Counted c records
  pub cells : D ≡ rows_with records C
  pub reads : reading text ≡ read_lines k records (lines_of (drop at text))
  pub lines : drop k (lines_of text) ≡ lines_of (drop at text)
  pub start : line_start (lines_of text) k ≡ at
  pub within : at ≤ length text
  pub few : k ≤ at

pub progress_none : (text : List ℕ) (C : Rows) → Progress text C C (record { terms = 0; propositions = 0; questions = 0 }) 0 0
unfolding reading line_start
progress_none text C = record {
  records = nothing;
  counts = record { terms = refl; propositions = refl; questions = refl };
  cells = rows_with_nothing C;
  reads = refl;
  lines = refl;
  start = refl;
  within = omega arith;
  few = omega arith;
}

-- the step of a line, and the lines after it
read_lines_all : (k : ℕ) (R : Records) → read_lines k R [] ≡ accepted R
unfolding read_lines
read_lines_all k R = refl

module _ (k : ℕ) (R : Records) (l : Line) (ls : List Line) where
  read_lines_refused : (x : Refusal) → step R l ≡ refuse x → read_lines k R (l ∷ ls) ≡ refused (record { refusal = x; place = k })
  unfolding read_lines
  read_lines_refused x e = rw e

  read_lines_more : (S : Records) → step R l ≡ go_on S → read_lines k R (l ∷ ls) ≡ read_lines (suc k) S ls
  unfolding read_lines
  read_lines_more S e = rw e

-- an accepted line has its LF
step_ended : (R S : Records) (l : Line) → step R l ≡ go_on S → l.ended ≡ true
step_ended R S l e = let a = step_frame_lem R S l e in (line_framed l a.0 a.1).0

line_start_next : (ls : List Line) (k : ℕ) (l : Line) (rest : List Line) → drop k ls ≡ l ∷ rest → line_start ls (suc k) ≡ line_start ls k + (length l.characters + 1)
unfolding line_start
line_start_next [] zero l rest e = let z : ◌≡◌ {A = ℕ} 0 1 = cc in absurd (omega arith)
line_start_next [] (suc k) l rest e = let z : ◌≡◌ {A = ℕ} 0 1 = cc in absurd (omega arith)
line_start_next (m ∷ ls) zero l rest e = let h : m ≡ l = cc in rw h (omega arith)
line_start_next (m ∷ ls) (suc k) l rest e = let i = line_start_next ls k l rest e in omega arith

module _ (text : List ℕ) (C D : Rows) (c : Counts) (at k : ℕ) (P : Progress text C D c at k) where
  module _ (more : at < length text) where
    rest : List Line
    rest = lines_of (drop (end_of_line text at + 1) text)

    reads_here : reading text ≡ read_lines k P.records (line_of text at (end_of_line text at) ∷ rest)
    unfolding rest
    reads_here = P.reads ∙ ap (read_lines k P.records) (lines_of_at text at more)

    lines_here : drop k (lines_of text) ≡ line_of text at (end_of_line text at) ∷ rest
    unfolding rest
    lines_here = P.lines ∙ lines_of_at text at more

    line_length_lem : length (take (end_of_line text at - at) (drop at text)) ≡ end_of_line text at - at
    line_length_lem = let h = end_within text at P.within in length-take-le (end_of_line text at - at) (drop at text) (rw (length-drop at text) (omega arith))

    pub progress_refused : (x : Refusal) (E : Rows)
        → step P.records (line_of text at (end_of_line text at)) ≡ refuse x
        → LoadedAs text C (Err (record { fault = record { refusal = x; place = k }; part = record { start = at; size = end_of_line text at - at } })) E
    unfolding rest
    progress_refused x E e =
        let l = line_of text at (end_of_line text at) in
        let r : reading text ≡ refused (record { refusal = x; place = k }) = reads_here ∙ read_lines_refused k P.records l rest x e in
        let n : at + (end_of_line text at - at) ≡ end_of_line text at = let a = end_after text at in omega arith in
        record {
          judged = record { answer = rw (r, P.start, lines_here, line_length_lem); within = rw n (end_within text at P.within) };
          cells = λ R a. let z : ◌≡◌ {A = ℕ} 0 1 = cc in absurd (omega arith);
        }

    pub progress_more : (m : Counts) (E : Rows) → Went C (step P.records (line_of text at (end_of_line text at))) m E → Progress text C E m (end_of_line text at + 1) (k + 1)
    unfolding rest
    progress_more m E w =
        let l = line_of text at (end_of_line text at) in
        let n : k + 1 ≡ suc k = add-one k in
        let b : end_of_line text at < length text = ltb-true (end_of_line text at) (length text) (step_ended P.records w.records l w.stepped) in
        let a = end_after text at in
        let s : line_start (lines_of text) (suc k) ≡ line_start (lines_of text) k + (length l.characters + 1) = line_start_next (lines_of text) k l rest lines_here in
        let d : drop (k + 1) (lines_of text) ≡ rest = sym (drop-drop 1 k (lines_of text)) ∙ ap (drop 1) lines_here in
        record {
          records = w.records;
          counts = w.counts;
          cells = w.cells;
          reads = rw n (reads_here ∙ read_lines_more k P.records l rest w.records w.stepped);
          lines = d;
          start = rw n (omega (arith, s, P.start, line_length_lem));
          within = omega arith;
          few = omega (arith, P.few);
        }

  pub progress_all : length text ≤ at → LoadedAs text C (Ok c) D
  progress_all h =
      let d : drop at text ≡ [] = drop_of_length-le text h in
      let r : reading text ≡ accepted P.records =
      P.reads ∙ ap (λ (t : List ℕ). read_lines k P.records (lines_of t)) d ∙ ap (read_lines k P.records) lines_of_nil ∙ read_lines_all k P.records in
      record {
        judged = record { answer = rw (r, ← P.counts.terms, ← P.counts.propositions, ← P.counts.questions); within = tt };
        cells = λ R a. let same : P.records ≡ R = cc in rw (← same) P.cells;
      }
