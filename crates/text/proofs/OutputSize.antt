-- Laws of specs/OutputSize.
use Rattle.std.specs.Prelude.{ℕ, zero, suc, ◌+◌, ◌*◌, ◌<◌, ◌≤◌, ◌≡◌, refl, List, [], ◌∷◌, ◌++◌, map, ℤ}
use Rattle.std.proofs.Common.{mul-suc, arith, length-append}
use Rattle.std.proofs.Math.ListN.{length}
use Rattle.std.proofs.lemmas.List.{length-map}
use Rattle.types.specs.declared.Verdict.{Verdict}
use Rattle.types.specs.declared.Verdict.TheVariants.{Satisfiable, Contradiction}
use Rattle.types.specs.Numbers.{number_of_verdict, number_of_refusal}
use Rattle.rules.specs.Terms.{Term, auxiliary, Proposition, block_disequality, Comparison}
use Rattle.outcome.specs.Outcome.{Outcome, outcome}
use Rattle.outcome.proofs.Lengths.{Lengths, outcome_lengths}
use Rattle.tables.specs.Limits.{most}
use Rattle.tables.specs.Records.{TermRecord, PropositionRecord, term_of, proposition_of}
use Rattle.tables.specs.Refusals.{Fault}
use Rattle.tables.specs.Records.{or_default}
use Rattle.text.specs.Lines.{lf, hex_of, bytes, unsigned}
use Rattle.text.specs.Reading.{Reading, accepted, refused, reading}
use Rattle.text.specs.Output.{line_of, verdict_frame, label_frame, label_frames, blame_frame, blame_if, cell_frames, answer_frame, answer_frames, refusal_frame, middle, outcome_frames, solved, reading_frames, output}
use Rattle.text.proofs.Size.{output_all}
use Rattle.text.proofs.Sound.{accepted_sound}
use Rattle.text.specs.OutputSize.{largest_output}

pub length_hex : (bs : List ℕ) → length (hex_of bs) ≡ 2 * length bs
unfolding hex_of
length_hex [] = refl
length_hex (b ∷ bs) = omega (arith, length_hex bs)

pub length_line : (bs : List ℕ) → length (line_of bs) ≡ 2 * length bs + 1
length_line bs = omega (arith, length-append (hex_of bs) (lf ∷ []), length_hex bs)

length_label : (t r : ℕ) (o : ℤ) → length (label_frame t r o) ≡ 27
unfolding bytes
length_label t r o = length_line (0xA1 ∷ bytes 2 t ++ (bytes 2 r ++ bytes 8 (unsigned 64 o)))

length_blame : (p : ℕ) → length (blame_frame p) ≡ 7
unfolding bytes
length_blame p = length_line (0xA2 ∷ bytes 2 p)

length_answer : (q a : ℕ) → length (answer_frame q a) ≡ 9
unfolding bytes
length_answer q a = length_line (0xA3 ∷ bytes 2 q ++ (a ∷ []))

labels_size : (t : ℕ) (rs : List ℕ) (os : List ℤ) → length (label_frames t rs os) ≤ 27 * length rs
unfolding label_frames
labels_size t [] os = omega arith
labels_size t (r ∷ rs) [] = omega arith
labels_size t (r ∷ rs) (o ∷ os) = omega (arith, length-append (label_frame t r o) (label_frames (suc t) rs os), length_label t r o, labels_size (suc t) rs os)

blame_within : (p m : ℕ) → length (blame_if p m) ≤ 7
blame_within p zero = omega arith
blame_within p (suc m) = omega (arith, length_blame p)

cells_size : (f : ℕ → ℕ → List ℕ) (n : ℕ) → ((k c : ℕ) → length (f k c) ≤ n) → (k : ℕ) (cells : List ℕ) → length (cell_frames f k cells) ≤ n * length cells
unfolding cell_frames
cells_size f n h k [] = omega arith
cells_size f n h k (c ∷ cells) = omega (arith, length-append (f k c) (cell_frames f (suc k) cells), h k c, cells_size f n h (suc k) cells, mul-suc n (length cells))

module _ (ts : List Term) (ps : List Proposition) (qs : List Comparison) (few_terms : length ts ≤ most) (few_propositions : length ps ≤ most) (few_questions : length qs ≤ most) where
  pub outcome_size : length (outcome_frames (outcome ts ps qs)) ≤ largest_output
  unfolding outcome_frames
  outcome_size = go (outcome ts ps qs) (outcome_lengths ts ps qs)
    where
      middle_size : (v : Verdict) (o : Outcome) → Lengths ts ps qs o → length (middle v o) ≤ most * 27
      middle_size Satisfiable o l = omega (arith, labels_size 0 o.representatives o.offsets, l.representatives)
      middle_size Contradiction o l = omega (arith, cells_size blame_if 7 blame_within 0 o.marks, l.marks)

      go : (o : Outcome) → Lengths ts ps qs o → length (verdict_frame o.verdict ++ (middle o.verdict o ++ answer_frames o.answers)) ≤ largest_output
      go o l =
          omega (
            arith,
            length-append (verdict_frame o.verdict) (middle o.verdict o ++ answer_frames o.answers),
            length-append (middle o.verdict o) (answer_frames o.answers),
            length_line (0xA0 ∷ number_of_verdict o.verdict ∷ []),
            middle_size o.verdict o l,
            cells_size answer_frame 9 (λ q a. omega (arith, length_answer q a)) 0 o.answers,
            l.answers,
          )

pub refusal_size : (f : Fault) → length (refusal_frame f) ≤ largest_output
unfolding bytes
refusal_size f = omega (arith, length_line (0xA4 ∷ number_of_refusal f.refusal ∷ bytes 2 f.place))

term_held : TermRecord → Term
term_held r = or_default (auxiliary 0) (term_of r)

proposition_held : PropositionRecord → Proposition
proposition_held p = or_default (block_disequality 0 0) (proposition_of p)

pub reading_size : (text : List ℕ) → length (reading_frames (reading text)) ≤ largest_output
unfolding solved term_held proposition_held
reading_size text = go (reading text) refl
  where
    go : (o : Reading) → reading text ≡ o → length (reading_frames o) ≤ largest_output
    go (accepted R) e =
        let s = accepted_sound text R e in
        outcome_size (map term_held R.terms) (map proposition_held R.propositions) R.questions
        (omega (arith, length-map R.terms term_held, s.few_terms))
        (omega (arith, length-map R.propositions proposition_held, s.few_propositions))
        s.few_questions
    go (refused f) e = refusal_size f

pub output_size : (text : List ℕ) → length (output text) ≤ largest_output
output_size text = rw (output_all text) (reading_size text)

reading_some : (o : Reading) → 0 < length (reading_frames o)
unfolding outcome_frames
reading_some (accepted R) =
    let o = solved R in
    omega (
      arith,
      length-append (verdict_frame o.verdict) (middle o.verdict o ++ answer_frames o.answers),
      length_line (0xA0 ∷ number_of_verdict o.verdict ∷ []),
    )
reading_some (refused f) = omega (arith, length_line (0xA4 ∷ number_of_refusal f.refusal ∷ bytes 2 f.place))

-- no output is empty
pub output_some : (text : List ℕ) → 0 < length (output text)
output_some text = rw (output_all text) (reading_some (reading text))
