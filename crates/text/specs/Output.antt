-- What the program writes for a text.
use Rattle.std.specs.Prelude.{ℕ, zero, suc, List, [], ◌∷◌, ◌++◌, map, ℤ, take}
use Rattle.types.specs.declared.Verdict.{Verdict}
use Rattle.types.specs.declared.Verdict.TheVariants.{Satisfiable, Contradiction}
use Rattle.types.specs.Numbers.{number_of_verdict, number_of_refusal}
use Rattle.rules.specs.Terms.{auxiliary, block_disequality}
use Rattle.outcome.specs.Outcome.{Outcome, outcome}
use Rattle.tables.specs.Records.{term_of, proposition_of}
use Rattle.tables.specs.Refusals.{Fault}
use Rattle.tables.specs.Records.{or_default}
use Rattle.text.specs.Lines.{lf, hex_of, bytes, unsigned}
use Rattle.text.specs.Reading.{Records, Reading, accepted, refused, reading}

-- the bytes of standard input that are judged
abbrev pub judged : ℕ
judged = 32768

-- a frame as a line
abbrev pub line_of : List ℕ → List ℕ
line_of bs = hex_of bs ++ (lf ∷ [])

abbrev pub verdict_frame : Verdict → List ℕ
verdict_frame v = line_of (0xA0 ∷ number_of_verdict v ∷ [])

abbrev pub label_frame : ℕ → ℕ → ℤ → List ℕ
label_frame t r o = line_of (0xA1 ∷ bytes 2 t ++ (bytes 2 r ++ bytes 8 (unsigned 64 o)))

abbrev pub blame_frame : ℕ → List ℕ
blame_frame p = line_of (0xA2 ∷ bytes 2 p)

abbrev pub answer_frame : ℕ → ℕ → List ℕ
answer_frame q a = line_of (0xA3 ∷ bytes 2 q ++ (a ∷ []))

abbrev pub refusal_frame : Fault → List ℕ
refusal_frame f = line_of (0xA4 ∷ number_of_refusal f.refusal ∷ bytes 2 f.place)

-- a frame for each term from number t on
unfoldable pub label_frames : ℕ → List ℕ → List ℤ → List ℕ
label_frames t [] os = []
label_frames t (r ∷ rs) [] = []
label_frames t (r ∷ rs) (o ∷ os) = label_frame t r o ++ label_frames (suc t) rs os

abbrev pub blame_if : ℕ → ℕ → List ℕ
blame_if p zero = []
blame_if p (suc m) = blame_frame p

-- what f writes for each cell, from number k on
unfoldable pub cell_frames : (ℕ → ℕ → List ℕ) → ℕ → List ℕ → List ℕ
cell_frames f k [] = []
cell_frames f k (c ∷ cells) = f k c ++ cell_frames f (suc k) cells

-- a frame for each blamed proposition
abbrev pub blame_frames : List ℕ → List ℕ
blame_frames = cell_frames blame_if 0

-- a frame for each question
abbrev pub answer_frames : List ℕ → List ℕ
answer_frames = cell_frames answer_frame 0

abbrev pub middle : Verdict → Outcome → List ℕ
middle Satisfiable o = label_frames 0 o.representatives o.offsets
middle Contradiction o = blame_frames o.marks

unfoldable pub outcome_frames : Outcome → List ℕ
outcome_frames o = verdict_frame o.verdict ++ (middle o.verdict o ++ answer_frames o.answers)

-- the outcome of the set that the records hold
unfoldable pub solved : Records → Outcome
solved R =
    outcome (map (λ r. or_default (auxiliary 0) (term_of r)) R.terms)
    (map (λ p. or_default (block_disequality 0 0) (proposition_of p)) R.propositions)
    R.questions

abbrev pub reading_frames : Reading → List ℕ
reading_frames (accepted R) = outcome_frames (solved R)
reading_frames (refused f) = refusal_frame f

unfoldable pub output : List ℕ → List ℕ
output text = reading_frames (reading (take judged text))
