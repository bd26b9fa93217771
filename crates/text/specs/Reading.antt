-- What the reader answers to a text.
use Rattle.std.specs.Prelude.{ℕ, zero, suc, ◌+◌, Bool, true, false, not, ◌||◌, List, [], ◌∷◌, ◌++◌, leb, length, drop}
use Rattle.std.proofs.Math.Option.{Option, none, some}
use Rattle.types.specs.declared.Refusal.{Refusal}
use Rattle.types.specs.declared.Refusal.TheVariants.{TooManyTerms, TooManyPropositions, TooManyQuestions, Malformed, GroupOrder}
use Rattle.rules.specs.Terms.{Comparison}
use Rattle.tables.specs.Limits.{most}
use Rattle.tables.specs.Records.{TermRecord, PropositionRecord}
use Rattle.tables.specs.Refusals.{Fault, or_else, refuse_if, term_name_fault, proposition_name_fault, question_name_fault}
use Rattle.text.specs.Lines.{Line, lines_of}
use Rattle.text.specs.Frames.{Frame, term, proposition, question, frame_of}

-- the records read so far, in order
pub record Records : Type 0 where
  pub terms : List TermRecord
  pub propositions : List PropositionRecord
  pub questions : List Comparison

abbrev pub nothing : Records
nothing = record { terms = []; propositions = []; questions = [] }

pub data Reading : Type 0 where
  accepted : Records → Reading
  refused : Fault → Reading

abbrev pub is_empty : {A : Type 0} → List A → Bool
is_empty [] = true
is_empty (x ∷ l) = false

-- no more room for another record
abbrev pub full : {A : Type 0} → List A → Bool
full l = leb most (length l)

-- a frame's fault after the records read so far: 10, then 1 to 3, then 4 to 7
unfoldable pub frame_fault : Records → Frame → Option Refusal
frame_fault R (term r) =
    or_else (refuse_if (not (is_empty R.propositions) || not (is_empty R.questions)) GroupOrder)
    (or_else (refuse_if (full R.terms) TooManyTerms) (term_name_fault R.terms r))
frame_fault R (proposition p) =
    or_else (refuse_if (not (is_empty R.questions)) GroupOrder)
    (or_else (refuse_if (full R.propositions) TooManyPropositions) (proposition_name_fault (length R.terms) p))
frame_fault R (question q) = or_else (refuse_if (full R.questions) TooManyQuestions) (question_name_fault (length R.terms) q)

-- the records with the frame's added
unfoldable pub with_frame : Records → Frame → Records
with_frame R (term r) = record { terms = R.terms ++ (r ∷ []); propositions = R.propositions; questions = R.questions }
with_frame R (proposition p) = record { terms = R.terms; propositions = R.propositions ++ (p ∷ []); questions = R.questions }
with_frame R (question q) = record { terms = R.terms; propositions = R.propositions; questions = R.questions ++ (q ∷ []) }

-- one line after the records read so far: its refusal, or the records with it
pub data Step : Type 0 where
  refuse : Refusal → Step
  go_on : Records → Step

abbrev pub step_fault : Records → Frame → Option Refusal → Step
step_fault R f none = go_on (with_frame R f)
step_fault R f (some r) = refuse r

abbrev pub step_frame : Records → Option Frame → Step
step_frame R none = refuse Malformed
step_frame R (some f) = step_fault R f (frame_fault R f)

unfoldable pub step : Records → Line → Step
step R l = step_frame R (frame_of l)

abbrev pub after : ℕ → Step → (Records → Reading) → Reading
after k (refuse r) next = refused (record { refusal = r; place = k })
after k (go_on R) next = next R

-- the lines from frame number k on
unfoldable pub read_lines : ℕ → Records → List Line → Reading
read_lines k R [] = accepted R
read_lines k R (l ∷ ls) = after k (step R l) (λ S. read_lines (suc k) S ls)

unfoldable pub reading : List ℕ → Reading
reading text = read_lines 0 nothing (lines_of text)

-- where line k starts in the text, and its characters
unfoldable pub line_start : List Line → ℕ → ℕ
line_start ls zero = 0
line_start [] (suc k) = 0
line_start (l ∷ ls) (suc k) = length l.characters + 1 + line_start ls k

abbrev line_length : List Line → ℕ
line_length [] = 0
line_length (l ∷ ls) = length l.characters

-- a part of a text, by its start and its length
pub record Part : Type 0 where
  pub start : ℕ
  pub size : ℕ

-- the part that is handed back: the faulty line without its LF, else the empty part at the start
abbrev pub part_of : List ℕ → Reading → Part
part_of text (accepted R) = record { start = 0; size = 0 }
part_of text (refused f) = record { start = line_start (lines_of text) f.place; size = line_length (drop f.place (lines_of text)) }
