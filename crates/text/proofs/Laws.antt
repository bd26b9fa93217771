-- An accepted line holds a frame without fault; a refusal's place is the number of a line, whose characters are handed back.
use Rattle.std.specs.Prelude.{ℕ, zero, suc, ◌+◌, ◌<◌, ◌≤◌, ◌≡◌, refl, Bool, true, false, not, ◌||◌, List, [], ◌∷◌, eqb, length, get_or, take, drop}
use Rattle.std.proofs.Common.{sym, ap, arith, drop-cons, leb-false}
use Rattle.std.proofs.Math.Option.{Option, none, some}
use Rattle.lists.specs.Items.{Item, not_in_empty, get_d_item}
use Rattle.lists.specs.Search.{choose}
use Rattle.types.specs.declared.Refusal.{Refusal}
use Rattle.types.specs.declared.Refusal.TheVariants.{TooManyTerms, TooManyPropositions, TooManyQuestions, Malformed, GroupOrder}
use Rattle.tables.specs.Limits.{most}
use Rattle.tables.specs.Refusals.{Fault, or_else, refuse_if, term_name_fault, proposition_name_fault, question_name_fault}
use Rattle.tables.specs.RefusalLaws.{or_else_none, refuse_if_none}
use Rattle.text.specs.Lines.{Line, lf, before, lines_of}
use Rattle.text.specs.Frames.{Frame, term, proposition, question, frame_of}
use Rattle.text.specs.Reading.{Records, nothing, reading, line_start, part_of, refused, is_empty, full, frame_fault, with_frame, Step, refuse, go_on, step_fault, step_frame, step, after, read_lines}

not_full : {A : Type 0} (l : List A) (r : Refusal) (o : Option Refusal) → or_else (refuse_if (full l) r) o ≡ none → (length l < most) × (o ≡ none)
not_full l r o e =
    let a = or_else_none (refuse_if (full l) r) o e in
    (leb-false most (length l) (refuse_if_none (full l) r a.0), a.1)

-- an accepted line: its frame, which has no fault after the records R, and the records with it
pub step_frame_lem : (R S : Records) (l : Line) → step R l ≡ go_on S → (f : Frame) × (frame_of l ≡ some f) × (frame_fault R f ≡ none) × (S ≡ with_frame R f)
unfolding step
step_frame_lem R S l = go (frame_of l) refl
  where
    fault : (f : Frame) (o : Option Refusal) → step_fault R f o ≡ go_on S → (o ≡ none) × (S ≡ with_frame R f)
    fault f none e = (refl, cc)
    fault f (some r) e = let z : ◌≡◌ {A = ℕ} 0 1 = cc in absurd (omega arith)

    go : (o : Option Frame) → frame_of l ≡ o → step_frame R o ≡ go_on S → (f : Frame) × (o ≡ some f) × (frame_fault R f ≡ none) × (S ≡ with_frame R f)
    go none e s = let z : ◌≡◌ {A = ℕ} 0 1 = cc in absurd (omega arith)
    go (some f) e s = let r = fault f (frame_fault R f) s in (f, refl, r.0, r.1)

-- what a frame without fault has
abbrev pub Admitted : Records → Frame → Type 0
Admitted R (term r) =
    (is_empty R.propositions ≡ true) × (is_empty R.questions ≡ true) × (length R.terms < most) × (term_name_fault R.terms r ≡ none)
Admitted R (proposition p) = (length R.propositions < most) × (proposition_name_fault (length R.terms) p ≡ none)
Admitted R (question q) = (length R.questions < most) × (question_name_fault (length R.terms) q ≡ none)

pub frame_admitted : (R : Records) (f : Frame) → frame_fault R f ≡ none → Admitted R f
unfolding frame_fault
frame_admitted R (term r) e =
    let a = or_else_none (refuse_if (not (is_empty R.propositions) || not (is_empty R.questions)) GroupOrder) _ e in
    let g = groups (is_empty R.propositions) (is_empty R.questions) (refuse_if_none _ GroupOrder a.0) in
    let m = not_full R.terms TooManyTerms (term_name_fault R.terms r) a.1 in
    (g.0, g.1, m.0, m.1)
  where
    groups : (a b : Bool) → (not a || not b) ≡ false → (a ≡ true) × (b ≡ true)
    groups true true e = (refl, refl)
    groups true false e = (refl, sym e)
    groups false b e = (sym e, cc)
frame_admitted R (proposition p) e =
    not_full R.propositions TooManyPropositions (proposition_name_fault (length R.terms) p)
    (or_else_none (refuse_if (not (is_empty R.questions)) GroupOrder) _ e).1
frame_admitted R (question q) e = not_full R.questions TooManyQuestions (question_name_fault (length R.terms) q) e

-- a line without its LF holds no frame
pub step_unended : (R : Records) (cs : List ℕ) → step R (record { characters = cs; ended = false }) ≡ refuse Malformed
unfolding step frame_of
step_unended R cs = refl

-- the place of a refusal is the number of one of the lines
pub refused_line : (k : ℕ) (R : Records) (ls : List Line) (f : Fault) → read_lines k R ls ≡ refused f → (k ≤ f.place) × (f.place < k + length ls)
unfolding read_lines
refused_line k R [] f e = let z : ◌≡◌ {A = ℕ} 0 1 = cc in absurd (omega arith)
refused_line k R (l ∷ ls) f e = go (step R l) e (λ S h. refused_line (suc k) S ls f h)
  where
    go : (s : Step) → after k s (λ S. read_lines (suc k) S ls) ≡ refused f → ((S : Records) → read_lines (suc k) S ls ≡ refused f → (suc k ≤ f.place) × (f.place < suc k + length ls)) → (k ≤ f.place) × (f.place < k + suc (length ls))
    go (refuse r) h ih = let is : record { refusal = r; place = k } ≡ f = cc in let p = ap (λ (x : Fault). x.place) is in (omega arith, omega arith)
    go (go_on S) h ih = let r = ih S h in (omega arith, omega arith)

-- a line's characters stand where it starts
line_characters : (text : List ℕ) (k : ℕ) (l : Line) → Item (lines_of text) k l → take (length l.characters) (drop (line_start (lines_of text) k) text) ≡ l.characters
unfolding lines_of line_start
line_characters [] k l i = absurd (not_in_empty (k, i))
line_characters (c ∷ text) k l i = go (eqb c lf) (lines_of text) (line_characters text) k i
  where
    -- of the lines of the rest
    Rest : List Line → Type 0
    Rest ls = (j : ℕ) (m : Line) → Item ls j m → take (length m.characters) (drop (line_start ls j) text) ≡ m.characters

    joined : (ls : List Line) → Rest ls → (j : ℕ) → Item (before c ls) j l → take (length l.characters) (drop (line_start (before c ls) j) (c ∷ text)) ≡ l.characters
    joined [] rest zero h = let is : record { characters = c ∷ []; ended = false } ≡ l = cc in rw (← is)
    joined [] rest (suc j) h = absurd (not_in_empty (j, h))
    joined (m ∷ ls) rest zero h = let is : record { characters = c ∷ m.characters; ended = m.ended } ≡ l = cc in rw (← is) (ap (λ r. c ∷ r) (rest zero m refl))
    joined (m ∷ ls) rest (suc j) h =
        let e : suc (length m.characters) + 1 + line_start ls j ≡ suc (length m.characters + 1 + line_start ls j) = omega arith in
        rw e (rest (suc j) l h)

    go : (b : Bool) (ls : List Line) → Rest ls → (j : ℕ) → Item (choose b (record { characters = []; ended = true } ∷ ls) (before c ls)) j l → take (length l.characters) (drop (line_start (choose b (record { characters = []; ended = true } ∷ ls) (before c ls)) j) (c ∷ text)) ≡ l.characters
    go true ls rest zero h = let a : record { characters = []; ended = true } ≡ l = cc in rw (← a)
    go true ls rest (suc j) h = let e : 1 + line_start ls j ≡ suc (line_start ls j) = omega arith in rw e (rest j l h)
    go false ls rest j h = joined ls rest j h

-- the part of a refused text that is handed back holds the characters of the faulty line
pub part_characters : (text : List ℕ) (f : Fault) → reading text ≡ refused f → (l : Line) × Item (lines_of text) f.place l × (let p = part_of text (refused f) in take p.size (drop p.start text) ≡ l.characters)
unfolding reading
part_characters text f e =
    let d : Line = record { characters = []; ended = true } in
    let h : f.place < length (lines_of text) = let r = (refused_line 0 nothing (lines_of text) f e).1 in omega arith in
    let i = get_d_item (lines_of text) f.place d h in
    let l = get_or (lines_of text) f.place d in
    let s : drop f.place (lines_of text) ≡ l ∷ drop (suc f.place) (lines_of text) = drop-cons (lines_of text) f.place d h in
    (l, i, rw s (line_characters text f.place l i))
