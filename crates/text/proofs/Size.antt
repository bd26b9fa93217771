-- An accepted text is short, so the bytes that are judged decide what the program writes; and no place of a refusal is large.
use Rattle.std.specs.Prelude.{ℕ, zero, suc, ◌+◌, ◌*◌, ◌-◌, ◌<◌, ◌≤◌, ◌≡◌, refl, Bool, true, false, List, [], ◌∷◌, eqb, ltb, length, take}
use Rattle.std.proofs.Common.{ap, sym, ◌∙◌, arith, lt-ltb, le-ltb, ltb-true, ltb-false, length-append}
use Rattle.std.proofs.Math.Option.{none}
use Rattle.lists.specs.Search.{choose}
use Rattle.types.specs.declared.Refusal.TheVariants.{Malformed}
use Rattle.tables.specs.Limits.{most}
use Rattle.text.specs.Lines.{Line, lf, bytes_of, before, lines_of}
use Rattle.text.specs.Frames.{Frame, term, proposition, question, frame_of, frame_of_bytes}
use Rattle.text.proofs.FrameLaws.{frame_bytes, characters_size, line_framed, line_long}
use Rattle.tables.specs.Refusals.{Fault}
use Rattle.text.specs.Reading.{Records, nothing, accepted, refused, with_frame, Step, refuse, go_on, step_frame, step, after, read_lines, reading}
use Rattle.text.proofs.Laws.{step_frame_lem, Admitted, frame_admitted, step_unended}
use Rattle.text.specs.Output.{judged, reading_frames, output}

-- the bytes of the longest accepted text: 512 terms of 15 bytes, 512 propositions and 512 questions of 19
abbrev pub largest_text : ℕ
largest_text = most * 15 + 2 * most * 19

-- the most bytes of the frames for which there is still room
unfoldable room_left : Records → ℕ
room_left R = 15 * (most - length R.terms) + 19 * (most - length R.propositions) + 19 * (most - length R.questions)

frame_room : (R : Records) (f : Frame) → Admitted R f → room_left (with_frame R f) + frame_bytes f ≤ room_left R
unfolding room_left with_frame
frame_room R (term r) a = omega (arith, a.2, length-append R.terms (r ∷ []))
frame_room R (proposition p) a = omega (arith, a.0, length-append R.propositions (p ∷ []))
frame_room R (question q) a = omega (arith, a.0, length-append R.questions (q ∷ []))

-- an accepted line takes its bytes from that room
step_room : (R S : Records) (l : Line) → step R l ≡ go_on S → room_left S + (length l.characters + 1) ≤ room_left R
step_room R S l e =
    let a = step_frame_lem R S l e in
    let f = a.0 in
    let s = characters_size l.characters f (line_framed l f a.1).1 in
    let r = frame_room R f (frame_admitted R f a.2) in
    rw a.3 (omega arith)

-- the bytes of lines that all have their LF
abbrev lines_size : List Line → ℕ
lines_size [] = 0
lines_size (l ∷ ls) = length l.characters + 1 + lines_size ls

text_size : (text : List ℕ) → length text ≤ lines_size (lines_of text)
unfolding lines_of
text_size [] = omega arith
text_size (c ∷ text) = go (eqb c lf) (lines_of text) (text_size text)
  where
    go : (b : Bool) (ls : List Line) → length text ≤ lines_size ls → suc (length text) ≤ lines_size (choose b (record { characters = []; ended = true } ∷ ls) (before c ls))
    go true ls h = omega arith
    go false [] h = omega arith
    go false (l ∷ ls) h = omega arith

lines_size_lem : (k : ℕ) (R S : Records) (ls : List Line) → read_lines k R ls ≡ accepted S → lines_size ls ≤ room_left R
unfolding read_lines
lines_size_lem k R S [] e = omega arith
lines_size_lem k R S (l ∷ ls) e = go (step R l) refl (λ T g. lines_size_lem (suc k) T S ls g) e
  where
    go : (s : Step) → step R l ≡ s → ((T : Records) → read_lines (suc k) T ls ≡ accepted S → lines_size ls ≤ room_left T) → after k s (λ T. read_lines (suc k) T ls) ≡ accepted S → lines_size (l ∷ ls) ≤ room_left R
    go (refuse r) t ih g = let z : ◌≡◌ {A = ℕ} 0 1 = cc in absurd (omega arith)
    go (go_on T) t ih g = omega (arith, step_room R T l t, ih T g)

pub accepted_size : (text : List ℕ) (R : Records) → reading text ≡ accepted R → length text ≤ largest_text
unfolding room_left reading
accepted_size text R e = omega (arith, text_size text, lines_size_lem 0 nothing R (lines_of text) e)

-- the records for which there is still room
unfoldable records_left : Records → ℕ
records_left R = (most - length R.terms) + (most - length R.propositions) + (most - length R.questions)

frame_record : (R : Records) (f : Frame) → Admitted R f → records_left (with_frame R f) + 1 ≤ records_left R
unfolding records_left with_frame
frame_record R (term r) a = omega (arith, a.2, length-append R.terms (r ∷ []))
frame_record R (proposition p) a = omega (arith, a.0, length-append R.propositions (p ∷ []))
frame_record R (question q) a = omega (arith, a.0, length-append R.questions (q ∷ []))

lines_place : (k : ℕ) (R : Records) (ls : List Line) (f : Fault) → read_lines k R ls ≡ refused f → f.place ≤ k + records_left R
unfolding read_lines
lines_place k R [] f e = let z : ◌≡◌ {A = ℕ} 0 1 = cc in absurd (omega arith)
lines_place k R (l ∷ ls) f e = go (step R l) refl (λ S g. lines_place (suc k) S ls f g) e
  where
    go : (s : Step) → step R l ≡ s → ((S : Records) → read_lines (suc k) S ls ≡ refused f → f.place ≤ suc k + records_left S) → after k s (λ S. read_lines (suc k) S ls) ≡ refused f → f.place ≤ k + records_left R
    go (refuse r) t ih g = let is : record { refusal = r; place = k } ≡ f = cc in let p = ap (λ (x : Fault). x.place) is in omega arith
    go (go_on S) t ih g =
        let a = step_frame_lem R S l t in
        let c = frame_record R a.0 (frame_admitted R a.0 a.2) in
        omega (arith, ih S g, rw (← a.3) at c)

-- every line before the refused one gave a record, so two bytes hold its number
pub refused_place : (text : List ℕ) (f : Fault) → reading text ≡ refused f → f.place ≤ 3 * most
unfolding records_left reading
refused_place text f e = omega (arith, lines_place 0 nothing (lines_of text) f e)

-- the lines of the first n bytes of a text, where the lines after the first have become `rest`
abbrev cut_first : ℕ → Line → List Line → List Line
cut_first zero l rest = []
cut_first (suc n) l rest =
    choose (ltb (length l.characters) (suc n)) (l ∷ rest)
    (record { characters = take (suc n) l.characters; ended = false } ∷ [])

abbrev cut : List Line → ℕ → List Line
cut [] n = []
cut (l ∷ ls) n = cut_first n l (cut ls (n - suc (length l.characters)))

cut_nothing : (ls : List Line) → cut ls 0 ≡ []
cut_nothing [] = refl
cut_nothing (l ∷ ls) = refl

-- a character more
cut_before : (c n : ℕ) (ls : List Line) → before c (cut ls n) ≡ cut (before c ls) (suc n)
cut_before c n [] = go (ltb 1 (suc n)) n
  where
    go : (b : Bool) (n : ℕ) → ◌≡◌ {A = List Line} (record { characters = c ∷ []; ended = false } ∷ []) (choose b (record { characters = c ∷ []; ended = false } ∷ []) (record { characters = c ∷ take n []; ended = false } ∷ []))
    go true n = refl
    go false zero = refl
    go false (suc n) = refl
cut_before c zero (l ∷ ls) = rw (le-ltb (suc (length l.characters)) 1 (omega arith))
cut_before c (suc n) (l ∷ ls) = go (ltb (length l.characters) (suc n)) refl
  where
    go : (b : Bool) → ltb (length l.characters) (suc n) ≡ b → before c (cut_first (suc n) l (cut ls (suc n - suc (length l.characters)))) ≡ cut (before c (l ∷ ls)) (suc (suc n))
    go true e =
        let h = ltb-true (length l.characters) (suc n) e in
        let m : suc (suc n) - suc (suc (length l.characters)) ≡ suc n - suc (length l.characters) = omega arith in
        rw (e, lt-ltb (suc (length l.characters)) (suc (suc n)) (omega arith), m)
    go false e =
        let h = ltb-false (length l.characters) (suc n) e in
        rw (e, le-ltb (suc (length l.characters)) (suc (suc n)) (omega arith))

lines_of_take : (text : List ℕ) (n : ℕ) → lines_of (take n text) ≡ cut (lines_of text) n
unfolding lines_of
lines_of_take [] zero = refl
lines_of_take [] (suc n) = refl
lines_of_take (c ∷ text) zero = sym (cut_nothing (lines_of (c ∷ text)))
lines_of_take (c ∷ text) (suc n) = go (eqb c lf) (lines_of_take text n)
  where
    go : (b : Bool) → lines_of (take n text) ≡ cut (lines_of text) n → choose b (record { characters = []; ended = true } ∷ lines_of (take n text)) (before c (lines_of (take n text))) ≡ cut (choose b (record { characters = []; ended = true } ∷ lines_of text) (before c (lines_of text))) (suc n)
    go true ih =
        let m : suc n - 1 ≡ n = omega arith in
        rw (ih, lt-ltb 0 (suc n) (omega arith), m)
    go false ih = rw ih (cut_before c n (lines_of text))

step_long : (R : Records) (l : Line) → 18 < length l.characters → step R l ≡ refuse Malformed
unfolding step frame_of
step_long R l h = go l.ended
  where
    go : (b : Bool) → step_frame R (choose b (frame_of_bytes (bytes_of l.characters)) none) ≡ refuse Malformed
    go true = rw (line_long l.characters h)
    go false = refl

cut_reads : (ls : List Line) (n k : ℕ) (R : Records) → room_left R + 19 ≤ n → read_lines k R (cut ls n) ≡ read_lines k R ls
unfolding read_lines
cut_reads [] n k R h = refl
cut_reads (l ∷ ls) zero k R h = absurd (omega arith)
cut_reads (l ∷ ls) (suc n) k R h =
    let m = suc n - suc (length l.characters) in
    go m (omega arith) (ltb (length l.characters) (suc n)) refl (step R l) refl (λ S g. cut_reads ls m (suc k) S g)
  where
    go : (m : ℕ)
        → n ≤ m + length l.characters
        → (b : Bool)
        → ltb (length l.characters) (suc n) ≡ b
        → (s : Step)
        → step R l ≡ s
        → ((S : Records) → room_left S + 19 ≤ m → read_lines (suc k) S (cut ls m) ≡ read_lines (suc k) S ls)
        → read_lines k R (choose b (l ∷ cut ls m) (record { characters = take (suc n) l.characters; ended = false } ∷ [])) ≡ after k s (λ S. read_lines (suc k) S ls)
    go m left true e (refuse r) s ih = rw s
    go m left true e (go_on S) s ih = rw s (ih S (omega (arith, step_room R S l s)))
    go m left false e s t ih =
        let long = ltb-false (length l.characters) (suc n) e in
        let g : s ≡ refuse Malformed = sym t ∙ step_long R l (omega arith) in
        rw (step_unended R (take (suc n) l.characters), g)

pub judged_enough : (text : List ℕ) → reading (take judged text) ≡ reading text
unfolding room_left reading
judged_enough text = ap (read_lines 0 nothing) (lines_of_take text judged) ∙ cut_reads (lines_of text) judged 0 nothing (omega arith)

pub output_all : (text : List ℕ) → output text ≡ reading_frames (reading text)
unfolding output
output_all text = ap reading_frames (judged_enough text)
