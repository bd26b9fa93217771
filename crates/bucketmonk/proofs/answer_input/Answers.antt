-- What is read of the text decides the output for it.
use Rattle.std.proofs.Common.{◌≡◌, ℕ, ◌<◌, ◌≤◌, List, rules, [], ◌++◌, Bool, true, false, leb, leb-true, Option, None, Some, IfSome, refl, sym, ap, ◌∙◌, subst, arith, length, take, append-nil, length-take-le, Result, Ok, Err}
use Rattle.std.proofs.lemmas.Bool.{leb-false}
use Rattle.std.proofs.KnownBytes.{Keeps-refl}
use Rattle.std.specs.Io.KnownBytes.{Appends, Consumes, IsAtEnd}
use lib.Seq.{take-append-le}
use Rattle.text.specs.Output.{judged, output}
use Rattle.std.specs.Prelude.{MatchResult, IsErrAnd}
use Rattle.std.specs.declared.io.Error.{Error}
use Rattle.bucketmonk.specs.Answers.{WritesAnswer}
use Rattle.bucketmonk.specs.declared.failure.Failure.{Failure}
use Rattle.bucketmonk.specs.declared.failure.Failure.TheVariants.{Input, Output}
use Rattle.bucketmonk.specs.Calls.{WritesFirst, PutsBytes}
use Rattle.bucketmonk.proofs.answer_input.Goals as goal

-- only the judged bytes of a text decide its output
judged_same : (front rest : List ℕ) (b : Bool) → leb judged (length front) ≡ b → (length front < judged → rest ≡ []) → take judged front ≡ take judged (front ++ rest)
judged_same front rest true e ends = sym (take-append-le judged front rest (leb-true judged (length front) e))
judged_same front rest false e ends = ap (take judged) (sym (append-nil front) ∙ ap (λ l. front ++ l) (sym (ends (leb-false judged (length front) e))))

output_of_front : (front rest : List ℕ) → (length front < judged → rest ≡ []) → output front ≡ output (front ++ rest)
unfolding output
output_of_front front rest ends = rw (judged_same front rest (leb judged (length front)) refl ends) refl

-- the text is known where the input is, and its output is that of the bytes that were read
text_of : (known after : Option (List ℕ)) (n : ℕ) (buffer : List ℕ)
    → length buffer ≡ judged
    → n ≤ length buffer
    → Consumes known after (take n buffer)
    → (n < length buffer → IsAtEnd after)
    → (text : List ℕ) × IfSome known (λ bytes. bytes ≡ text) × (output (take n buffer) ≡ output text)
text_of None after n buffer room fits gone ends = (take n buffer, tt, refl)
text_of (Some bytes) None n buffer room fits gone ends = absurd gone
text_of (Some bytes) (Some rest) n buffer room fits gone ends =
    (bytes, refl, output_of_front (take n buffer) rest (λ less. ends (omega (arith, length-take-le n buffer fits, room, less))) ∙ ap output (sym gone))

text_known : (known : Option (List ℕ)) → (text : List ℕ) × IfSome known (λ bytes. bytes ≡ text)
text_known None = ([], tt)
text_known (Some bytes) = (bytes, refl)

-- a failure tells which stream it is of
unread : (r : Result ℕ Error) (m : Result ℕ Failure) (turns : Error → Failure → Type 0) (f : Failure) → MatchResult r (λ n. m ≡ Ok n) (λ e. IsErrAnd m (turns e)) → m ≡ Err f → ((e : Error) (g : Failure) → turns e g → g ≡ Input e) → (old : Option (List ℕ)) (bytes : List ℕ) → WritesAnswer {A = Unit {0}} (Err f) old old bytes
unread (Ok n) m turns f is err by old bytes = cc
unread (Err e) (Ok n) turns f is err by old bytes = cc
unread (Err e) (Err g) turns f is err by old bytes = let same = by e g is in let s : f ≡ Input e = cc in rw s (Keeps-refl old)

written : (r : Result (Unit {0}) Error) (m : Result (Unit {0}) Failure) (turns : Error → Failure → Type 0) → MatchResult r (λ x. m ≡ Ok x) (λ e. IsErrAnd m (turns e)) → ((e : Error) (g : Failure) → turns e g → g ≡ Output e) → (old new : Option (List ℕ)) (bytes : List ℕ) → PutsBytes r old new bytes → WritesAnswer m old new bytes
written (Ok x) m turns is by old new bytes puts = rw is puts
written (Err e) (Ok x) turns is by old new bytes puts = absurd is
written (Err e) (Err g) turns is by old new bytes puts = rw (by e g is) puts

pub returns-in_err-n : goal.returns-in_err-n
returns-in_err-n g c =
    let known = text_known (g.R.Read.remaining c.args.reader.now) in
    let e : c.from_residual.result ≡ Err c.in_err-n.field-0.0 = search rules in
    (known.0, known.1, rw e (unread c.read_input.result c.map_err.result _ c.in_err-n.field-0.0 c.map_err.ensures.cases c.in_err-n.was (λ a b p. search rules) _ _))

pub returns : goal.returns
returns g c =
    let is : c.read_input.result ≡ Ok c.in_ok-n.n = search rules in
    let within = rw is at c.read_input.ensures.within in
    let bytes = rw is at c.read_input.ensures.bytes in
    let ends = rw is at c.read_input.ensures.end in
    let (text, known, same) = text_of (g.R.Read.remaining c.args.reader.now) (g.R.Read.remaining c.read_input.new.reader) c.in_ok-n.n c.read_input.new.buffer (search rules) within bytes ends in
    (text, known, subst (WritesAnswer _ _ _) same (written c.answer.result c.map_err-2.result _ c.map_err-2.ensures.cases (λ a b p. search rules) _ _ _ c.answer.ensures))
