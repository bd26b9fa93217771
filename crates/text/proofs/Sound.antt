-- The records of an accepted text: not more than the limits, and none with a fault.
use Rattle.std.specs.Prelude.{ℕ, zero, suc, ◌≤◌, ◌≡◌, refl, true, List, [], ◌∷◌, ◌++◌, length, take}
use Rattle.std.proofs.Math.Option.{none}
use Rattle.std.proofs.Common.{arith, length-append}
use Rattle.std.proofs.lemmas.List.{take-append-le}
use Rattle.std.proofs.Math.Seq.{take-append_seam}
use Rattle.lists.specs.Items.{Item, item_below, not_in_empty}
use Rattle.rules.specs.Terms.{Comparison}
use Rattle.tables.specs.Limits.{most}
use Rattle.tables.specs.Records.{TermRecord, PropositionRecord}
use Rattle.tables.specs.Refusals.{term_fault, proposition_fault, question_fault}
use Rattle.text.specs.Lines.{Line, lines_of}
use Rattle.text.specs.Frames.{Frame, term, proposition, question}
use Rattle.text.proofs.FrameLaws.{Formed, line_formed}
use Rattle.text.specs.Reading.{Records, nothing, is_empty, accepted, with_frame, Step, refuse, go_on, step, after, read_lines, reading}
use Rattle.text.proofs.Laws.{step_frame_lem, Admitted, frame_admitted}

pub record Sound (R : Records) : Type 0 where
  pub few_terms : length R.terms ≤ most
  pub few_propositions : length R.propositions ≤ most
  pub few_questions : length R.questions ≤ most
  pub terms : (k : ℕ) (r : TermRecord) → Item R.terms k r → term_fault (take k R.terms) r ≡ none
  pub propositions : (k : ℕ) (p : PropositionRecord) → Item R.propositions k p → proposition_fault (length R.terms) p ≡ none
  pub questions : (k : ℕ) (q : Comparison) → Item R.questions k q → question_fault (length R.terms) q ≡ none

module _ {A : Type 0} where
  no_item : (l : List A) → is_empty l ≡ true → (k : ℕ) {x : A} → Item l k x → ⊥
  no_item [] e k i = not_in_empty (k, i)
  no_item (y ∷ l) e k i = let z : ◌≡◌ {A = ℕ} 0 1 = cc in omega arith

  -- what holds of each item, and of one more
  item_more : (P : ℕ → A → Type 0) (l : List A) (x : A) → ((k : ℕ) (y : A) → Item l k y → P k y) → P (length l) x → (k : ℕ) (y : A) → Item (l ++ (x ∷ [])) k y → P k y
  item_more P [] x f p zero y i = let e : x ≡ y = cc in rw e at p
  item_more P [] x f p (suc k) y i = absurd (not_in_empty (k, i))
  item_more P (z ∷ l) x f p zero y i = f zero y i
  item_more P (z ∷ l) x f p (suc k) y i = item_more (λ j. P (suc j)) l x (λ j. f (suc j)) p k y i

-- a record without fault more
sound_frame : (R : Records) (f : Frame) → Sound R → Admitted R f → Formed f → Sound (with_frame R f)
unfolding with_frame term_fault proposition_fault question_fault
sound_frame R (term r) s a w = record {
  few_terms = omega (arith, a.2, length-append R.terms (r ∷ []));
  few_propositions = s.few_propositions;
  few_questions = s.few_questions;
  terms = item_more (λ k x. term_fault (take k (R.terms ++ (r ∷ []))) x ≡ none) R.terms r
      (λ k x i.
      let h = item_below R.terms k i in
      rw (take-append-le k R.terms (r ∷ []) (omega arith)) (s.terms k x i))
      (rw (take-append_seam R.terms (r ∷ []), w) a.3);
  propositions = λ k p i. absurd (no_item R.propositions a.0 k i);
  questions = λ k q i. absurd (no_item R.questions a.1 k i);
}
sound_frame R (proposition p) s a w = record {
  few_terms = s.few_terms;
  few_propositions = omega (arith, a.0, length-append R.propositions (p ∷ []));
  few_questions = s.few_questions;
  terms = s.terms;
  propositions = item_more (λ k x. proposition_fault (length R.terms) x ≡ none) R.propositions p s.propositions (rw w a.1);
  questions = s.questions;
}
sound_frame R (question q) s a w = record {
  few_terms = s.few_terms;
  few_propositions = s.few_propositions;
  few_questions = omega (arith, a.0, length-append R.questions (q ∷ []));
  terms = s.terms;
  propositions = s.propositions;
  questions = item_more (λ k x. question_fault (length R.terms) x ≡ none) R.questions q s.questions (rw w a.1);
}

sound_step : (R S : Records) (l : Line) → step R l ≡ go_on S → Sound R → Sound S
sound_step R S l e s =
    let a = step_frame_lem R S l e in
    let f = a.0 in
    rw a.3 (sound_frame R f s (frame_admitted R f a.2) (line_formed l f a.1))

sound_lines : (ls : List Line) (k : ℕ) (R S : Records) → read_lines k R ls ≡ accepted S → Sound R → Sound S
unfolding read_lines
sound_lines [] k R S e s = let same : R ≡ S = cc in rw same at s
sound_lines (l ∷ ls) k R S e s = go (step R l) refl (λ T g. sound_lines ls (suc k) T S g) e
  where
    go : (t : Step) → step R l ≡ t → ((T : Records) → read_lines (suc k) T ls ≡ accepted S → Sound T → Sound S) → after k t (λ T. read_lines (suc k) T ls) ≡ accepted S → Sound S
    go (refuse r) h ih g = let z : ◌≡◌ {A = ℕ} 0 1 = cc in absurd (omega arith)
    go (go_on T) h ih g = ih T g (sound_step R T l h s)

pub accepted_sound : (text : List ℕ) (R : Records) → reading text ≡ accepted R → Sound R
unfolding reading
accepted_sound text R e = sound_lines (lines_of text) 0 nothing R e (record {
  few_terms = omega arith;
  few_propositions = omega arith;
  few_questions = omega arith;
  terms = λ k r i. absurd (not_in_empty (k, i));
  propositions = λ k p i. absurd (not_in_empty (k, i));
  questions = λ k q i. absurd (not_in_empty (k, i));
})
