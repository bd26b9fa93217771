-- The bytes of the answers are those of the set.
use Rattle.std.specs.Prelude.{ℕ, zero, suc, ◌<◌, ◌≡◌, refl, List, ◌∷◌, map, ℤ}
use Rattle.std.proofs.Math.Path.{sym, ap}
use Rattle.std.proofs.Common.{◌∙◌, arith}
use Rattle.std.proofs.Math.ListN.{length}
use Rattle.std.proofs.Math.Seq.{ext_get_or}
use Rattle.lists.specs.Tabulate.{tabulate, length_tabulate, from_zero}
use Rattle.types.specs.Numbers.{number_of_answer}
use Rattle.rules.specs.Terms.{Comparison}
use Rattle.labels.specs.View.{view}
use Rattle.outcome.specs.Outcome.{answer}
use Rattle.tables.specs.Rows.{Row, question_in}
use Rattle.tables.specs.QuestionTable.{AcceptedQuestions, asked, questions_from}
use Rattle.tables.proofs.QuestionTable.{asked_below}
use Rattle.tables.specs.Sets.{Set, set_of, terms_in}
use Rattle.placing.specs.Filling.{TermPlaces}
use Rattle.placing.specs.Placed.{Labelled}
use Rattle.differences.specs.Table.{Told}
use Rattle.columns.specs.Telling.{facts_in, Labelling, answers_by, questions_in}
use Rattle.columns.specs.Apartness.{rep_below}
use Rattle.columns.specs.Meaning.{answer_told}
use Rattle.columns.specs.Asked.{Filled, Placed, RowsTold}

map_tabulate : {A B : Type 0} (h : A → B) (g : ℕ → A) (k n : ℕ) → map h (tabulate g k n) ≡ tabulate (λ j. h (g j)) k n
unfolding tabulate
map_tabulate h g k zero = refl
map_tabulate {B = B} h g k (suc n) = ap {B = List B} (λ l. h (g k) ∷ l) (map_tabulate h g (suc k) n)

pub as_many : {a b : ℕ} {offs : List ℤ} {heights : List ℕ} → a ≡ b → TermPlaces a offs heights → TermPlaces b offs heights
as_many e T = rw e at T

-- the labels of rows
pub labelled : (terms propositions : List Row) (reps : List ℕ) (offs : List ℤ) → Labelling (set_of terms propositions) reps offs → Labelled terms propositions reps offs
labelled terms propositions reps offs L = record {
  accepted = L.accepted;
  few = L.few_propositions;
  classes = record { few = L.accepted.few_terms; long = L.reps_count; below = rep_below (set_of terms propositions) reps offs L };
  offsets = record { long = L.offs_count; near = L.near };
}

module _
    (S : Set)
    (reps : List ℕ)
    (offs : List ℤ)
    (L : Labelling S reps offs)
    {heights reads read_heights leftClasses leftHeights rightClasses rightHeights apart : List ℕ}
    (F : Filled S reps offs heights reads read_heights leftClasses leftHeights rightClasses rightHeights apart)
  where
    pub placed : Placed S.terms reps offs heights
    placed = record {
      few = L.accepted.few_terms;
      reps_long = L.reps_count;
      offs_long = L.offs_count;
      below = rep_below S reps offs L;
      near = L.near;
      heights_are = F.terms;
    }

    module _
        {size : ℕ}
        {pairs : List ℕ}
        (T : Told S.terms S.propositions reps heights reads read_heights leftClasses leftHeights rightClasses rightHeights apart size pairs)
        (rows : List Row)
        (ok : AcceptedQuestions S.terms (length rows) (question_in rows))
      where
        byte : Comparison → ℕ
        byte c = number_of_answer (answer (terms_in S) (facts_in S) (view reps offs) c)

        pub answers_told : {answers : List ℕ} → RowsTold S.terms S.propositions reps offs reads read_heights leftClasses leftHeights rightClasses rightHeights apart pairs rows (length rows) answers → answers ≡ answers_by S reps offs (questions_in rows)
        unfolding questions_from byte
        answers_told {answers} R =
            ext_get_or 0 answers (tabulate (λ j. byte (asked (question_in rows j))) 0 (length rows))
            (R.long ∙ sym (length_tabulate (λ j. byte (asked (question_in rows j))) 0 (length rows)))
            (λ j h.
            let b : j < length rows = omega (arith, R.long) in
            let t = R.told j b in
            let s = asked_below S.terms (length rows) (question_in rows) ok j b in
            t.is
            ∙ ap number_of_answer (answer_told S reps offs L F.terms F.reading F.sides F.apart_classes T (asked (question_in rows j)) s.0 s.1 t.judged.left t.judged.right t.answer t.judged.judged)
            ∙ sym (from_zero (λ i. byte (asked (question_in rows i))) (length rows) j 0 b))
            ∙ sym (map_tabulate byte (λ j. asked (question_in rows j)) 0 (length rows))
