-- The answers to the questions that rows hold, by the places of their sides.
use Rattle.std.specs.Prelude.{ℕ, ◌+◌, ◌<◌, ◌≤◌, ◌≡◌, ◌≢◌, List, ℤ, pos, ◌+ℤ◌, length, get_or, set}
use Rattle.std.proofs.Common.{◌∙◌, ⊎_elim, arith, length-set, get_or-set_same, get_or-set_other}
use Rattle.lists.specs.Filled.{same_or_not}
use Rattle.types.specs.declared.Answer.{Answer}
use Rattle.types.specs.Numbers.{number_of_answer}
use Rattle.rules.specs.Terms.{Comparison}
use Rattle.integers.specs.Within.{Within}
use Rattle.labels.specs.Spread.{far}
use Rattle.tables.specs.Limits.{most}
use Rattle.tables.specs.Rows.{Row, question_in}
use Rattle.tables.specs.QuestionTable.{asked}
use Rattle.tables.specs.Sets.{Set}
use Rattle.marking.specs.Marks.{Adds, zeros}
use Rattle.placing.specs.Filling.{Lifted, TermPlaces, ReadPlaces, SidePlaces}
use Rattle.placing.specs.Apart.{ApartClasses}
use Rattle.questions.specs.Answers.{Judged}

-- the labels and the heights of n terms
pub record Placed (n : ℕ) (reps : List ℕ) (offs : List ℤ) (heights : List ℕ) : Type 0 where
  pub few : n ≤ most
  pub reps_long : length reps ≡ n
  pub offs_long : length offs ≡ n
  pub below : (t : ℕ) → t < n → get_or reps t 0 < n
  pub near : (t : ℕ) → t < n → Within far (get_or offs t (pos 0))
  pub heights_are : TermPlaces n offs heights

-- the columns of a set
pub record Filled (S : Set) (reps : List ℕ) (offs : List ℤ) (heights reads read_heights leftClasses leftHeights rightClasses rightHeights apart : List ℕ) : Type 0 where
  pub terms : TermPlaces S.terms offs heights
  pub reading : ReadPlaces S.terms S.term reps offs S.terms reads read_heights
  pub sides : SidePlaces S.terms S.proposition reps offs S.propositions leftClasses leftHeights rightClasses rightHeights
  pub apart_classes : Adds S.terms (ApartClasses S reps) (zeros 32768) apart

module _ (n m : ℕ) (reps : List ℕ) (offs : List ℤ) (reads read_heights leftClasses leftHeights rightClasses rightHeights apart pairs : List ℕ) where
  -- the answer r to the question c, by the places of its sides
  pub record RowJudged (c : Comparison) (r : Answer) : Type 0 where
    pub p : ℕ
    pub q : ℕ
    pub left : Lifted p (get_or offs c.left (pos 0))
    pub right : Lifted q (c.offset +ℤ get_or offs c.right (pos 0))
    pub judged : Judged n m reads read_heights leftClasses leftHeights rightClasses rightHeights apart pairs (get_or reps c.left 0) p (get_or reps c.right 0) q r

  -- its byte
  pub record RowTold (c : Comparison) (byte : ℕ) : Type 0 where
    pub answer : Answer
    pub is : byte ≡ number_of_answer answer
    pub judged : RowJudged c answer

  -- the bytes of the first k questions
  pub record RowsTold (rows : List Row) (k : ℕ) (answers : List ℕ) : Type 0 where
    pub long : length answers ≡ length rows
    pub told : (j : ℕ) → j < k → RowTold (asked (question_in rows j)) (get_or answers j 0)

  pub rows_none : {rows : List Row} {answers : List ℕ} → length answers ≡ length rows → RowsTold rows 0 answers
  rows_none e = record { long = e; told = λ j h. absurd (omega arith) }

  pub rows_more : {rows : List Row} {answers : List ℕ} {k v : ℕ} {r : Answer} → RowsTold rows k answers → k < length rows → v ≡ number_of_answer r → RowJudged (asked (question_in rows k)) r → RowsTold rows (k + 1) (set answers k v)
  rows_more {rows} {answers} {k} {v} {r} R h e J = record {
    long = length-set answers k v ∙ R.long;
    told = λ j b. ⊎_elim
        (λ (s : j ≡ k). rw (s, get_or-set_same answers k v 0 (omega (arith, R.long))) (record { answer = r; is = e; judged = J }))
        (λ (d : j ≢ k). rw (get_or-set_other answers k j v 0 d) (R.told j (omega arith)))
        (same_or_not j k);
  }
