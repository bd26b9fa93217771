-- Just the rows that the counts say: the set and the questions that they hold are those of the tables.
use Rattle.std.specs.Prelude.{◌≡◌, List, [], length, take}
use Rattle.std.proofs.Common.{◌∙◌, ap, get_or-take, length-take-le}
use Rattle.std.proofs.Math.Option.{none}
use Rattle.tables.specs.Limits.{most}
use Rattle.tables.specs.Rows.{Row, term_of_row, proposition_of_row, question_of_row, term_in, proposition_in, question_in}
use Rattle.tables.proofs.TermTable.{terms_from_ext}
use Rattle.tables.proofs.PropositionTable.{propositions_from_ext}
use Rattle.tables.specs.QuestionTable.{AcceptedQuestions}
use Rattle.tables.proofs.QuestionTable.{questions_from_ext}
use Rattle.tables.specs.Sets.{Set, set_of, AcceptedSet, terms_in, propositions_in}
use Rattle.tables.specs.TableFaults.{Tables, records_fault, Sized}
use Rattle.tables.proofs.TableFaults.{accepted}
use Rattle.refusals.specs.Parts.{parts_fault}
use Rattle.columns.specs.Telling.{questions_in}
use Rattle.solver.specs.Call.{terms_of, propositions_of, questions_of}

abbrev pub counted_set : Tables → Set
counted_set T = set_of (take T.terms.count T.terms.rows) (take T.propositions.count T.propositions.rows)

abbrev pub counted_questions : Tables → List Row
counted_questions T = take T.questions.count T.questions.rows

module _ (T : Tables) (s : Sized most T) where
  pub terms_count : (counted_set T).terms ≡ T.terms.count
  terms_count = length-take-le T.terms.count T.terms.rows s.terms_long

  pub propositions_count : (counted_set T).propositions ≡ T.propositions.count
  propositions_count = length-take-le T.propositions.count T.propositions.rows s.propositions_long

  pub questions_count : length (counted_questions T) ≡ T.questions.count
  questions_count = length-take-le T.questions.count T.questions.rows s.questions_long

  pub counted_terms : terms_in (counted_set T) ≡ terms_of T
  counted_terms =
      let n = T.terms.count in
      let rows = T.terms.rows in
      rw terms_count (terms_from_ext n (term_in (take n rows)) (term_in rows) (λ k h. ap term_of_row (get_or-take n rows k [] h)))

  pub counted_propositions : propositions_in (counted_set T) ≡ propositions_of T
  counted_propositions =
      let m = T.propositions.count in
      let rows = T.propositions.rows in
      rw propositions_count (propositions_from_ext m (proposition_in (take m rows)) (proposition_in rows) (λ k h. ap proposition_of_row (get_or-take m rows k [] h)))

  pub counted_questions_lem : questions_in (counted_questions T) ≡ questions_of T
  counted_questions_lem =
      let q = T.questions.count in
      let rows = T.questions.rows in
      rw questions_count (questions_from_ext q (question_in (take q rows)) (question_in rows) (λ k h. ap question_of_row (get_or-take q rows k [] h)))

  -- the rows that are counted are accepted
  module _ (e : records_fault T ≡ none) where
    pub counted_accepted : AcceptedSet (counted_set T)
    counted_accepted =
        let a = accepted _ (parts_fault most T s ∙ e) in
        record { few_terms = rw terms_count s.few_terms; terms = a.terms; propositions = a.propositions }

    pub counted_asked : AcceptedQuestions (counted_set T).terms (length (counted_questions T)) (question_in (counted_questions T))
    counted_asked = (accepted _ (parts_fault most T s ∙ e)).questions
