-- The rows that an accepted text leaves hold its records.
use Rattle.std.specs.Prelude.{ℕ, zero, suc, ◌+◌, ◌<◌, ◌≤◌, ◌≡◌, refl, length, take, drop, get_or}
use Rattle.std.proofs.Common.{◌∙◌, SFits}
use Rattle.std.proofs.Math.Path.{ap}
use mathlib.Core.List.{List, [], ◌∷◌, map}
use Rattle.std.proofs.Math.Option.{none, some}
use native.Mathlib.Omega.{arith}
use Rattle.std.proofs.lemmas.List.{length-map}
use Rattle.std.proofs.Math.ListN.{get_or-append}
use Rattle.std.proofs.Math.Seq.{take-length}
use Rattle.std.specs.Int.{w64}
use Rattle.lists.specs.Items.{Item, item_below, item_map}
use Rattle.lists.specs.Tabulate.{tabulate}
use Rattle.rules.specs.Terms.{Term, variable, auxiliary, deref, block_disequality, Comparison}
use Rattle.offsets.specs.Fits.{within_fits}
use Rattle.tables.specs.Records.{TermRecord, PropositionRecord, term_of, proposition_of, question_of, offset_in_range, or_default}
use Rattle.tables.specs.Stands.{StandsFor}
use Rattle.tables.proofs.Stands.{stands_for, deref_within, asserts, in_range_lem, when_some}
use Rattle.tables.specs.Refusals.{term_fault, proposition_fault, question_fault}
use Rattle.tables.specs.RefusalLaws.{or_else_none, malformed_none}
use Rattle.tables.specs.Rows.{Row, term_of_row, row_of_term, term_in, proposition_of_row, row_of_proposition, proposition_in, question_of_row, row_of_question, question_in}
use Rattle.tables.specs.RowLaws.{term_back, proposition_back, question_back}
use Rattle.tables.specs.TermTable.{terms_from}
use Rattle.tables.specs.PropositionTable.{propositions_from}
use Rattle.tables.specs.QuestionTable.{asked, questions_from}
use Rattle.lists.specs.Overwrite.{overwrite}
use Rattle.text.specs.Reading.{Records}
use Rattle.text.proofs.Sound.{Sound}
use Rattle.frames.specs.Rows.{Rows, asking, rows_with}

-- the offset of a record without fault fits its field
term_fits : (earlier : List TermRecord) (r : TermRecord) → term_fault earlier r ≡ none → SFits w64 r.offset
unfolding term_fault
term_fits earlier r e =
    let well = malformed_none (term_of r) (or_else_none _ _ e).0 in
    go well.0 well.1 (stands_for r well.0 well.1)
  where
    go : (x : Term) → term_of r ≡ some x → StandsFor r x → SFits w64 r.offset
    go (variable n) e s = rw s.offset (record { sfits = omega arith })
    go (auxiliary n) e s = rw s.offset (record { sfits = omega arith })
    go (deref z t) e s = within_fits (omega arith) (deref_within r (deref z t) e s.kind)

proposition_fits : (n : ℕ) (p : PropositionRecord) → proposition_fault n p ≡ none → SFits w64 p.offset
unfolding proposition_fault
proposition_fits n p e =
    let well = malformed_none (proposition_of p) (or_else_none _ _ e).0 in
    within_fits (omega arith) (asserts p well.0 well.1).within

question_fits : (n : ℕ) (q : Comparison) → question_fault n q ≡ none → SFits w64 q.offset
unfolding question_fault question_of
question_fits n q e =
    let well = malformed_none (question_of q) (or_else_none _ _ e).0 in
    within_fits (omega arith) (in_range_lem q.offset (when_some (offset_in_range q.offset) q well.0 well.1).0)

tabulate_map : {A B : Type 0} (g : A → B) (f : ℕ → A) (l : List A) (k : ℕ)
    → ((i : ℕ) (x : A) → Item l i x → f (k + i) ≡ x)
    → tabulate (λ i. g (f i)) k (length l) ≡ map g l
unfolding tabulate
tabulate_map g f [] k e = refl
tabulate_map g f (x ∷ l) k e =
    let n : k + 0 ≡ k = omega arith in
    let h : f k ≡ x = rw n at (e 0 x refl) in
    rw (h, tabulate_map g f l (suc k) (λ i y j. let m : suc k + i ≡ k + suc i = omega arith in rw m (e (suc i) y j)))

tabulate_take : {A : Type 0} (f : ℕ → A) (l : List A) (k n : ℕ) → n ≤ length l → ((i : ℕ) (x : A) → Item l i x → f (k + i) ≡ x) → tabulate f k n ≡ take n l
unfolding tabulate
tabulate_take f l k zero h e = refl
tabulate_take f [] k (suc n) h e = absurd (omega arith)
tabulate_take f (x ∷ l) k (suc n) h e =
    let s : k + 0 ≡ k = omega arith in
    let here : f k ≡ x = rw s at (e 0 x refl) in
    rw (here, tabulate_take f l (suc k) n (omega arith) (λ i y j. let m : suc k + i ≡ k + suc i = omega arith in rw m (e (suc i) y j)))

module _ {A B : Type 0} (f : A → B) (rs : List A) (old : List B) (d : B) where
  overwrite_at : (k : ℕ) (x : A) → Item rs k x → get_or (overwrite (map f rs) old) k d ≡ f x
  overwrite_at k x i =
      let h : k < length (map f rs) = rw (length-map rs f) (item_below rs k i) in
      get_or-append (map f rs) (drop (length (map f rs)) old) d k h ∙ item_map f rs k d i

module _ (R : Records) (C : Rows) (s : Sound R) where
  -- record k of each table is the text's
  pub term_held_lem : (k : ℕ) (x : TermRecord) → Item R.terms k x → term_in (rows_with R C).terms k ≡ x
  unfolding rows_with
  term_held_lem k x i = ap term_of_row (overwrite_at row_of_term R.terms C.terms [] k x i) ∙ term_back x (term_fits _ x (s.terms k x i))

  pub proposition_held_lem : (k : ℕ) (x : PropositionRecord) → Item R.propositions k x → proposition_in (rows_with R C).propositions k ≡ x
  unfolding rows_with
  proposition_held_lem k x i =
      ap proposition_of_row (overwrite_at row_of_proposition R.propositions C.propositions [] k x i)
      ∙ proposition_back x (proposition_fits _ x (s.propositions k x i))

  pub question_held : (k : ℕ) (x : Comparison) → Item R.questions k x → asked (question_in (rows_with R C).questions k) ≡ x
  unfolding rows_with
  question_held k x i =
      ap (λ (r : Row). asked (question_of_row r)) (overwrite_at (λ q. row_of_question (asking q)) R.questions C.questions [] k x i)
      ∙ ap asked (question_back (asking x) (question_fits _ x (s.questions k x i)))

  -- the first n term records
  pub front_held : (n : ℕ) → n ≤ length R.terms → tabulate (term_in (rows_with R C).terms) 0 n ≡ take n R.terms
  front_held n h = tabulate_take (term_in (rows_with R C).terms) R.terms 0 n h (λ k x i. let z : 0 + k ≡ k = omega arith in rw z (term_held_lem k x i))

  pub terms_held : terms_from (length R.terms) (term_in (rows_with R C).terms) ≡ map (λ r. or_default (auxiliary 0) (term_of r)) R.terms
  unfolding terms_from
  terms_held =
      tabulate_map (λ r. or_default (auxiliary 0) (term_of r)) (term_in (rows_with R C).terms) R.terms 0
      (λ k x i. let z : 0 + k ≡ k = omega arith in rw z (term_held_lem k x i))

  pub propositions_held : propositions_from (length R.propositions) (proposition_in (rows_with R C).propositions) ≡ map (λ p. or_default (block_disequality 0 0) (proposition_of p)) R.propositions
  unfolding propositions_from
  propositions_held =
      tabulate_map (λ p. or_default (block_disequality 0 0) (proposition_of p)) (proposition_in (rows_with R C).propositions) R.propositions 0
      (λ k x i. let z : 0 + k ≡ k = omega arith in rw z (proposition_held_lem k x i))

  pub questions_held : questions_from (length R.questions) (question_in (rows_with R C).questions) ≡ R.questions
  unfolding questions_from
  questions_held =
      tabulate_take (λ k. asked (question_in (rows_with R C).questions k)) R.questions 0 (length R.questions) (omega arith)
      (λ k x i. let z : 0 + k ≡ k = omega arith in rw z (question_held k x i))
      ∙ take-length R.questions
