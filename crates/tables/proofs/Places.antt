-- No place of a refusal is above the limit.
use Rattle.std.specs.Prelude.{ℕ, zero, suc, ◌+◌, ◌≤◌, ◌≡◌, refl, Bool, true, false, ◌||◌, length}
use Rattle.std.proofs.Math.Option.{Option, none, some}
use Rattle.std.proofs.Common.{arith}
use Rattle.std.proofs.Math.Dec.{ltb}
use Rattle.types.specs.declared.Refusal.{Refusal}
use Rattle.types.specs.declared.Refusal.TheVariants.{TooManyTerms, TooManyPropositions, TooManyQuestions, TooShort}
use Rattle.tables.specs.Limits.{most}
use Rattle.tables.specs.Refusals.{Fault, or_else, fault_if, at_place, first_fault}
use Rattle.tables.specs.Rows.{term_in, proposition_in, question_in}
use Rattle.tables.specs.TermTable.{terms_fault}
use Rattle.tables.specs.PropositionTable.{propositions_fault}
use Rattle.tables.specs.QuestionTable.{questions_fault}
use Rattle.tables.specs.TableFaults.{Tables, count_fault, lengths_fault, sizes_fault, records_fault, tables_fault}
use Rattle.tables.proofs.TableFaults.{sized}
use Rattle.tables.specs.Memory.{Memory, too_short, room_fault, memory_fault, call_fault}

-- the place of a fault, if there is one, is at most n
abbrev Upto : ℕ → Option Fault → Type 0
Upto n o = (f : Fault) → o ≡ some f → f.place ≤ n

placed : (n k : ℕ) (r : Refusal) → k ≤ n → Upto n (some (record { refusal = r; place = k }))
placed n k r h f e = let s : k ≡ f.place = cc in omega arith

nowhere : (n : ℕ) → Upto n none
nowhere n f e = let z : ◌≡◌ {A = ℕ} 0 1 = cc in absurd (omega arith)

-- the second fault matters only where there is no first
either : (n : ℕ) (a b : Option Fault) → Upto n a → (a ≡ none → Upto n b) → Upto n (or_else a b)
either n none b g h = h refl
either n (some a) b g h = g

tested : (n k : ℕ) (b : Bool) (r : Refusal) → k ≤ n → Upto n (fault_if b r k)
tested n k true r h = placed n k r h
tested n k false r h = nowhere n

at_place_lem : (n k : ℕ) (o : Option Refusal) (rest : Option Fault) → k ≤ n → Upto n rest → Upto n (at_place k o rest)
at_place_lem n k none rest h g = g
at_place_lem n k (some r) rest h g = placed n k r h

first : (g : ℕ → Option Refusal) (n k m : ℕ) → k + m ≤ n → Upto n (first_fault g k m)
unfolding first_fault
first g n k zero h = nowhere n
first g n k (suc m) h = at_place_lem n k (g k) (first_fault g (suc k) m) (omega arith) (first g n (suc k) m (omega arith))

module _ (limit : ℕ) (T : Tables) where
  sizes : Upto limit (sizes_fault limit T)
  unfolding lengths_fault
  sizes =
      let short = ltb (length T.terms.rows) T.terms.count || (ltb (length T.propositions.rows) T.propositions.count || ltb (length T.questions.rows) T.questions.count) in
      let many : (n : ℕ) (r : Refusal) → Upto limit (count_fault limit r n) = λ n r. tested limit limit (ltb limit n) r (omega arith) in
      let b = or_else (count_fault limit TooManyQuestions T.questions.count) (fault_if short TooShort 0) in
      let a = or_else (count_fault limit TooManyPropositions T.propositions.count) b in
      either limit (count_fault limit TooManyTerms T.terms.count) a (many T.terms.count TooManyTerms)
      (λ _. either limit (count_fault limit TooManyPropositions T.propositions.count) b (many T.propositions.count TooManyPropositions)
      (λ _. either limit (count_fault limit TooManyQuestions T.questions.count) (fault_if short TooShort 0) (many T.questions.count TooManyQuestions) (λ _. tested limit 0 short TooShort (omega arith))))

  records : sizes_fault limit T ≡ none → Upto limit (records_fault T)
  unfolding records_fault terms_fault propositions_fault questions_fault
  records e =
      let s = sized limit T e in
      let n = T.terms.count in
      let p = propositions_fault n T.propositions.count (proposition_in T.propositions.rows) in
      let q = questions_fault n T.questions.count (question_in T.questions.rows) in
      either limit (terms_fault n (term_in T.terms.rows)) (or_else p q) (first _ limit 0 n (omega (arith, s.few_terms)))
      (λ _. either limit p q (first _ limit 0 T.propositions.count (omega (arith, s.few_propositions))) (λ _. first _ limit 0 T.questions.count (omega (arith, s.few_questions))))

  pub tables_place : (f : Fault) → tables_fault limit T ≡ some f → f.place ≤ limit
  unfolding tables_fault
  tables_place = either limit (sizes_fault limit T) (records_fault T) sizes records

pub call_place : (T : Tables) (M : Memory) (f : Fault) → call_fault T M ≡ some f → f.place ≤ most
unfolding call_fault room_fault
call_place T M =
    either most (sizes_fault most T) (or_else (memory_fault T M) (records_fault T)) (sizes most T)
    (λ s. either most (memory_fault T M) (records_fault T) (tested most 0 short TooShort (omega arith)) (λ _. records most T s))
  where
    short : Bool
    short =
        too_short T.terms.count T.propositions.count T.questions.count
        (length M.representatives)
        (length M.offsets)
        (length M.marks)
        (length M.pairs)
        (length M.answers)
