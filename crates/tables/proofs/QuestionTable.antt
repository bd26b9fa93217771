-- Laws of specs/QuestionTable.
use Rattle.std.specs.Prelude.{ℕ, ◌<◌, ◌≡◌, leb, length}
use Rattle.std.proofs.Common.{sym, ◌∙◌, ap, arith, SFits, leb-false}
use Rattle.std.specs.Int.{w32}
use Rattle.lists.specs.Booleans.{or_false}
use Rattle.lists.specs.Items.{Item, item_below, item_get_d}
use Rattle.lists.specs.Tabulate.{length_tabulate, from_zero, tabulate_ext}
use Rattle.types.specs.declared.Refusal.TheVariants.{QuestionTermNotListed}
use Rattle.types.specs.declared.QuestionRecord.{QuestionRecord}
use Rattle.rules.specs.Terms.{Comparison}
use Rattle.tables.specs.Records.{question_of, offset_in_range}
use Rattle.tables.proofs.Stands.{range_fits, when_some}
use Rattle.tables.specs.Refusals.{malformed, question_name_fault, question_fault}
use Rattle.tables.specs.RefusalLaws.{or_else_none, refuse_if_none, malformed_none}
use Rattle.tables.specs.QuestionTable.{asked, questions_from, AcceptedQuestions}

pub length_questions_from : (q : ℕ) (rec : ℕ → QuestionRecord) → length (questions_from q rec) ≡ q
unfolding questions_from
length_questions_from q rec = length_tabulate (λ k. asked (rec k)) 0 q

-- a question names listed terms
pub asked_below : (n q : ℕ) (rec : ℕ → QuestionRecord) → AcceptedQuestions n q rec → (k : ℕ) → k < q → ((rec k).left < n) × ((rec k).right < n)
unfolding question_fault question_name_fault
asked_below n q rec accepted k h =
    let c = asked (rec k) in
    let f = (or_else_none (malformed (question_of c)) (question_name_fault n c) (accepted k h)).1 in
    let b = or_false (leb n c.left) (leb n c.right) (refuse_if_none _ QuestionTermNotListed f) in
    (leb-false n c.left b.0, leb-false n c.right b.1)

-- its offset fits 32 bits
pub asked_fits : (n q : ℕ) (rec : ℕ → QuestionRecord) → AcceptedQuestions n q rec → (k : ℕ) → k < q → SFits w32 (rec k).offset
unfolding question_fault question_of
asked_fits n q rec accepted k h =
    let c = asked (rec k) in
    let well = malformed_none (question_of c) (or_else_none (malformed (question_of c)) (question_name_fault n c) (accepted k h)).0 in
    range_fits c.offset (when_some (offset_in_range c.offset) c well.0 well.1).0

-- and so does a question of the list
pub question_sides : (n q : ℕ) (rec : ℕ → QuestionRecord) → AcceptedQuestions n q rec → (k : ℕ) {c : Comparison} → Item (questions_from q rec) k c → (c.left < n) × (c.right < n)
unfolding questions_from
question_sides n q rec accepted k {c} i =
    let h : k < q = omega (arith, item_below (questions_from q rec) k i, length_questions_from q rec) in
    let is : c ≡ asked (rec k) = sym (item_get_d (questions_from q rec) k c i) ∙ from_zero (λ j. asked (rec j)) q k c h in
    rw is (asked_below n q rec accepted k h)

-- records that are the same ask the same
pub questions_from_ext : (q : ℕ) (f g : ℕ → QuestionRecord) → ((k : ℕ) → k < q → f k ≡ g k) → questions_from q f ≡ questions_from q g
unfolding questions_from
questions_from_ext q f g same = tabulate_ext _ _ 0 q (λ k h. ap asked (same k (omega arith)))
