-- Paper 01's numbers for verdicts, answers and refusals.
use Rattle.std.specs.Prelude.{ℕ}
use Rattle.types.specs.declared.Verdict.{Verdict}
use Rattle.types.specs.declared.Verdict.TheVariants.{Satisfiable, Contradiction}
use Rattle.types.specs.declared.Answer.{Answer}
use Rattle.types.specs.declared.Answer.TheVariants.{Neither, Equal, Different, Contradictory}
use Rattle.types.specs.declared.Refusal.{Refusal}
use Rattle.types.specs.declared.Refusal.TheVariants.{TooManyTerms, TooManyPropositions, TooManyQuestions, InnerNotListed, AtomListedTwice, PropositionTermNotListed, QuestionTermNotListed, TooShort, Malformed, GroupOrder}

abbrev pub number_of_verdict : Verdict → ℕ
number_of_verdict Satisfiable = 0
number_of_verdict Contradiction = 1

abbrev pub number_of_answer : Answer → ℕ
number_of_answer Neither = 0
number_of_answer Equal = 1
number_of_answer Different = 2
number_of_answer Contradictory = 3

abbrev pub number_of_refusal : Refusal → ℕ
number_of_refusal TooManyTerms = 1
number_of_refusal TooManyPropositions = 2
number_of_refusal TooManyQuestions = 3
number_of_refusal InnerNotListed = 4
number_of_refusal AtomListedTwice = 5
number_of_refusal PropositionTermNotListed = 6
number_of_refusal QuestionTermNotListed = 7
number_of_refusal TooShort = 8
number_of_refusal Malformed = 9
number_of_refusal GroupOrder = 10
