-- The tables in their order: each is reached where those before it accept.
use Rattle.std.proofs.Common.{◌≡◌, length, List, ◌∙◌, rules}
use Rattle.tables.specs.Refusals.{or_else}
use Rattle.tables.specs.Rows.{Row}
use Rattle.tables.specs.TableFaults.{Tables, tables_of, records_fault}
use Rattle.refusals.specs.FirstFault.{refused_first, accepted_first}
use Rattle.refusals.specs.Parts.{in_terms, in_propositions, in_questions}
use Rattle.refusals.proofs.check_records.Goals as goal

abbrev tables : List Row → List Row → List Row → Tables
tables T P Q = tables_of (length T) T (length P) P (length Q) Q

pub returns-in_err-check_terms : goal.returns-in_err-check_terms
unfolding records_fault
returns-in_err-check_terms c =
    let T = tables c.args.terms.now c.args.propositions.now c.args.questions.now in
    let e : c.from_residual.result ≡ c.check_terms.result = search rules in
    e ∙ refused_first (in_terms T) (or_else (in_propositions T) (in_questions T)) c.check_terms.ensures c.in_err-check_terms.was

pub returns-in_err-check_propositions : goal.returns-in_err-check_propositions
unfolding records_fault
returns-in_err-check_propositions c =
    let T = tables c.args.terms.now c.args.propositions.now c.args.questions.now in
    let e : c.from_residual-in_err-check_propositions.result ≡ c.check_propositions.result = search rules in
    e
    ∙ accepted_first (in_terms T) (or_else (in_propositions T) (in_questions T)) c.check_terms.ensures c.in_ok-check_terms.was
    (refused_first (in_propositions T) (in_questions T) c.check_propositions.ensures c.in_err-check_propositions.was)

pub returns : goal.returns
unfolding records_fault
returns c =
    let T = tables c.args.terms.now c.args.propositions.now c.args.questions.now in
    accepted_first (in_terms T) (or_else (in_propositions T) (in_questions T)) c.check_terms.ensures c.in_ok-check_terms.was
    (accepted_first (in_propositions T) (in_questions T) c.check_propositions.ensures c.in_ok-check_propositions.was c.check_questions.ensures)
