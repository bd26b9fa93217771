-- `refusals::check_sizes` meets its contract: a fault that the tests find is the definition's where those before it are none.
-- The answers name neither tests nor returns, since those names hold what is tested.
use mathlib.Core.Path.{◌≡◌, ◌∙◌}
use borrow.Author.Rules.{rules}
use Rattle.std.proofs.lemmas.Bool.{lt-ltb, le-ltb}
use Rattle.std.specs.Prelude.{ℕ, ◌<◌, ◌≤◌, ◌||◌, Bool, ltb, true, false, Ok, Err}
use Rattle.types.specs.declared.Refusal.{Refusal}
use Rattle.types.specs.declared.Refusal.TheVariants.{TooManyTerms, TooManyPropositions, TooManyQuestions, TooShort}
use Rattle.tables.specs.Limits.{most}
use Rattle.tables.specs.TableFaults.{acceptance, lengths_fault}
use Rattle.refusals.specs.FirstFault.{Checked}
use Rattle.refusals.proofs.check_sizes.Statement.{statement}
use Rattle.refusals.proofs.check_sizes.Tie as tie

abbrev refused : Refusal → ℕ → Checked
refused r k = Err (record { refusal = r; place = k })

module _ (n terms m propositions q questions : ℕ) where
  abbrev right : Checked → Type 0
  right told = told ≡ acceptance (lengths_fault most n terms m propositions q questions)

  abbrev too-short : Bool
  too-short = ltb terms n || (ltb propositions m || ltb questions q)

  many-terms : {told : Checked} → told ≡ refused TooManyTerms most → most < n → right told
  unfolding lengths_fault
  many-terms e h = e ∙ rw (lt-ltb _ _ h)

  many-propositions : {told : Checked} → told ≡ refused TooManyPropositions most → n ≤ most → most < m → right told
  unfolding lengths_fault
  many-propositions e a h = e ∙ rw (le-ltb _ _ a, lt-ltb _ _ h)

  many-questions : {told : Checked} → told ≡ refused TooManyQuestions most → n ≤ most → m ≤ most → most < q → right told
  unfolding lengths_fault
  many-questions e a b h = e ∙ rw (le-ltb _ _ a, le-ltb _ _ b, lt-ltb _ _ h)

  short : {told : Checked} → told ≡ refused TooShort 0 → n ≤ most → m ≤ most → q ≤ most → too-short ≡ true → right told
  unfolding lengths_fault
  short e a b c h = e ∙ rw (le-ltb _ _ a, le-ltb _ _ b, le-ltb _ _ c, h)

  accepted : {told : Checked} → told ≡ Ok tt → n ≤ most → m ≤ most → q ≤ most → too-short ≡ false → right told
  unfolding lengths_fault
  accepted e a b c h = e ∙ rw (le-ltb _ _ a, le-ltb _ _ b, le-ltb _ _ c, h)

ruleset ways = (many-terms, many-propositions, many-questions, short, accepted)

pub check_sizes_spec : {M : Type 1} → statement M
check_sizes_spec =
    tie.close
    (tie.spec
    (λ c κs. search rules)
    (λ c. search ways)
    (λ c κs. search rules)
    (λ c. search ways)
    (λ c κs. search rules)
    (λ c. search ways)
    (λ c κs. search rules)
    (λ c. search ways)
    (λ c. search ways))
