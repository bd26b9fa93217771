-- The set whose propositions are kept where they are marked.
use Rattle.tables.specs.Sets.{Set, set_of}
use Rattle.consistency.specs.declared.Kept.{Kept}

abbrev pub set_in : Kept → Set
set_in K = set_of K.terms.now K.propositions.now
