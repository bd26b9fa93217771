-- What an argument asks for.
use Rattle.std.specs.Prelude.{ℕ, ◌≡◌, List, [], ◌∷◌, ◌≢◌}
use Rattle.bucketmonk.specs.declared.arguments.Request.{Request}
use Rattle.bucketmonk.specs.declared.arguments.Request.TheVariants.{Help, Version, Unknown}

-- --help
abbrev pub help : List ℕ
help = 45 ∷ 45 ∷ 104 ∷ 101 ∷ 108 ∷ 112 ∷ []

-- --version
abbrev pub version : List ℕ
version = 45 ∷ 45 ∷ 118 ∷ 101 ∷ 114 ∷ 115 ∷ 105 ∷ 111 ∷ 110 ∷ []

abbrev pub Asks : Request → List ℕ → Type 0
Asks Help argument = argument ≡ help
Asks Version argument = argument ≡ version
Asks Unknown argument = (argument ≢ help) × (argument ≢ version)
