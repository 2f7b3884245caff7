-- Words of the laws of spellings.
use Rattle.std.specs.Prelude.{◌≡◌, ℕ, ◌*◌, List, [], ◌++◌}
use Rattle.model_kernel.specs.base_types.declared.entities.Kind.{Kind}
use Rattle.model_kernel.specs.base_types.declared.entities.Kind.TheVariants.{Atlas, Container, Locus}

-- no spelling is the front of another
abbrev pub IsPrefixFree : (List ℕ → Type 0) → Type 0
IsPrefixFree Spelled = (front rest : List ℕ) → Spelled front → Spelled (front ++ rest) → rest ≡ []

-- no spelling of the kind is longer; for containers and loci there is one of this length
abbrev pub most_bytes : Kind → ℕ
most_bytes Atlas = 6380
most_bytes Container = 3283
most_bytes Locus = 2479

-- what so many blocks hold
abbrev pub bytes_of_blocks : ℕ → ℕ
bytes_of_blocks n = n * 1024
