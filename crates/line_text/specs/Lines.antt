-- Words of lines, and the names of entities.
use Rattle.std.specs.Prelude.{ℕ, ◌==◌, ◌-◌, ◌≤◌, if◌then◌else◌, List, [], ◌∷◌, length, slice_get, unwrap_or, nat_lt}
use Rattle.model_kernel.specs.State.{Text, AtlasState}
use Rattle.model_kernel.specs.Scripts.{atlas_name}

-- a word behind a blank
unfoldable pub word : Text → Text
word text = 32 ∷ text

-- the end of a line
abbrev pub line_end : Text
line_end = 10 ∷ []

-- the name of an entity; none where the atlas has none
unfoldable pub name_in : AtlasState → ℕ → Text
name_in a x = if x == 0 then atlas_name else if nat_lt x 41 then unwrap_or (slice_get a.containers (x - 1)) [] else unwrap_or (slice_get a.loci (x - 41)) []

-- no name has more than 24 bytes
abbrev pub HasShortNames : AtlasState → Type 0
HasShortNames a = (x : ℕ) → length (name_in a x) ≤ 24

-- an atlas with these names, and no edges
abbrev pub names_in : List Text → List Text → AtlasState
names_in containers loci = record { containers = containers; loci = loci; edges = λ _ _. 0 }
