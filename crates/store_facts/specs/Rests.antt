-- What stands behind a blob in its blocks.
use Rattle.std.specs.Prelude.{◌≡◌, ℕ, List, All, drop, Option, Some, None}
use Rattle.page_words.specs.image_meaning.Foreign.{IsFirstRest}

-- the place of the first byte behind so many that isn't 0, and none where all of them are 0
abbrev pub IsRest : List ℕ → ℕ → Option ℕ → Type 0
IsRest room len None = All (λ b. b ≡ 0) (drop len room)
IsRest room len (Some place) = IsFirstRest room len place
