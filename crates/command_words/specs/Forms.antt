-- The words that no command has, and those that may be names.
use Rattle.std.specs.Prelude.{ℕ, ◌==◌, ◌||◌, ◌&&◌, Bool, false, not, List, [], ◌∷◌, length, codes, bytes_eq, slice_index}
use Rattle.std.specs.List.{list_any}

-- the word is empty, `--`, or has a `=`
abbrev pub is_refused : List ℕ → Bool
is_refused word = length word == 0 || bytes_eq word (codes "--") || list_any (λ b. b == 61) word

-- no hyphen stands before the rest of the word
abbrev pub is_name : List ℕ → Bool
is_name word = not (slice_index word 0 == 45)

-- two such words stand behind the first
abbrev pub has_two_names : List (List ℕ) → Bool
has_two_names [] = false
has_two_names (first ∷ []) = false
has_two_names (first ∷ name ∷ []) = false
has_two_names (first ∷ name ∷ fresh ∷ []) = is_name name && is_name fresh
has_two_names (first ∷ name ∷ fresh ∷ more ∷ words) = false
