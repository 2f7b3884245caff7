-- Names of a directory, in the order of their numbers.
use Rattle.std.specs.Prelude.{◌≡◌, ℕ, ◌+◌, ◌<◌, List, length, Some, slice_get}
use Rattle.data_atlas.specs.data_atlas_facts.Directory.{Directory, name_of}

-- these are the names of so many entities, from a number on, where they are born
pub record AreNames (a : Directory) (first many : ℕ) (names : List (List ℕ)) : Type 0 where
  pub long : length names ≡ many
  pub each : (i : ℕ) (name : List ℕ) → i < many → name_of a (first + i) ≡ Some name → slice_get names i ≡ Some name
