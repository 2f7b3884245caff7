-- The directory of names, and the counts of the edges between containers.
use Rattle.std.specs.Prelude.{◌≡◌, ◌≢◌, ◌⊎◌, ℕ, ◌+◌, ◌-◌, ◌<◌, ◌≤◌, Bool, ◌&&◌, ◌||◌, ◌==◌, IsTrue, slice_index, nat_lt, if◌then◌else◌, List, [], ◌∷◌, ◌++◌, length, Option, Some, None, is_some, IfSome, slice_get, slice_set, slice_index_or, codes}
use Rattle.std.specs.List.{list_all}
use Rattle.std.specs.Fmt.{decimal}
use Rattle.std.specs.Str.{bytes_eq}
use Rattle.model_circles.specs.base_types.declared.entities.Kind.{Kind}
use Rattle.model_circles.specs.base_types.declared.entities.Kind.TheVariants as kinds
use Rattle.model_circles.specs.base_types.Edges.{Edges}
use Rattle.data_atlas_facts.specs.Reached.{edges_in}

-- the names of containers and of loci in the order of their numbers, and in the row of each container
-- how many regions of each other it shows
pub record Directory : Type 0 where
  pub containers : List (List ℕ)
  pub loci : List (List ℕ)
  pub edges : List (List ℕ)

abbrev pub edges_of : Directory → Edges
edges_of a = edges_in a.edges

-- the directory with another count at one edge
abbrev pub with_count : Directory → ℕ → ℕ → ℕ → Directory
with_count a c d n = record a { edges = slice_set a.edges c (slice_set (slice_index_or a.edges c []) d n) }

-- the name of an entity that is born
abbrev pub name_of : Directory → ℕ → Option (List ℕ)
name_of a n = if n == 0 then Some (codes "atlas") else if nat_lt n 41 then slice_get a.containers (n - 1) else slice_get a.loci (n - 41)

abbrev pub is_born : Directory → ℕ → Bool
is_born a n = is_some (name_of a n)

-- the number is that of a container that is born
abbrev pub IsBornContainer : Directory → ℕ → Type 0
IsBornContainer a n = (1 ≤ n) × (n < 41) × IsTrue (is_born a n)

-- the number of the first of these names that is this one, counted from n
abbrev pub number_from : ℕ → List ℕ → List (List ℕ) → Option ℕ
number_from n name [] = None
number_from n name (other ∷ names) = if bytes_eq other name then Some n else number_from (n + 1) name names

abbrev pub or_else : Option ℕ → Option ℕ → Option ℕ
or_else None other = other
or_else (Some n) other = Some n

-- the entity with this name
abbrev pub entity_named : Directory → List ℕ → Option ℕ
entity_named a name = if bytes_eq name (codes "atlas") then Some 0 else or_else (number_from 1 name a.containers) (number_from 41 name a.loci)

-- how many entities of a kind are born
abbrev pub number_born : Directory → Kind → ℕ
number_born a kinds.Atlas = 1
number_born a kinds.Container = length a.containers
number_born a kinds.Locus = length a.loci

-- the lowest free number of a kind
abbrev pub free_number : Directory → Kind → Option ℕ
free_number a kinds.Atlas = None
free_number a kinds.Container = if nat_lt (length a.containers) 40 then Some (length a.containers + 1) else None
free_number a kinds.Locus = if nat_lt (length a.loci) 23 then Some (length a.loci + 41) else None

-- the name of an entity that a program makes
abbrev pub made_name : ℕ → List ℕ
made_name n = codes "#" ++ decimal n

abbrev pub given_or_made : Option (List ℕ) → ℕ → List ℕ
given_or_made None n = made_name n
given_or_made (Some name) n = name

-- the directory with one more entity of a kind
abbrev pub with_entity : Directory → Kind → List ℕ → Directory
with_entity a kinds.Atlas name = a
with_entity a kinds.Container name = record a { containers = a.containers ++ name ∷ [] }
with_entity a kinds.Locus name = record a { loci = a.loci ++ name ∷ [] }

-- 1 to 24 bytes that begin with a letter and go on with letters, digits, `_`, `-` or `.`; `atlas` is none

abbrev pub is_letter : ℕ → Bool
is_letter c = (nat_lt 64 c && nat_lt c 91) || (nat_lt 96 c && nat_lt c 123)

abbrev pub is_name_byte : ℕ → Bool
is_name_byte c = is_letter c || (nat_lt 47 c && nat_lt c 58) || c == 95 || c == 45 || c == 46

abbrev pub IsName : List ℕ → Type 0
IsName name = (1 ≤ length name) × (length name ≤ 24) × IsTrue (is_letter (slice_index name 0)) × IsTrue (list_all is_name_byte name) × (name ≢ codes "atlas")

-- the name is one that may be given, or the made one of this number
abbrev pub IsNameOf : ℕ → List ℕ → Type 0
IsNameOf n name = IsName name ⊎ (name ≡ made_name n)

-- at most 40 containers and 23 loci; each name is a given one or the made one of its number, and leads back to its number, so that no two are the same
pub record IsDirectory (a : Directory) : Type 0 where
  pub few_containers : length a.containers ≤ 40
  pub few_loci : length a.loci ≤ 23
  pub formed : (n : ℕ) → 0 < n → IfSome (name_of a n) (IsNameOf n)
  pub found : (n : ℕ) → IfSome (name_of a n) (λ name. entity_named a name ≡ Some n)
