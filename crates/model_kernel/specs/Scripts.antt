-- Scripts: tables of containers and loci that a run gives birth to, with their names.
use Rattle.std.specs.Prelude.{ℕ, ◌+◌, Bool, true, false, ◌&&◌, ◌==◌, if◌then◌else◌, List, [], ◌∷◌, Option, Some, None, is_none, codes}
use Rattle.base_types.specs.declared.instructions.Instr.{Instr}
use Rattle.model_kernel.specs.State.{Text, AtlasState}
use Rattle.model_kernel.specs.Words.{or_else}

-- pages `at` on show pages of the named container
pub record RegionTable : Type 0 where
  pub at : ℕ
  pub target : Text
  pub from : ℕ
  pub count : ℕ
  pub rights : ℕ

-- a capability on the named entity
pub record CapTable : Type 0 where
  pub entity : Text
  pub rights : ℕ

pub record ContainerTable : Type 0 where
  pub name : Text
  pub pages : ℕ
  pub tag : ℕ
  pub every : ℕ
  pub code : List Instr
  pub entry : Option ℕ
  pub regions : List RegionTable
  pub caps : List CapTable

pub record LocusTable : Type 0 where
  pub name : Text
  pub host : Text
  pub at : ℕ
  pub every : ℕ
  pub caps : List CapTable

-- `order` names the loci that are stepped first
pub record Script : Type 0 where
  pub steps : ℕ
  pub order : List Text
  pub containers : List ContainerTable
  pub loci : List LocusTable

-- NAMES

abbrev pub text_eq : Text → Text → Bool
text_eq [] [] = true
text_eq [] (y ∷ ys) = false
text_eq (x ∷ xs) [] = false
text_eq (x ∷ xs) (y ∷ ys) = x == y && text_eq xs ys

-- where a name stands in a list, counted from n
abbrev pub place_of : Text → List Text → ℕ → Option ℕ
place_of name [] n = None
place_of name (t ∷ ts) n = if text_eq name t then Some n else place_of name ts (n + 1)

-- the atlas's own name
abbrev pub atlas_name : Text
atlas_name = codes "atlas"

-- the number of a container by its name
abbrev pub container_named : AtlasState → Text → Option ℕ
container_named a name = place_of name a.containers 1

-- the number of a locus by its name
abbrev pub locus_named : AtlasState → Text → Option ℕ
locus_named a name = place_of name a.loci 41

-- the number of a name
abbrev pub number_of : AtlasState → Text → Option ℕ
number_of a name = if text_eq name atlas_name then Some 0 else or_else (container_named a name) (locus_named a name)

-- in a table, a name may also be the table's own
abbrev pub number_in : AtlasState → Text → ℕ → Text → Option ℕ
number_in a own n name = if text_eq name own then Some n else number_of a name

-- TABLES BY NAME

abbrev pub container_table : List ContainerTable → Text → Option ContainerTable
container_table [] name = None
container_table (t ∷ ts) name = if text_eq name t.name then Some t else container_table ts name

abbrev pub locus_table : List LocusTable → Text → Option LocusTable
locus_table [] name = None
locus_table (t ∷ ts) name = if text_eq name t.name then Some t else locus_table ts name

-- the first name of containers, and then of loci, that is not in the atlas
abbrev pub next_container_name : AtlasState → List ContainerTable → Option Text
next_container_name a [] = None
next_container_name a (t ∷ ts) = if is_none (number_of a t.name) then Some t.name else next_container_name a ts

abbrev pub next_locus_name : AtlasState → List LocusTable → Option Text
next_locus_name a [] = None
next_locus_name a (t ∷ ts) = if is_none (number_of a t.name) then Some t.name else next_locus_name a ts

-- the script's next name that is not in the atlas
abbrev pub next_name : AtlasState → Script → Option Text
next_name a script = or_else (next_container_name a script.containers) (next_locus_name a script.loci)
