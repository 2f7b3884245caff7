-- The birth of an entity from its table in a script.
use Rattle.std.specs.Prelude.{ℕ, ◌+◌, Bool, true, ◌&&◌, if◌then◌else◌, List, [], ◌∷◌, ◌++◌, replicate, Option, Some, None, is_some, is_none, unwrap_or, option_and_then, slice_set}
use Rattle.base_types.specs.declared.capabilities.Cap.{Cap}
use Rattle.base_types.specs.declared.capabilities.Region.{Region}
use Rattle.base_types.specs.declared.histories.Answer.TheVariants.{Quiet}
use Rattle.base_types.specs.declared.histories.Entry.{Entry}
use Rattle.base_types.specs.declared.histories.Event.TheVariants.{Birth}
use Rattle.base_types.specs.declared.instructions.Condition.TheVariants.{Running}
use Rattle.base_types.specs.declared.instructions.Instr.{Instr}
use Rattle.model_kernel.specs.State.{Supply, Text, AtlasState, ContainerState, LocusState, Cell, NotBorn, AtlasCell, ContainerCell, LocusCell, KernelState}
use Rattle.model_kernel.specs.Words.{insert_region}
use Rattle.model_kernel.specs.Refusals.{rights_with}
use Rattle.model_kernel.specs.Outcomes.{free_container, free_locus, edge_put, supplied}
use Rattle.model_kernel.specs.Changes.{Change, acts}
use Rattle.model_kernel.specs.Steps.{atlas_in}
use Rattle.model_kernel.specs.Scripts.{RegionTable, CapTable, ContainerTable, LocusTable, Script, container_named, number_of, number_in, container_table, locus_table, next_name}

-- CAPABILITIES AND REGIONS OF A TABLE. `number` gives the number of a name.

-- each name is known
abbrev pub knows_caps : (Text → Option ℕ) → List CapTable → Bool
knows_caps number [] = true
knows_caps number (c ∷ cs) = is_some (number c.entity) && knows_caps number cs

abbrev pub knows_regions : (Text → Option ℕ) → List RegionTable → Bool
knows_regions number [] = true
knows_regions number (r ∷ rs) = is_some (number r.target) && knows_regions number rs

abbrev pub number_or_0 : (Text → Option ℕ) → Text → ℕ
number_or_0 number name = unwrap_or (number name) 0

-- the capabilities fill the slots from i on
abbrev pub caps_from : (Text → Option ℕ) → ℕ → List CapTable → List (Option Cap)
caps_from number i [] = replicate 32 None
caps_from number i (c ∷ cs) = slice_set (caps_from number (i + 1) cs) i (Some (record { entity = number_or_0 number c.entity; rights = rights_with c.rights }))

abbrev pub region_from : (Text → Option ℕ) → RegionTable → Region
region_from number r = record { at = r.at; count = r.count; target = number_or_0 number r.target; from = r.from; rights = rights_with r.rights }

abbrev pub regions_from : (Text → Option ℕ) → List RegionTable → List Region
regions_from number [] = []
regions_from number (r ∷ rs) = insert_region (region_from number r) (regions_from number rs)

abbrev pub with_edge : AtlasState → ℕ → ℕ → AtlasState
with_edge a c d = edge_put a c d (a.edges c d + 1)

-- an edge from n for each region
abbrev pub edges_from : (Text → Option ℕ) → ℕ → List RegionTable → AtlasState → AtlasState
edges_from number n [] a = a
edges_from number n (r ∷ rs) a = with_edge (edges_from number n rs a) n (number_or_0 number r.target)

-- A CONTAINER

abbrev pub with_container_name : AtlasState → Text → AtlasState
with_container_name a name = record a { containers = a.containers ++ name ∷ [] }

abbrev pub container_from : Supply → (Text → Option ℕ) → ContainerTable → ContainerState
container_from s number t = record {
  pages = t.pages;
  tag = t.tag;
  every = t.every;
  entry = t.entry;
  code = t.code;
  regions = regions_from number t.regions;
  caps = caps_from number 0 t.caps;
  words = supplied s t.tag;
}

-- the container has the number n, and the atlas its name and its edges
abbrev pub container_born : Supply → AtlasState → ContainerTable → ℕ → Change
container_born s a t n =
    record {
      accesses =
          record { entity = 0; new = Some (AtlasCell (edges_from (number_in a t.name n) n t.regions (with_container_name a t.name))) }
          ∷ record { entity = n; new = Some (ContainerCell (container_from s (number_in a t.name n) t)) }
          ∷ [];
      answer = Quiet;
    }

-- where a number is free and each name is known
abbrev pub container_birth : Supply → AtlasState → ContainerTable → Option ℕ → Option (ℕ × Change)
container_birth s a t None = None
container_birth s a t (Some n) =
    if knows_regions (number_in a t.name n) t.regions && knows_caps (number_in a t.name n) t.caps
    then Some (n, container_born s a t n)
    else None

-- A LOCUS

abbrev pub with_locus_name : AtlasState → Text → AtlasState
with_locus_name a name = record a { loci = a.loci ++ name ∷ [] }

abbrev pub code_in : Cell → List Instr
code_in (ContainerCell c) = c.code
code_in NotBorn = []
code_in (AtlasCell a) = []
code_in (LocusCell l) = []

abbrev pub locus_from : (Text → Option ℕ) → LocusTable → ℕ → List Instr → LocusState
locus_from number t host code = record {
  registers = replicate 8 0;
  place = t.at;
  code = code;
  host = host;
  chain = [];
  privates = [];
  caps = caps_from number 0 t.caps;
  walk = None;
  condition = Running;
  every = t.every;
  printed = 0;
}

-- the locus has the number n, and the host is written as it is
abbrev pub locus_born : AtlasState → LocusTable → ℕ → ℕ → Cell → Change
locus_born a t n host cell =
    record {
      accesses =
          record { entity = 0; new = Some (AtlasCell (with_locus_name a t.name)) }
          ∷ record { entity = host; new = Some cell }
          ∷ record { entity = n; new = Some (LocusCell (locus_from (number_in a t.name n) t host (code_in cell))) }
          ∷ [];
      answer = Quiet;
    }

-- where a number is free and each name is known
abbrev pub locus_in_host : AtlasState → LocusTable → ℕ → Cell → Option ℕ → Option (ℕ × Change)
locus_in_host a t host cell None = None
locus_in_host a t host cell (Some n) = if knows_caps (number_in a t.name n) t.caps then Some (n, locus_born a t n host cell) else None

-- where the host is born
abbrev pub locus_birth : KernelState → AtlasState → LocusTable → Option ℕ → Option (ℕ × Change)
locus_birth w a t None = None
locus_birth w a t (Some host) = locus_in_host a t host (w host).cell (free_locus a)

-- A BIRTH

abbrev pub birth_from : Supply → KernelState → AtlasState → Option ContainerTable → Option LocusTable → Option (ℕ × Change)
birth_from s w a (Some t) l = container_birth s a t (free_container a)
birth_from s w a None (Some t) = locus_birth w a t (container_named a t.host)
birth_from s w a None None = None

-- the birth of the name, where the script has it and the atlas doesn't
abbrev pub birth_named : Supply → Script → Text → KernelState → AtlasState → Option (ℕ × Change)
birth_named s script name w a =
    if is_none (number_of a name)
    then birth_from s w a (container_table script.containers name) (locus_table script.loci name)
    else None

unfoldable pub birth_change : Supply → Script → Text → KernelState → Option (ℕ × Change)
birth_change s script name w = birth_named s script name w (atlas_in (w 0).cell)

-- the entry and the state of the birth of a name, where it is defined
abbrev pub birth : Supply → Script → Text → KernelState → Option (Entry × KernelState)
birth s script name = acts Birth (birth_change s script name)

unfoldable pub next_birth_change : Supply → Script → KernelState → Option (ℕ × Change)
next_birth_change s script w = option_and_then (λ name. birth_named s script name w (atlas_in (w 0).cell)) (next_name (atlas_in (w 0).cell) script)

-- the birth of the script's next name that is not in the atlas
abbrev pub next_birth : Supply → Script → KernelState → Option (Entry × KernelState)
next_birth s script = acts Birth (next_birth_change s script)
