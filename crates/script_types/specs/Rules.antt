-- The ranges and rules that each script keeps.
use Rattle.std.specs.Prelude.{◌≡◌, ℕ, ◌+◌, ◌<◌, ◌≤◌, ◌^◌, Bool, false, not, ◌&&◌, nat_lt, IsTrue, List, [], ◌∷◌, ◌++◌, length, map, All}
use Rattle.std.specs.List.{list_any, list_all}
use Rattle.std.specs.Option.{ForSome}
use Rattle.base_types.specs.Instructions.{IsPlace, IsAccess}
use Rattle.model_kernel.specs.State.{Text}
use Rattle.model_kernel.specs.Scripts.{RegionTable, CapTable, ContainerTable, LocusTable, Script as Tables, text_eq, atlas_name}
use Rattle.model_kernel.specs.Soundness.{is_given_name, IsSoundCode}

-- the name is one of these
abbrev pub is_among : List Text → Text → Bool
is_among names name = list_any (text_eq name) names

-- each name once
abbrev pub AreDifferent : List Text → Type 0
AreDifferent [] = Unit {0}
AreDifferent (name ∷ names) = (is_among names name ≡ false) × AreDifferent names

-- REGIONS AND CAPABILITIES. `known` are the names to which they may refer.

-- inside the pages of both sides, onto a container that stands earlier
pub record IsRegionTable (known : List Text) (pages : ℕ) (r : RegionTable) : Type 0 where
  pub some : 1 ≤ r.count
  pub at : r.at + r.count ≤ pages
  pub from : r.from + r.count ≤ 256
  pub access : IsAccess r.rights
  pub target : IsTrue (is_among known r.target)

abbrev pub AreApart : RegionTable → RegionTable → Type 0
AreApart r s = IsTrue (not (overlap r s))
  where
    overlap : RegionTable → RegionTable → Bool
    overlap r s = nat_lt r.at (s.at + s.count) && nat_lt s.at (r.at + r.count)

-- no two of them overlap
abbrev pub AreAllApart : List RegionTable → Type 0
AreAllApart [] = Unit {0}
AreAllApart (r ∷ rs) = All (AreApart r) rs × AreAllApart rs

abbrev pub IsCapTable : List Text → CapTable → Type 0
IsCapTable known c = IsTrue (is_among known c.entity)

-- TABLES

-- `earlier` are the names of the containers that stand before it
pub record IsContainerTable (earlier : List Text) (t : ContainerTable) : Type 0 where
  pub name : IsTrue (is_given_name t.name)
  pub pages : (1 ≤ t.pages) × (t.pages ≤ 256)
  pub tag : t.tag < 2 ^ 63
  pub every : t.every ≤ 1000000
  pub code : IsSoundCode t.code
  pub entry : ForSome t.entry IsPlace
  pub few_regions : length t.regions ≤ 16
  pub regions : All (IsRegionTable earlier t.pages) t.regions
  pub apart : AreAllApart t.regions
  pub few_caps : length t.caps ≤ 32
  pub caps : All (IsCapTable (atlas_name ∷ t.name ∷ earlier)) t.caps

-- `containers` are the names of all containers, and `earlier` those of the loci that stand before it
pub record IsLocusTable (containers earlier : List Text) (t : LocusTable) : Type 0 where
  pub name : IsTrue (is_given_name t.name)
  pub host : IsTrue (is_among containers t.host)
  pub at : IsPlace t.at
  pub every : t.every ≤ 1000000
  pub few_caps : length t.caps ≤ 32
  pub caps : All (IsCapTable (atlas_name ∷ t.name ∷ containers ++ earlier)) t.caps

abbrev pub container_names : List ContainerTable → List Text
container_names ts = map (λ t. t.name) ts

abbrev pub locus_names : List LocusTable → List Text
locus_names ts = map (λ t. t.name) ts

abbrev pub AreContainerTables : List Text → List ContainerTable → Type 0
AreContainerTables earlier [] = Unit {0}
AreContainerTables earlier (t ∷ ts) = IsContainerTable earlier t × AreContainerTables (t.name ∷ earlier) ts

abbrev pub AreLocusTables : List Text → List Text → List LocusTable → Type 0
AreLocusTables containers earlier [] = Unit {0}
AreLocusTables containers earlier (t ∷ ts) = IsLocusTable containers earlier t × AreLocusTables containers (t.name ∷ earlier) ts

-- A SCRIPT
pub record IsScript (s : Tables) : Type 0 where
  pub steps : (1 ≤ s.steps) × (s.steps ≤ 40000)
  pub few_containers : length s.containers ≤ 40
  pub few_loci : length s.loci ≤ 23
  pub containers : AreContainerTables [] s.containers
  pub loci : AreLocusTables (container_names s.containers) [] s.loci
  pub different : AreDifferent (container_names s.containers ++ locus_names s.loci)
  pub few_picks : length s.order ≤ 4096
  pub order : IsTrue (list_all (is_among (locus_names s.loci)) s.order)
