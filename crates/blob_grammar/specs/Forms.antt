-- Which values have a spelling: those that keep what a sound value keeps, but that name any number of an entity, born or not, and of
-- either kind; and the ranges of the fields' types.
use Rattle.std.specs.Prelude.{◌≡◌, ℕ, ◌<◌, ◌≤◌, ◌^◌, IsTrue, List, length, Option, Some, All, slice_get}
use Rattle.std.specs.Option.{ForSome}
use Rattle.model_kernel.specs.base_types.Edges.{Edges}
use Rattle.model_kernel.specs.base_types.declared.capabilities.Cap.{Cap}
use Rattle.model_kernel.specs.base_types.declared.entities.Kind.{Kind}
use Rattle.model_kernel.specs.base_types.declared.entities.Kind.TheVariants.{Atlas, Container, Locus}
use Rattle.model_kernel.specs.base_types.declared.instructions.Walk.{Walk}
use Rattle.model_kernel.specs.State.{AtlasState, ContainerState, LocusState}
use Rattle.model_kernel.specs.Soundness.{AreDifferentNames, are_names_from}
use Rattle.blob_grammar.specs.Shapes.{IsContainerOver, IsLocusOver}
use Rattle.blob_grammar.specs.Spelling.{atlas_blob, container_blob, locus_blob}

-- a number of an entity
abbrev pub IsNumber : ℕ → Type 0
IsNumber x = x < 64

-- THE ATLAS

-- edges lead from containers to containers, each at most 16 times
pub record AreCounts (edges : Edges) : Type 0 where
  pub most : (x y : ℕ) → edges x y ≤ 16
  pub from : (x y : ℕ) → 0 < edges x y → (1 ≤ x) × (x ≤ 40)
  pub to : (x y : ℕ) → 0 < edges x y → (1 ≤ y) × (y ≤ 40)

-- whether the edges make a circle isn't asked
pub record IsAtlasForm (a : AtlasState) : Type 0 where
  pub few_containers : length a.containers ≤ 40
  pub few_loci : length a.loci ≤ 23
  pub containers : IsTrue (are_names_from 1 a.containers)
  pub loci : IsTrue (are_names_from 41 a.loci)
  pub different : AreDifferentNames a
  pub edges : AreCounts a.edges

-- CONTAINERS

abbrev pub HaveByteRights : List (Option Cap) → Type 0
HaveByteRights caps = (slot : ℕ) (cap : Cap) → slice_get caps slot ≡ Some (Some cap) → cap.rights.0 < 256

-- the block of each page
pub record IsTable (pages : ℕ) (table : List ℕ) : Type 0 where
  pub each_page : length table ≡ pages
  pub numbers : All (λ block. block < 2 ^ 32) table

pub record IsContainerForm (c : ContainerState) (table : List ℕ) : Type 0 where
  pub shape : IsContainerOver IsNumber IsNumber c
  pub tag : c.tag < 2 ^ 64
  pub every : c.every < 2 ^ 32
  pub rights : HaveByteRights c.caps
  pub blocks : IsTable c.pages table

-- LOCI. Whether the instruction at the place of a walk looks isn't asked.

pub record IsLocusForm (l : LocusState) : Type 0 where
  pub shape : IsLocusOver IsNumber IsNumber l
  pub values : All (λ v. v < 2 ^ 64) l.registers
  pub every : l.every < 2 ^ 32
  pub rights : HaveByteRights l.caps
  pub address : ForSome l.walk (λ (walk : Walk). walk.address < 2 ^ 64)

-- SPELLINGS

pub record SpellsAtlas (a : AtlasState) (bytes : List ℕ) : Type 0 where
  pub form : IsAtlasForm a
  pub is : bytes ≡ atlas_blob a

pub record SpellsContainer (c : ContainerState) (table bytes : List ℕ) : Type 0 where
  pub form : IsContainerForm c table
  pub is : bytes ≡ container_blob c table

pub record SpellsLocus (l : LocusState) (bytes : List ℕ) : Type 0 where
  pub form : IsLocusForm l
  pub is : bytes ≡ locus_blob l

-- THE SET OF SPELLINGS of a kind
abbrev pub IsSpelling : Kind → List ℕ → Type 0
IsSpelling Atlas bytes = (a : AtlasState) × SpellsAtlas a bytes
IsSpelling Container bytes = (c : ContainerState) × (table : List ℕ) × SpellsContainer c table bytes
IsSpelling Locus bytes = (l : LocusState) × SpellsLocus l bytes
