-- The states of the abstract kernel: what each of the 64 entities is.
use Rattle.std.specs.Prelude.{ℕ, List, [], Option, if◌then◌else◌, ◌==◌}
use Rattle.base_types.specs.Edges.{Edges}
use Rattle.base_types.specs.declared.capabilities.Cap.{Cap}
use Rattle.base_types.specs.declared.capabilities.Private.{Private}
use Rattle.base_types.specs.declared.capabilities.Region.{Region}
use Rattle.base_types.specs.declared.instructions.Call.{Call}
use Rattle.base_types.specs.declared.instructions.Condition.{Condition}
use Rattle.base_types.specs.declared.instructions.Instr.{Instr}
use Rattle.base_types.specs.declared.instructions.Walk.{Walk}

-- the supplier's word for a tag, a page and a place in the page
abbrev pub Supply : Type 0
Supply = ℕ → ℕ → ℕ → ℕ

-- a text by its bytes
abbrev pub Text : Type 0
Text = List ℕ

-- the names by number, and how many regions of each container each container shows
pub record AtlasState : Type 0 where
  pub containers : List Text
  pub loci : List Text
  pub edges : Edges

-- `words` gives the word at each address: the last one stored there, else the supplier's
pub record ContainerState : Type 0 where
  pub pages : ℕ
  pub tag : ℕ
  pub every : ℕ
  pub entry : Option ℕ
  pub code : List Instr
  pub regions : List Region
  pub caps : List (Option Cap)
  pub words : ℕ → ℕ

-- `printed` counts the values printed so far
pub record LocusState : Type 0 where
  pub registers : List ℕ
  pub place : ℕ
  pub code : List Instr
  pub host : ℕ
  pub chain : List Call
  pub privates : List Private
  pub caps : List (Option Cap)
  pub walk : Option Walk
  pub condition : Condition
  pub every : ℕ
  pub printed : ℕ

-- what an entity is
pub data Cell : Type 0 where
  NotBorn : Cell
  AtlasCell : (state : AtlasState) → Cell
  ContainerCell : (state : ContainerState) → Cell
  LocusCell : (state : LocusState) → Cell

-- an entity: what it is, how often it was written, and its vector clock
pub record EntityState : Type 0 where
  pub cell : Cell
  pub version : ℕ
  pub stamp : ℕ → ℕ

-- all entities by number
abbrev pub KernelState : Type 0
KernelState = ℕ → EntityState

-- nothing is named
abbrev pub no_atlas : AtlasState
no_atlas = record { containers = []; loci = []; edges = λ _ _. 0 }

-- nothing but the atlas is born, at version 0
abbrev pub empty_state : KernelState
empty_state = λ x. record { cell = if x == 0 then AtlasCell no_atlas else NotBorn; version = 0; stamp = λ _. 0 }
