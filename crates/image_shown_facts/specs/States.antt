-- What the parts of an image are as a plain state.
use Rattle.std.specs.Prelude.{◌≡◌, ◌≢◌, ℕ, ◌<◌, ◌*◌, All, List, Option, Some, None}
use Rattle.image_plain.specs.plain_states.declared.plain.PlainContainer.{PlainContainer}
use Rattle.image_facts.specs.model_kernel.State.{AtlasCell, AtlasState, Cell, ContainerCell, LocusCell, Supply, empty_state, no_atlas}
use Rattle.image_state_laws.specs.image_meaning.Parts.{AtlasPart, ContainerPart, LocusPart, Part, cell_of}
use Rattle.image_shown_facts.specs.Words.{IsSparse}

-- the cell of a part, over the bytes of its pages' blocks; where there is none, as in the state of nothing
abbrev pub cell_in : Supply → (ℕ → List ℕ) → ℕ → Option Part → Cell
cell_in s bytes x None = (empty_state x).cell
cell_in s bytes x (Some part) = cell_of s bytes part

-- the same with other words of a container
abbrev pub cell_with : (ℕ → ℕ) → ℕ → Option Part → Cell
cell_with words x None = (empty_state x).cell
cell_with words x (Some (AtlasPart a)) = AtlasCell a
cell_with words x (Some (ContainerPart c table)) = ContainerCell (record c { words = words })
cell_with words x (Some (LocusPart l)) = LocusCell l

-- the cell is that of the part, whose words are those on the disk where it tells its content
pub record IsCellOf (tells : Type 0) (s : Supply) (bytes : ℕ → List ℕ) (x : ℕ) (part : Option Part) (cell : Cell) : Type 0 where
  pub words : ℕ → ℕ
  pub is : cell ≡ cell_with words x part
  pub told : tells → cell ≡ cell_in s bytes x part

-- what is kept of a container's words isn't the supplier's, and stands in its pages
abbrev pub IsSparseContainer : Supply → PlainContainer → Type 0
IsSparseContainer s c = IsSparse s c.tag (128 * c.pages) c.words

-- the atlas of what may be chosen of the atlas
abbrev pub atlas_by : Option Part → AtlasState
atlas_by None = no_atlas
atlas_by (Some (AtlasPart a)) = a
atlas_by (Some (ContainerPart c table)) = no_atlas
atlas_by (Some (LocusPart l)) = no_atlas

-- a container, or a locus, is chosen
abbrev pub IsContainerPart : Option Part → Type 0
IsContainerPart None = ⊥
IsContainerPart (Some (AtlasPart a)) = ⊥
IsContainerPart (Some (ContainerPart c table)) = Unit {0}
IsContainerPart (Some (LocusPart l)) = ⊥

abbrev pub IsLocusPart : Option Part → Type 0
IsLocusPart None = ⊥
IsLocusPart (Some (AtlasPart a)) = ⊥
IsLocusPart (Some (ContainerPart c table)) = ⊥
IsLocusPart (Some (LocusPart l)) = Unit {0}

-- each page's block is one of so many
abbrev pub AreOnDisk : ℕ → List ℕ → Type 0
AreOnDisk count table = All (λ b. b ≢ 0 → b < count) table
