-- THE MEANING OF AN IMAGE.
use Rattle.std.specs.Prelude.{◌≡◌, ℕ, List, Option, Some, None, slice_index}
use Rattle.image_blocks.specs.edge_disk.Image.{Image, block_at}
use Rattle.image_blocks.specs.base_types.declared.records.Rec.{Rec}
use Rattle.blob_grammar.specs.model_kernel.State.{Supply, EntityState, KernelState, empty_state}
use Rattle.image_blocks.specs.image_facts.Checks.{count_in}
use Rattle.image_blocks.specs.Logs.{HasRecords}
use Rattle.image_meaning.specs.Parts.{AreSpelt, Part, cell_of, chosen}
use Rattle.image_meaning.specs.Fits.{IsFit}

-- THE IMAGE IS ACCEPTED: checks 1 to 3 pass, each chosen blob is a spelling, and the chosen entities fit each other.
pub record Accepted (image : Image) : Type 0 where
  pub recs : List Rec
  pub has : HasRecords recs image
  pub parts : ℕ → Option Part
  pub spelt : AreSpelt image recs parts
  pub fit : (x : ℕ) (part : Part) → parts x ≡ Some part → IsFit (count_in image) recs parts x part

-- an entity with this chosen record and part, or as in the state of nothing
abbrev pub entity_of : Supply → (ℕ → List ℕ) → ℕ → Option Rec → Option Part → EntityState
entity_of s bytes x (Some r) (Some part) = record { cell = cell_of s bytes part; version = r.version; stamp = slice_index r.stamp }
entity_of s bytes x None part = empty_state x
entity_of s bytes x (Some r) None = empty_state x

abbrev pub state_of : Supply → (ℕ → List ℕ) → List Rec → (ℕ → Option Part) → KernelState
state_of s bytes recs parts x = entity_of s bytes x (chosen recs x) (parts x)

-- the image is accepted and means this state
pub record Means (s : Supply) (image : Image) (v : KernelState) : Type 0 where
  pub accepted : Accepted image
  pub is : v ≡ state_of s (block_at image) accepted.recs accepted.parts
