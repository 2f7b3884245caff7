-- Which state stored records describe, and the law that leads from what an image stores to what it means.
use Rattle.std.specs.Prelude.{◌≡◌, ◌≢◌, ◌⊎◌, ◌==◌, if◌then◌else◌, ℕ, List, [], ◌∷◌, Option, Some, None, MatchOption, slice_index}
use Rattle.image_blocks.specs.edge_disk.Image.{Image}
use Rattle.blob_grammar.specs.model_kernel.Soundness.{IsSound}
use Rattle.blob_grammar.specs.model_kernel.State.{Supply, KernelState, empty_state}
use Rattle.image_meaning.specs.Fits.{AreNamedOnce}
use Rattle.image_meaning.specs.Meaning.{Means}
use Rattle.image_meaning.specs.Parts.{IsOf, Part, Spells, cell_of, table_in}
use Rattle.image_meaning.specs.Stores.{Kept, Page, Stores, chosen_kept, recs_of}

-- the bytes of a page's block
abbrev pub bytes_of : List Page → ℕ → List ℕ
bytes_of [] block = []
bytes_of (p ∷ ps) block = if p.block == block then p.bytes else bytes_of ps block

-- the block is one of the pages'
abbrev pub HasPage : List Page → ℕ → Type 0
HasPage [] block = ⊥
HasPage (p ∷ ps) block = (p.block ≡ block) ⊎ HasPage ps block

-- the record's blob spells this part, and all blocks of its pages are kept with it
pub record SpellsKept (x : ℕ) (k : Kept) (part : Part) : Type 0 where
  pub kind : IsOf x part
  pub spells : Spells part k.blob
  pub pages : (page : ℕ) → slice_index (table_in part) page ≢ 0 → HasPage k.pages (slice_index (table_in part) page)

-- a record that says what an entity is in a state
pub record DescribesEntity (s : Supply) (v : KernelState) (x : ℕ) (k : Kept) (part : Part) : Type 0 where
  pub spells : SpellsKept x k part
  pub cell : (v x).cell ≡ cell_of s (bytes_of k.pages) part
  pub version : (v x).version ≡ k.rec.version
  pub stamp : (v x).stamp ≡ slice_index k.rec.stamp

-- THE RECORDS DESCRIBE THE STATE: each entity as its chosen record says, and the others as in the state of nothing
pub record Describes (s : Supply) (ks : List Kept) (parts : ℕ → Option Part) (v : KernelState) : Type 0 where
  pub each : (x : ℕ) → MatchOption (chosen_kept ks x) ((parts x ≡ None) × (v x ≡ empty_state x)) (λ k. (part : Part) × (parts x ≡ Some part) × DescribesEntity s v x k part)

-- THE LAW: an image that stores records which describe a sound state, with each page's block named once, is accepted and means that state
abbrev pub MeaningLaw : Type 0
MeaningLaw = (s : Supply) (count : ℕ) (ks : List Kept) (parts : ℕ → Option Part) (v : KernelState) (c : Image) → Stores count ks c → Describes s ks parts v → IsSound (λ x. (v x).cell)
    → ((x : ℕ) (part : Part) → parts x ≡ Some part → AreNamedOnce count (recs_of ks) parts x (table_in part))
    → Means s c v
