-- What the chosen records of an image spell.
use Rattle.std.specs.Prelude.{◌≡◌, ℕ, ◌*◌, ◌/◌, ◌%◌, ◌&&◌, ◌==◌, if◌then◌else◌, List, [], ◌∷◌, drop, All, Option, Some, None, MatchOption, slice_index}
use Rattle.image_blocks.specs.edge_disk.Image.{Image}
use Rattle.image_blocks.specs.base_types.Kinds.{kind_of}
use Rattle.image_blocks.specs.base_types.declared.entities.Kind.{Kind}
use Rattle.image_blocks.specs.base_types.declared.entities.Kind.TheVariants.{Atlas, Container, Locus}
use Rattle.image_blocks.specs.base_types.declared.records.Rec.{Rec}
use Rattle.blob_grammar.specs.model_kernel.State.{Supply, AtlasState, ContainerState, LocusState, Cell, AtlasCell, ContainerCell, LocusCell}
use Rattle.blob_grammar.specs.model_kernel.Choices.{greatest}
use Rattle.model_cut_laws.specs.Agreeing.{nothing}
use Rattle.model_cut_laws.specs.Records.{commits_of}
use Rattle.blob_grammar.specs.Forms.{SpellsAtlas, SpellsContainer, SpellsLocus}
use Rattle.image_blocks.specs.image_facts.Bodies.{number_at, blob_in, blob_room}

-- what a blob spells: of a container its head and the blocks of its pages, where `state.words` means nothing
pub data Part : Type 0 where
  AtlasPart : (state : AtlasState) → Part
  ContainerPart : (state : ContainerState) → (table : List ℕ) → Part
  LocusPart : (state : LocusState) → Part

abbrev pub Spells : Part → List ℕ → Type 0
Spells (AtlasPart a) bytes = SpellsAtlas a bytes
Spells (ContainerPart c table) bytes = SpellsContainer c table bytes
Spells (LocusPart l) bytes = SpellsLocus l bytes

abbrev pub kind_in : Part → Kind
kind_in (AtlasPart a) = Atlas
kind_in (ContainerPart c table) = Container
kind_in (LocusPart l) = Locus

-- the part spells an entity of this number
abbrev pub IsOf : ℕ → Part → Type 0
IsOf x part = kind_in part ≡ kind_of x

-- the blocks of the pages
abbrev pub table_in : Part → List ℕ
table_in (AtlasPart a) = []
table_in (ContainerPart c table) = table
table_in (LocusPart l) = []

-- CHOSEN RECORDS

-- per entity the version that the greatest closed choice over the records takes, 0 for none
abbrev pub cut_of : List Rec → ℕ → ℕ
cut_of recs = greatest nothing (commits_of recs)

-- the record of the entity that is chosen; the versions of records are 1 and more
abbrev pub chosen_by : (ℕ → ℕ) → List Rec → ℕ → Option Rec
chosen_by cut [] x = None
chosen_by cut (r ∷ recs) x = if r.entity == x && r.version == cut x then Some r else chosen_by cut recs x

abbrev pub chosen : List Rec → ℕ → Option Rec
chosen recs x = chosen_by (cut_of recs) recs x

-- WORDS

-- the word at an address, from the bytes of blocks; where the page has no block it is the supplier's
abbrev pub word_in : Supply → ℕ → (ℕ → List ℕ) → ℕ → ℕ → ℕ
word_in s tag bytes block address =
    if block == 0 then s tag (address / 128) (address % 128) else number_at (8 * (address % 128)) 8 (bytes block)

abbrev pub words_in : Supply → ℕ → (ℕ → List ℕ) → List ℕ → ℕ → ℕ
words_in s tag bytes table address = word_in s tag bytes (slice_index table (address / 128)) address

-- the cell of a part, over the bytes of its pages' blocks
abbrev pub cell_of : Supply → (ℕ → List ℕ) → Part → Cell
cell_of s bytes (AtlasPart a) = AtlasCell a
cell_of s bytes (ContainerPart c table) = ContainerCell (record c { words = words_in s c.tag bytes table })
cell_of s bytes (LocusPart l) = LocusCell l

-- BLOBS

-- the record's blob in the image spells the part, and the rest of its last block is 0
pub record IsSpelt (image : Image) (x : ℕ) (r : Rec) (part : Part) : Type 0 where
  pub kind : IsOf x part
  pub spells : Spells part (blob_in image r)
  pub rest : All (λ b. b ≡ 0) (drop r.length (blob_room image r))

-- for each entity with a chosen record what its blob spells, and for no other anything
abbrev pub AreSpelt : Image → List Rec → (ℕ → Option Part) → Type 0
AreSpelt image recs parts = (x : ℕ) → MatchOption (chosen recs x) (parts x ≡ None) (λ r. (part : Part) × (parts x ≡ Some part) × IsSpelt image x r part)

-- WITHOUT AN IMAGE

-- a part is taken exactly of each entity of which a record is chosen
abbrev pub AreTaken : List Rec → (ℕ → Option Part) → Type 0
AreTaken recs parts = (x : ℕ) → MatchOption (chosen recs x) (parts x ≡ None) (λ _. (part : Part) × (parts x ≡ Some part))

-- the part is of this number's kind, and has a spelling
pub record IsFormed (x : ℕ) (part : Part) : Type 0 where
  pub kind : IsOf x part
  pub blob : List ℕ
  pub spells : Spells part blob

abbrev pub AreFormed : (ℕ → Option Part) → Type 0
AreFormed parts = (x : ℕ) (part : Part) → parts x ≡ Some part → IsFormed x part
