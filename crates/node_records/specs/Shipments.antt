-- What a shipment says of an entity.
use Rattle.std.specs.Prelude.{◌≡◌, ℕ, ◌/◌, ◌%◌, ◌^◌, ◌<◌, ◌≤◌, ◌==◌, if◌then◌else◌, List, [], ◌∷◌, All, length, take, Option, Some, None, slice_get, slice_index}
use Rattle.base_types.specs.declared.histories.Entry.{Entry}
use Rattle.kernel_record_facts.specs.kernel_invariant.model_kernel.State.{AtlasCell, Cell, ContainerCell, LocusCell, Supply}
use Rattle.kernel_record_facts.specs.kernel_invariant.image_meaning.Parts.{AtlasPart, ContainerPart, IsOf, LocusPart, Part, Spells}
use Rattle.kernel_record_facts.specs.kernel_invariant.Beginnings.{Beginning, entity_at, state_after}
use Rattle.node_store.specs.page_placing.declared.writing.PageWords.{PageWords}

-- the words of a page, where it is shipped
abbrev pub page_words : List PageWords → ℕ → Option (List ℕ)
page_words [] p = None
page_words (q ∷ qs) p = if q.page == p then Some q.words else page_words qs p

abbrev pub word_or : ℕ → ℕ → Option (List ℕ) → ℕ
word_or w i None = w
word_or w i (Some ws) = slice_index ws i

-- the word at an address: of its page, where that is shipped, and else the supplier's
abbrev pub shipped_word : Supply → ℕ → List PageWords → ℕ → ℕ
shipped_word s tag pages address = word_or (s tag (address / 128) (address % 128)) (address % 128) (page_words pages (address / 128))

-- WHAT THE ENTITY WAS
abbrev pub shipped_cell : Supply → List PageWords → Part → Cell
shipped_cell s pages (AtlasPart a) = AtlasCell a
shipped_cell s pages (ContainerPart c table) = ContainerCell (record c { words = shipped_word s c.tag pages })
shipped_cell s pages (LocusPart l) = LocusCell l

-- the part with other blocks
abbrev pub over : List ℕ → Part → Part
over table (AtlasPart a) = AtlasPart a
over table (ContainerPart c was) = ContainerPart c (take c.pages table)
over table (LocusPart l) = LocusPart l

abbrev pub size_of : Part → ℕ
size_of (AtlasPart a) = 0
size_of (ContainerPart c table) = c.pages
size_of (LocusPart l) = 0

-- it says what the entity was at this version in the run
pub record IsShippedOf (b : Beginning) (es : List Entry) (entity version : ℕ) (stamp : List ℕ) (part : Part) (pages : List PageWords) : Type 0 where
  pub from : (b.state entity).version ≤ version
  pub reached : version ≤ (state_after b es entity).version
  pub components : length stamp ≡ 64
  pub kind : IsOf entity part
  pub cell : (entity_at b es entity version).cell ≡ shipped_cell b.supply pages part
  pub version_is : (entity_at b es entity version).version ≡ version
  pub stamp_is : (entity_at b es entity version).stamp ≡ slice_index stamp
  pub within : (k : ℕ) (q : PageWords) → slice_get pages k ≡ Some q → q.page < size_of part
  pub few : size_of part ≤ 256

-- these bytes spell it over each table of blocks
abbrev pub SpellsOver : Part → (List ℕ → List ℕ) → Type 0
SpellsOver part bytes = (table : List ℕ) → length table ≡ 256 → All (λ n. n < 2 ^ 32) table → Spells (over table part) (bytes table)
