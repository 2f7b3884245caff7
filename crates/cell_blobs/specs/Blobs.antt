-- What the blob of a part spells, and which parts have a spelling.
use Rattle.std.specs.Prelude.{◌≡◌, ℕ, ◌+◌, ◌==◌, if◌then◌else◌, Bool, List, [], length, take, Option, Some, None}
use Rattle.act_look.specs.act_alone.declared.loci.Head.{Head}
use Rattle.act_look.specs.act_alone.declared.loci.Locus.{Locus}
use Rattle.act_look.specs.act_alone.Loci.{container_with, locus_of}
use Rattle.cell_states.specs.act_calls.Calls.{atlas_state}
use Rattle.act_look.specs.page_memory.declared.paged.PagedMemory.{PagedMemory}
use Rattle.act_look.specs.page_memory.Words.{need_of}
use Rattle.act_look.specs.Looks.{IsMemoryOf}
use Rattle.image_meaning.specs.blob_grammar.Forms.{IsAtlasForm, IsNumber}
use Rattle.image_meaning.specs.blob_grammar.Shapes.{IsContainerOver, IsLocusOver}
use Rattle.image_meaning.specs.blob_grammar.Spelling.{atlas_blob, container_blob, locus_blob}
use Rattle.image_meaning.specs.image_facts.Bodies.{blocks_for}
use Rattle.image_meaning.specs.Parts.{Part as Spelt, AtlasPart, ContainerPart, LocusPart}
use Rattle.cell_states.specs.declared.cells.Cell.{Cell}
use Rattle.cell_states.specs.declared.cells.Part.{Part}
use Rattle.cell_states.specs.declared.cells.Part.TheVariants as part

-- WHAT A PART'S BLOB SPELLS: of a container its head and the blocks of its pages. What isn't born has none.
abbrev pub spelt_storage : PagedMemory → Option Head → Option Spelt
spelt_storage m None = None
spelt_storage m (Some h) = Some (ContainerPart (container_with (λ _. 0) h) (take h.pages m.table))

abbrev pub spelt_locus : Option Locus → Option Spelt
spelt_locus None = None
spelt_locus (Some l) = Some (LocusPart (locus_of l))

abbrev pub spelt_in : Part → Option Spelt
spelt_in (part.Atlas a) = Some (AtlasPart (atlas_state a))
spelt_in (part.Container b) = spelt_storage b.memory b.head
spelt_in (part.Locus l) = spelt_locus l

-- its bytes, none where nothing is born
abbrev pub bytes_of : Option Spelt → List ℕ
bytes_of None = []
bytes_of (Some (AtlasPart a)) = atlas_blob a
bytes_of (Some (ContainerPart c table)) = container_blob c table
bytes_of (Some (LocusPart l)) = locus_blob l

-- WHICH PARTS HAVE A SPELLING: those that keep what a sound entity keeps, whom it names aside. The memory of a container is its own.
abbrev pub HasFormedHead : PagedMemory → Option Head → Type 0
HasFormedHead m None = Unit {0}
HasFormedHead m (Some h) = IsContainerOver IsNumber IsNumber (container_with (λ _. 0) h) × IsMemoryOf h m × (length m.table ≡ 256)

abbrev pub IsFormedLocus : Option Locus → Type 0
IsFormedLocus None = Unit {0}
IsFormedLocus (Some l) = IsLocusOver IsNumber IsNumber (locus_of l)

abbrev pub IsFormed : Part → Type 0
IsFormed (part.Atlas a) = IsAtlasForm (atlas_state a)
IsFormed (part.Container b) = HasFormedHead b.memory b.head
IsFormed (part.Locus l) = IsFormedLocus l

-- HOW MANY BLOCKS A COMMIT NEEDS: for pages of a container that is born, and for the blob
abbrev pub page_need : (ℕ → Bool) → Part → ℕ
page_need kept (part.Atlas a) = 0
page_need kept (part.Container b) = need_of kept b.memory
page_need kept (part.Locus l) = 0

abbrev pub blob_need : Part → ℕ
blob_need p = blocks_for (length (bytes_of (spelt_in p)))

-- the cell hasn't changed since its newest record
abbrev pub is_recorded : Cell → Bool
is_recorded c = c.clock.version == c.wish.newest

abbrev pub need_in : (ℕ → Bool) → Cell → ℕ
need_in kept c = if is_recorded c then 0 else page_need kept c.part + blob_need c.part
