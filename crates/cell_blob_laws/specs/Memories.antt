-- Whose memory a container's cell has.
use Rattle.std.specs.Prelude.{◌≡◌, ℕ, Bool, not, ◌==◌, count_by, Option, Some, None}
use Rattle.cell_blobs.specs.act_alone.declared.loci.Head.{Head}
use Rattle.cell_blobs.specs.page_memory.declared.paged.PagedMemory.{PagedMemory}
use Rattle.cell_blobs.specs.page_memory.Words.{IsSoundTable}
use Rattle.cell_blobs.specs.act_look.Looks.{IsMemoryOf}
use Rattle.cell_blobs.specs.cell_states.declared.cells.Part.{Part}
use Rattle.cell_blobs.specs.cell_states.declared.cells.Part.TheVariants as part

-- the memory is that of the container with this head, or has no pages where none is born
abbrev pub IsOwn : PagedMemory → Option Head → Type 0
IsOwn m None = m.pages ≡ 0
IsOwn m (Some h) = IsMemoryOf h m

-- a container's memory is its own, and its blocks are held, each once
abbrev pub HasOwnMemory : (ℕ → Bool) → Part → Type 0
HasOwnMemory held (part.Atlas a) = Unit {0}
HasOwnMemory held (part.Container b) = IsOwn b.memory b.head × IsSoundTable held b.memory
HasOwnMemory held (part.Locus l) = Unit {0}

-- the blocks that the part's page table names, each place counted
abbrev pub blocks_named : Part → ℕ
blocks_named (part.Atlas a) = 0
blocks_named (part.Container b) = count_by (λ n. not (n == 0)) b.memory.table
blocks_named (part.Locus l) = 0

-- and the pages of a container that is born
abbrev pub pages_of : Option Head → ℕ
pages_of None = 0
pages_of (Some h) = h.pages

abbrev pub pages_born : Part → ℕ
pages_born (part.Atlas a) = 0
pages_born (part.Container b) = pages_of b.head
pages_born (part.Locus l) = 0
