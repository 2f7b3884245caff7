-- The cells of the kernel: a list of 64, each at its entity's number.
use Rattle.std.specs.Prelude.{◌≡◌, ◌≢◌, ◌⊎◌, ℕ, ◌<◌, ◌≤◌, ◌^◌, Bool, true, false, List, [], length, slice_get, slice_index, Option, Some, None}
use Rattle.cell_steps.specs.model_kernel.Histories.{Run}
use Rattle.cell_steps.specs.model_kernel.State.{EntityState, KernelState, Supply, empty_state}
use Rattle.cell_steps.specs.data_stamps.Stamps.{component}
use Rattle.cell_steps.specs.page_memory.declared.paged.PagedMemory.{PagedMemory}
use Rattle.cell_steps.specs.page_memory.Words.{AreCleanTrue}
use Rattle.cell_steps.specs.cell_states.declared.cells.Cell.{Cell}
use Rattle.cell_steps.specs.cell_states.declared.cells.Part.{Part}
use Rattle.cell_steps.specs.cell_states.declared.cells.Part.TheVariants as part
use Rattle.cell_steps.specs.cell_states.Cells.{part_of}
use Rattle.cell_steps.specs.cell_states.Wishes.{HasWish}
use Rattle.cell_steps.specs.cell_calls.Besides.{memory_of}
use Rattle.cell_step_laws.specs.cell_wish_laws.Founded.{IsFoundedCell}
use Rattle.cell_blob_laws.specs.Memories.{HasOwnMemory}
use Rattle.model_sound_states.specs.States.{IsSoundState}

-- THE CELLS of the kernel: 64, each at its entity's number
pub record AreNumbered (cs : List Cell) : Type 0 where
  pub len : length cs ≡ 64
  pub each : (x : ℕ) (c : Cell) → slice_get cs x ≡ Some c → c.clock.entity ≡ x

-- what an entity is, by its cell and what the blocks of a store hold
abbrev pub entity_by : Supply → (ℕ → List ℕ) → Cell → EntityState
entity_by s words c = record { cell = part_of s words c.part; version = c.clock.version; stamp = λ y. component c.clock.stamp y }

abbrev pub entity_in : Supply → (ℕ → List ℕ) → ℕ → Option Cell → EntityState
entity_in s words x (Some c) = entity_by s words c
entity_in s words x None = empty_state x

-- THE STATE that the cells are
abbrev pub state_in : Supply → (ℕ → List ℕ) → List Cell → KernelState
state_in s words cs = λ x. entity_in s words x (slice_get cs x)

-- the memory of a container's cell, and the blocks of its pages, none elsewhere
abbrev pub memory_at : Option Cell → Option PagedMemory
memory_at (Some c) = memory_of c.part
memory_at None = None

abbrev pub blocks_by : Option PagedMemory → List ℕ
blocks_by (Some m) = m.table
blocks_by None = []

-- THE PAGE TABLES, by number
abbrev pub tables_in : List Cell → ℕ → List ℕ
tables_in cs = λ x. blocks_by (memory_at (slice_get cs x))

-- a page of the tables has the block that it had, or one that no kept record names
abbrev pub HasNews : (ℕ → Bool) → (ℕ → List ℕ) → (ℕ → List ℕ) → Type 0
HasNews kept tables tables' = (x page : ℕ) → (slice_index (tables' x) page ≡ slice_index (tables x) page) ⊎ (kept (slice_index (tables' x) page) ≡ false)

-- the run has the wish and the steps left of each cell
abbrev pub HasTableWishes : ℕ → Run → List Cell → Type 0
HasTableWishes steps r cs = (x : ℕ) (c : Cell) → slice_get cs x ≡ Some c → HasWish steps r c

-- pages that aren't changed have their blocks' words, or the supplier's
abbrev pub AreClean : Supply → (ℕ → List ℕ) → List Cell → Type 0
AreClean s words cs = (x : ℕ) (m : PagedMemory) → memory_at (slice_get cs x) ≡ Some m → AreCleanTrue s words m

-- the part is of its number's kind, also where it isn't born
abbrev pub HasKind : ℕ → Part → Type 0
HasKind x (part.Atlas a) = x ≡ 0
HasKind x (part.Container b) = (0 < x) × (x ≤ 40)
HasKind x (part.Locus l) = 40 < x

-- how many steps a locus may still make
abbrev pub left_of : Option Cell → ℕ
left_of (Some c) = c.left
left_of None = 0

-- each version may rise
abbrev pub AreFewWrites : List Cell → Type 0
AreFewWrites cs = (x : ℕ) (c : Cell) → slice_get cs x ≡ Some c → c.clock.version < 2 ^ 63

-- WHAT IS TRUE OF THE CELLS whatever the disk tells: each at its number, of a sound state whatever the blocks hold, wishes rest on
-- changes, and each held block is one page's of one container
pub record IsOrderly (held : ℕ → Bool) (cs : List Cell) : Type 0 where
  pub numbers : AreNumbered cs
  pub sound : (s : Supply) (words : ℕ → List ℕ) → IsSoundState s (state_in s words cs)
  pub founded : (x : ℕ) (c : Cell) → slice_get cs x ≡ Some c → IsFoundedCell c
  pub kinds : (x : ℕ) (c : Cell) → slice_get cs x ≡ Some c → HasKind x c.part
  -- a container has its memory from the start
  pub own : (x : ℕ) (c : Cell) → slice_get cs x ≡ Some c → HasOwnMemory held c.part
  pub once : (x y p q : ℕ) → slice_index (tables_in cs x) p ≢ 0 → slice_index (tables_in cs x) p ≡ slice_index (tables_in cs y) q → (x ≡ y) × (p ≡ q)
  pub named : (n : ℕ) → held n ≡ true → (x : ℕ) × (p : ℕ) × (n ≢ 0) × (slice_index (tables_in cs x) p ≡ n)
