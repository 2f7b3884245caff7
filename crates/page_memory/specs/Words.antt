-- What contracts see of a container's memory over a page store, and the words that it stands for.
use Rattle.std.specs.Prelude.{◌≡◌, ◌≢◌, ℕ, zero, suc, ◌+◌, ◌/◌, ◌%◌, ◌<◌, ◌≤◌, Bool, false, true, ◌&&◌, ◌||◌, ◌==◌, if◌then◌else◌, List, length, Option, Some, None, slice_index}
use Rattle.page_store.specs.model_kernel.State.{Supply}
use Rattle.data_frames.specs.FrameTable.{Resident, IsResident, changed_at, page_at, resident_count}
use Rattle.page_memory.specs.declared.paged.PagedMemory.{PagedMemory}

-- the block of a page, 0 for none
abbrev pub block_at : PagedMemory → ℕ → ℕ
block_at m page = slice_index m.table page

-- a word of a page that isn't resident: its block's, or the supplier's where it has no block
abbrev pub stored_word : Supply → ℕ → (ℕ → List ℕ) → ℕ → ℕ → ℕ → ℕ
stored_word s tag words block page place = if block == 0 then s tag page place else slice_index (words block) place

-- a word of a page, from its frame where it is resident
abbrev pub word_by : Supply → ℕ → (ℕ → List ℕ) → ℕ → ℕ → ℕ → Option Resident → ℕ
word_by s tag words block page place (Some r) = slice_index r.words place
word_by s tag words block page place None = stored_word s tag words block page place

abbrev pub word_in : Supply → (ℕ → List ℕ) → PagedMemory → ℕ → ℕ → ℕ
word_in s words m page place = word_by s m.tag words (block_at m page) page place (page_at m.frames page)

-- THE WORDS OF THE MEMORY, at every address
abbrev pub words_of : Supply → (ℕ → List ℕ) → PagedMemory → ℕ → ℕ
words_of s words m = λ address. word_in s words m (address / 128) (address % 128)

-- the blocks of a table are held and differ
pub record AreHeldBlocks (held : ℕ → Bool) (table : List ℕ) : Type 0 where
  pub held_blocks : (page : ℕ) → slice_index table page ≢ 0 → held (slice_index table page) ≡ true
  pub differ : (p q : ℕ) → slice_index table p ≢ 0 → slice_index table p ≡ slice_index table q → p ≡ q

-- there are at most 256 pages, at most as many are resident as there are frames, none from the size on has a block or is
-- resident, and the blocks are held and differ
pub record IsSoundTable (held : ℕ → Bool) (m : PagedMemory) : Type 0 where
  pub few : m.pages ≤ 256
  pub len : length m.table ≡ 256
  pub fits : resident_count m.frames ≤ m.frames.frames
  pub none_past : (page : ℕ) → m.pages ≤ page → (block_at m page ≡ 0) × (page_at m.frames page ≡ None)
  pub held_blocks : (page : ℕ) → block_at m page ≢ 0 → held (block_at m page) ≡ true
  pub differ : (p q : ℕ) → block_at m p ≢ 0 → block_at m p ≡ block_at m q → p ≡ q

-- a resident page that isn't marked as changed has its block's words, or the supplier's
abbrev pub AreCleanTrue : Supply → (ℕ → List ℕ) → PagedMemory → Type 0
AreCleanTrue s words m = (page place : ℕ) → place < 128 → IsResident m.frames page → changed_at m.frames page ≡ false
    → word_in s words m page place ≡ stored_word s m.tag words (block_at m page) page place

-- a changed page needs a new block where it has none, or where a kept record names its block
abbrev pub needs_block : (ℕ → Bool) → PagedMemory → ℕ → Bool
needs_block kept m page = changed_at m.frames page && (block_at m page == 0 || kept (block_at m page))

-- how many of the first so many pages need one
unfoldable pub need_below : (ℕ → Bool) → PagedMemory → ℕ → ℕ
need_below kept m zero = 0
need_below kept m (suc n) = need_below kept m n + (if needs_block kept m n then 1 else 0)

-- how many pages need one
abbrev pub need_of : (ℕ → Bool) → PagedMemory → ℕ
need_of kept m = need_below kept m 256

-- how many blocks a page needs
abbrev pub need_at : (ℕ → Bool) → PagedMemory → ℕ → ℕ
need_at kept m page = if needs_block kept m page then 1 else 0
