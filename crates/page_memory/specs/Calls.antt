-- What the calls of a memory do to its pages and to its page store.
use Rattle.std.specs.Prelude.{◌≡◌, ◌≢◌, ◌↔◌, ◌⊎◌, ℕ, ◌+◌, ◌≤◌, Bool, false, true, List, Result, IfErr, IsErrOf, IsOk, OnErr, OnOk, None, is_some, IsTrue, ◌||◌}
use Rattle.page_store.specs.Pages.{SameWords}
use Rattle.page_store.specs.declared.store.PageStore.{Ghosts}
use Rattle.page_store.specs.model_kernel.State.{Supply}
use Rattle.data_blocks.specs.edge_disk.Counts.{Rose}
use Rattle.data_blocks.specs.edge_disk.Disk.{Ticks}
use Rattle.data_blocks.specs.edge_disk.declared.disk.NoBlocks.{NoBlocks}
use Rattle.page_store.specs.declared.faults.PageFault.{PageFault}
use Rattle.page_store.specs.declared.faults.PageFault.TheVariants as fault
use Rattle.data_frames.specs.FrameTable.{FrameTable, HasEmptyFrame, IsResident, IsVictim, changed_at, page_at}
use Rattle.page_memory.specs.declared.paged.PagedMemory.{PagedMemory}
use Rattle.page_memory.specs.Words.{block_at, words_of, AreCleanTrue, needs_block}

-- the words are the same at every address, and the pages that aren't changed have their blocks' words again
pub record Stands (s : Supply) (words words' : ℕ → List ℕ) (m m' : PagedMemory) : Type 0 where
  pub same : words_of s words' m' ≡ words_of s words m
  pub clean : AreCleanTrue s words' m'

-- the block is one of the table's
abbrev pub IsOfTable : PagedMemory → ℕ → Type 0
IsOfTable m n = (n ≢ 0) × ((page : ℕ) × (block_at m page ≡ n))

-- The blocks that are held outside the table are the same, and keep their words. Kept records name the same blocks, and
-- those keep their words too.
pub record Keeps {B : Type 0} (tells : Type 0) (held kept : B → ℕ → Bool) (words : B → ℕ → List ℕ) (m m' : PagedMemory) (b b' : B) : Type 0 where
  pub same_kept : kept b' ≡ kept b
  pub held_stay : (n : ℕ) → held b n ≡ true → (IsOfTable m n → ⊥) → (held b' n ≡ true) × (IsOfTable m' n → ⊥)
  pub no_others : (n : ℕ) → held b' n ≡ true → (IsOfTable m' n → ⊥) → (held b n ≡ true) × (IsOfTable m n → ⊥)
  pub held_words : tells → (n : ℕ) → held b n ≡ true → (IsOfTable m n → ⊥) → words b' n ≡ words b n
  pub kept_words : tells → (n : ℕ) → kept b n ≡ true → words b' n ≡ words b n
  -- a page has the block that it had, or one that no kept record names
  pub news : (page : ℕ) → (block_at m' page ≡ block_at m page) ⊎ (kept b (block_at m' page) ≡ false)

-- a new block is held that wasn't held and that no kept record names, and the one before, if any, no more
pub record Moves (held kept held' : ℕ → Bool) (block fresh : ℕ) : Type 0 where
  pub some : fresh ≢ 0
  pub was_free : held fresh ≡ false
  pub not_kept : kept fresh ≡ false
  pub is_held : held' fresh ≡ true
  pub gone : block ≢ 0 → held' block ≡ false
  pub others : (n : ℕ) → n ≢ fresh → (block ≢ 0 → n ≢ block) → held' n ≡ held n

-- the cause of a fault: no block was free, a count of faults that rose and shut the store, or a store that was shut
abbrev pub IsCausedBy : ℕ → ℕ → ℕ → Bool → Bool → PageFault → Type 0
IsCausedBy free before now was_shut is_shut (fault.NoBlocks n) = (free ≡ 0) × (n ≡ record { need = 1; free = 0 })
IsCausedBy free before now was_shut is_shut fault.ReadFault = Rose before now × (was_shut ≡ false) × (is_shut ≡ true)
IsCausedBy free before now was_shut is_shut fault.WriteFault = Rose before now × (was_shut ≡ false) × (is_shut ≡ true)
IsCausedBy free before now was_shut is_shut fault.Shut = was_shut ≡ true

-- a fault that no read gives
abbrev pub IsNoRead : PageFault → Type 0
IsNoRead (fault.NoBlocks n) = Unit {0}
IsNoRead fault.ReadFault = ⊥
IsNoRead fault.WriteFault = Unit {0}
IsNoRead fault.Shut = Unit {0}

-- the count of faults doesn't fall, and a store that is shut stays so
pub record Later {B : Type 0} (stores : Ghosts B) (b b' : B) : Type 0 where
  pub faults_rise : stores.faults b ≤ stores.faults b'
  pub writes_rise : stores.written b ≤ stores.written b'
  pub stays_shut : stores.is_shut b ≡ true → stores.is_shut b' ≡ true

-- every resident page stays resident
abbrev pub AllStay : PagedMemory → PagedMemory → Type 0
AllStay m m' = (page : ℕ) → IsResident m.frames page → IsResident m'.frames page

-- an eviction is tried for the page: it isn't resident, and no frame is empty
abbrev pub Evicts : PagedMemory → ℕ → Type 0
Evicts m page = (page_at m.frames page ≡ None) × (HasEmptyFrame m.frames → ⊥)

-- the page is read: it isn't resident, it has a block, and no eviction was tried that left every page resident
abbrev pub IsRead : PagedMemory → PagedMemory → ℕ → Type 0
IsRead m m' page = (page_at m.frames page ≡ None) × (block_at m page ≢ 0) × ((Evicts m page × AllStay m m') → ⊥)

-- reads are counted once where the page is read, and else never
pub record Reads (before now : ℕ) (m m' : PagedMemory) (page : ℕ) : Type 0 where
  pub once : IsRead m m' page → Ticks before now
  pub never : (IsRead m m' page → ⊥) → now ≡ before

-- the page comes to a page write: it is changed, and where it needs a new block one is free
pub record IsWritten (kept : ℕ → Bool) (free : ℕ) (m : PagedMemory) (page : ℕ) : Type 0 where
  pub changed : changed_at m.frames page ≡ true
  pub block : needs_block kept m page ≡ true → free ≢ 0

-- An eviction is tried of the clock's victim, which alone leaves. A block is wanting exactly where the victim needs one and
-- none is free. The answer is Shut exactly where the store was shut, and the victim comes to a write or a page is read.
pub record Chooses {T : Type 0} (kept : ℕ → Bool) (free : ℕ) (was_shut : Bool) (reads : Type 0) (m m' : PagedMemory) (result : Result T PageFault) : Type 0 where
  pub victim : ℕ
  pub after : FrameTable
  pub is : IsVictim victim m.frames after
  pub was_there : IsResident m.frames victim
  pub gone : OnOk result (page_at m'.frames victim ≡ None)
  pub others_stay : (p : ℕ) → p ≢ victim → IsResident m.frames p → IsResident m'.frames p
  pub exact : IsErrOf result (fault.NoBlocks (record { need = 1; free = 0 })) ↔ ((needs_block kept m victim ≡ true) × (free ≡ 0))
  -- and then nothing but the clock has moved
  pub turned : IsErrOf result (fault.NoBlocks (record { need = 1; free = 0 })) → m' ≡ record m { frames = after }
  pub shut : IsErrOf result fault.Shut ↔ ((was_shut ≡ true) × (IsWritten kept free m victim ⊎ reads))

-- A PAGE IS SHORT OF A BLOCK: it isn't resident and no frame is empty, the clock's victim is changed and has no block or one that a kept
-- record names, and none is free. Both numbers.
pub record IsPageShort (kept : ℕ → Bool) (free : ℕ) (m : PagedMemory) (page : ℕ) (n : NoBlocks) : Type 0 where
  pub evicts : Evicts m page
  pub victim : ℕ
  pub after : FrameTable
  pub is : IsVictim victim m.frames after
  pub needs : needs_block kept m victim ≡ true
  pub none_free : free ≡ 0
  pub numbers : n ≡ record { need = 1; free = 0 }

-- NOTHING BUT THE CLOCK HAS MOVED, to its next victim
pub record TurnsClock (m m' : PagedMemory) : Type 0 where
  pub victim : ℕ
  pub is : IsVictim victim m.frames m'.frames
  pub same : m' ≡ record m { frames = m'.frames }

-- Room for the page that is looked for. One that is resident is had. Every page stays in its frame where no eviction is
-- tried, and only where one is tried a block may be wanting. Without one the answer is Shut exactly where the store was shut
-- and the page is read.
pub record MakesRoom {T : Type 0} (kept : ℕ → Bool) (free : ℕ) (was_shut : Bool) (m m' : PagedMemory) (page : ℕ) (result : Result T PageFault) : Type 0 where
  pub had : IsResident m.frames page → IsOk result
  pub stay : (Evicts m page → ⊥) → AllStay m m'
  pub chooses : Evicts m page → Chooses kept free was_shut (IsRead m m' page) m m' result
  pub no_blocks : (n : NoBlocks) → IsErrOf result (fault.NoBlocks n) → Evicts m page
  pub shut : (Evicts m page → ⊥) → IsErrOf result fault.Shut ↔ ((was_shut ≡ true) × IsRead m m' page)

-- The counts of a store after a load or a store: at most one page write is begun, and the page is read where it has to be.
-- Where the page is resident, the store is as before.
pub record Counts {B : Type 0} (stores : Ghosts B) (m m' : PagedMemory) (page : ℕ) (b b' : B) : Type 0 where
  pub later : Later stores b b'
  pub one_write : stores.written b' ≤ stores.written b + 1
  pub reads : Reads (stores.read_calls b) (stores.read_calls b') m m' page
  pub untouched : IsResident m.frames page → b' ≡ b

-- no page is marked as changed
abbrev pub IsUnchanged : PagedMemory → Type 0
IsUnchanged m = (page : ℕ) → changed_at m.frames page ≡ false

-- A store after a flush: at most one page write for each page, and no read. Where no page was changed, the flush ends well
-- and the store is as before. The answer is Shut exactly where the store was shut and some page was changed.
pub record FlushCounts {B T : Type 0} (stores : Ghosts B) (m : PagedMemory) (result : Result T PageFault) (b b' : B) : Type 0 where
  pub later : Later stores b b'
  pub few_writes : stores.written b' ≤ stores.written b + 256
  pub no_read : stores.read_calls b' ≡ stores.read_calls b
  pub untouched : IsUnchanged m → IsOk result × (b' ≡ b)
  pub shut : IsErrOf result fault.Shut ↔ ((stores.is_shut b ≡ true) × ((page : ℕ) × (changed_at m.frames page ≡ true)))

-- what a call does to the pages: the same container, no page newly changed, and blocks change only where one was needed
pub record KeepsPages (kept : ℕ → Bool) (m m' : PagedMemory) : Type 0 where
  pub same_tag : m'.tag ≡ m.tag
  pub same_pages : m'.pages ≡ m.pages
  pub same_frames : m'.frames.frames ≡ m.frames.frames
  pub same_blocks : (page : ℕ) → needs_block kept m page ≡ false → block_at m' page ≡ block_at m page
  pub none_changed : (page : ℕ) → changed_at m'.frames page ≡ true → changed_at m.frames page ≡ true

-- the page isn't marked as changed any more, every page that was resident is so with its words, and the other pages are as they were
pub record Saves (page : ℕ) (m m' : PagedMemory) : Type 0 where
  pub unchanged : changed_at m'.frames page ≡ false
  pub residents : (p : ℕ) → is_some (page_at m'.frames p) ≡ is_some (page_at m.frames p)
  pub others : (p : ℕ) → p ≢ page → (changed_at m'.frames p ≡ changed_at m.frames p) × (block_at m' p ≡ block_at m p)

-- the same container, and blocks change only where one was needed
pub record KeepsBlocks (kept : ℕ → Bool) (m m' : PagedMemory) : Type 0 where
  pub same_tag : m'.tag ≡ m.tag
  pub same_pages : m'.pages ≡ m.pages
  pub same_frames : m'.frames.frames ≡ m.frames.frames
  pub same_blocks : (page : ℕ) → needs_block kept m page ≡ false → block_at m' page ≡ block_at m page

-- The page of a load or a store that was made is resident, and that of a store is marked as changed. No other page is newly
-- marked, nor is the page by a load or where the call failed.
pub record MarksOne {T : Type 0} (writes : Bool) (m m' : PagedMemory) (page : ℕ) (result : Result T PageFault) : Type 0 where
  pub resident : OnOk result (IsResident m'.frames page)
  pub changed : writes ≡ true → OnOk result (changed_at m'.frames page ≡ true)
  pub others : (p : ℕ) → p ≢ page → changed_at m'.frames p ≡ true → changed_at m.frames p ≡ true
  pub by_load : writes ≡ false → changed_at m'.frames page ≡ true → changed_at m.frames page ≡ true
  pub failed : OnErr result (changed_at m'.frames page ≡ true → changed_at m.frames page ≡ true)

-- OF A STORE OF ANY TYPE, by the ghost members of that type as one record

abbrev pub KeepsIn : {B : Type 0} → Ghosts B → PagedMemory → PagedMemory → B → B → Type 0
KeepsIn stores m m' old new = Keeps stores.tells stores.held stores.kept_names stores.words m m' old new

abbrev pub IsCausedIn : {B : Type 0} → Ghosts B → B → B → PageFault → Type 0
IsCausedIn stores old new = IsCausedBy (stores.free old) (stores.faults old) (stores.faults new) (stores.is_shut old) (stores.is_shut new)

abbrev pub IsWrittenIn : {B : Type 0} → Ghosts B → B → PagedMemory → ℕ → Type 0
IsWrittenIn stores b m page = IsWritten (stores.kept_names b) (stores.free b) m page

abbrev pub ChoosesIn : {B T : Type 0} → Ghosts B → B → Type 0 → PagedMemory → PagedMemory → Result T PageFault → Type 0
ChoosesIn stores b reads m m' result = Chooses (stores.kept_names b) (stores.free b) (stores.is_shut b) reads m m' result

abbrev pub MakesRoomIn : {B T : Type 0} → Ghosts B → B → PagedMemory → PagedMemory → ℕ → Result T PageFault → Type 0
MakesRoomIn stores b m m' page result = MakesRoom (stores.kept_names b) (stores.free b) (stores.is_shut b) m m' page result

-- the words of each block that is held or that a kept record names, but for these, are the same
abbrev pub WordsStay : {B : Type 0} → Ghosts B → (ℕ → Type 0) → B → B → Type 0
WordsStay stores these old new = SameWords stores.held stores.kept_names stores.words these old new

-- the same where this block, if there is one, may be written unless a kept record names it
abbrev pub WordsStayBut : {B : Type 0} → Ghosts B → ℕ → B → B → Type 0
WordsStayBut stores block old new = (n : ℕ) → IsTrue (stores.held old n || stores.kept_names old n) → (block ≢ 0 → n ≡ block → stores.kept_names old n ≡ true) → stores.words new n ≡ stores.words old n

-- A call that makes at most one page write: a fault has its cause, want of blocks changes nothing, a call that succeeds leaves the store
-- open or shut as it was, and nothing but calls of the store lie between.
pub record PagesOnce {B T : Type 0} (stores : Ghosts B) (b b' : B) (result : Result T PageFault) : Type 0 where
  pub cause : IfErr result (IsCausedIn stores b b')
  pub wanting : (n : NoBlocks) → IsErrOf result (fault.NoBlocks n) → b' ≡ b
  pub same_shut : OnOk result (stores.is_shut b' ≡ stores.is_shut b)
  pub one_write : stores.written b' ≤ stores.written b + 1
  pub between : stores.Pages b b'
