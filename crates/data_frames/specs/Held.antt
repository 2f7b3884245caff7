-- How the frames are kept: a page table of keys, and a slab with a frame under each key.
use Rattle.std.specs.Prelude.{◌≡◌, ◌≢◌, ◌⊎◌, ℕ, ◌+◌, ◌<◌, ◌≤◌, Bool, true, false, not, List, length, Option, Some, None, is_some, slice_index_or, count_by, map}
use Rattle.slab.specs.Slab.{Slab, get, slab_len}
use Rattle.data_frames.specs.declared.clock.Frame.{Frame}
use Rattle.data_frames.specs.FrameTable.{Resident, FrameTable, comes_before}

-- what is seen of a frame: its words and its marks
abbrev pub seen : Option Frame → Option Resident
seen None = None
seen (Some f) = Some (record { words = f.words; changed = f.changed; used = f.used })

abbrev pub page_of : Option Frame → Option ℕ
page_of None = None
page_of (Some f) = Some f.page

abbrev pub used_of : Option Frame → Bool
used_of None = false
used_of (Some f) = f.used

-- the page in each frame
abbrev pub order_of : Slab Frame → List (Option ℕ)
order_of held = map page_of held.slots

-- what is seen of the page with this entry in the page table
abbrev pub seen_in : Slab Frame → Option ℕ → Option Resident
seen_in held None = None
seen_in held (Some key) = seen (get held key)

-- what is seen of all
abbrev pub table_of : ℕ → List (Option ℕ) → Slab Frame → ℕ → FrameTable
table_of frames table held hand = record { frames = frames; pages = map (seen_in held) table; order = order_of held; hand = hand }

abbrev pub key_of : List (Option ℕ) → ℕ → Option ℕ
key_of table page = slice_index_or table page None

-- the page table names exactly the frames that are held, and they fit
pub record IsSound (frames : ℕ) (table : List (Option ℕ)) (held : Slab Frame) : Type 0 where
  pub some_frames : 0 < frames
  pub few_frames : frames ≤ 256
  pub all_pages : length table ≡ 256
  pub named : (page key : ℕ) → key_of table page ≡ Some key → (f : Frame) × (get held key ≡ Some f) × (f.page ≡ page)
  pub listed : (key : ℕ) (f : Frame) → get held key ≡ Some f → key_of table f.page ≡ Some key
  pub whole : (key : ℕ) (f : Frame) → get held key ≡ Some f → length f.words ≡ 128
  pub counted : slab_len held ≡ count_by is_some table
  pub fits : slab_len held ≤ frames
  pub reserved : frames ≤ held.capacity

-- a frame without its mark of use
abbrev pub spared : Option Frame → Option Frame
spared None = None
spared (Some f) = Some (record f { used = false })

-- the frames are the same but for the marks of use
pub record SameButUsed (old new : Slab Frame) : Type 0 where
  pub same : (key : ℕ) → spared (get new key) ≡ spared (get old key)
  pub len : slab_len new ≡ slab_len old
  pub capacity : new.capacity ≡ old.capacity

-- a frame without a mark of use
abbrev pub is_unused : Option Frame → Bool
is_unused None = false
is_unused (Some f) = not f.used

-- the frame under a key, if there is one, has no mark of use any more, and all else is as it was
pub record Spares (key : ℕ) (old new : Slab Frame) : Type 0 where
  pub kept : SameButUsed old new
  pub cleared : used_of (get new key) ≡ false
  pub others : (k : ℕ) → k ≢ key → get new k ≡ get old k

-- the key is one of the first on the way round the keys from a start
pub record IsBehind (start keys steps key : ℕ) : Type 0 where
  pub within : key < keys
  pub is : ((start ≤ key) × (key < start + steps)) ⊎ (key + keys < start + steps)

-- the frames so far were used, and have lost their marks; the others have theirs
pub record HavePassed (start keys steps : ℕ) (old new : Slab Frame) : Type 0 where
  pub passed : (k : ℕ) (f : Frame) → get old k ≡ Some f → IsBehind start keys steps k → (f.used ≡ true) × (used_of (get new k) ≡ false)
  pub others : (k : ℕ) → (IsBehind start keys steps k → ⊥) → used_of (get new k) ≡ used_of (get old k)

-- no frame is among the first on the way round
abbrev pub NoneBehind : ℕ → ℕ → ℕ → Slab Frame → Type 0
NoneBehind start keys steps held = (k : ℕ) (f : Frame) → get held k ≡ Some f → IsBehind start keys steps k → ⊥

-- the frame under this key is unused, those that come before it were used and have lost their marks
pub record PassesTo (hand key : ℕ) (old new : Slab Frame) : Type 0 where
  pub unused : used_of (get old key) ≡ false
  pub passed : (k : ℕ) (f : Frame) → get old k ≡ Some f → comes_before hand k key ≡ true → (f.used ≡ true) × (used_of (get new k) ≡ false)
  pub others : (k : ℕ) → comes_before hand k key ≡ false → used_of (get new k) ≡ used_of (get old k)

-- all frames were used and have lost their marks
abbrev pub AllCleared : Slab Frame → Slab Frame → Type 0
AllCleared old new = (k : ℕ) (f : Frame) → get old k ≡ Some f → (f.used ≡ true) × (used_of (get new k) ≡ false)

-- no frame comes before the one under this key
abbrev pub IsFirstKey : ℕ → ℕ → Slab Frame → Type 0
IsFirstKey hand key held = (k : ℕ) (f : Frame) → get held k ≡ Some f → comes_before hand k key ≡ false

-- the clock's choice
abbrev pub IsChosen : ℕ → ℕ → Slab Frame → Slab Frame → Type 0
IsChosen hand key old new = PassesTo hand key old new ⊎ (AllCleared old new × IsFirstKey hand key old)
