-- What a contract sees of the frames: which pages are resident, and with which words.
use Rattle.std.specs.Prelude.{◌≡◌, ◌≢◌, ◌⊎◌, ℕ, ◌+◌, ◌<◌, ◌≤◌, ◌&&◌, ◌||◌, nat_lt, nat_le, if◌then◌else◌, Bool, true, false, List, [], length, Option, Some, None, is_some, IsSome, slice_index, slice_index_or, slice_set, replicate, count_by}

-- a resident page: its words, and whether it is marked as changed and as used
pub record Resident : Type 0 where
  pub words : List ℕ
  pub changed : Bool
  pub used : Bool

-- how many frames there are, what is resident of each of the 256 pages, which page is in which frame, and the frame at
-- which the clock's hand stands
pub record FrameTable : Type 0 where
  pub frames : ℕ
  pub pages : List (Option Resident)
  pub order : List (Option ℕ)
  pub hand : ℕ

-- no page is resident
abbrev pub empty_table : ℕ → FrameTable
empty_table n = record { frames = n; pages = replicate 256 None; order = []; hand = 0 }

abbrev pub page_at : FrameTable → ℕ → Option Resident
page_at t page = slice_index_or t.pages page None

abbrev pub IsResident : FrameTable → ℕ → Type 0
IsResident t page = IsSome (page_at t page)

abbrev pub resident_words : Option Resident → List ℕ
resident_words None = []
resident_words (Some r) = r.words

abbrev pub resident_changed : Option Resident → Bool
resident_changed None = false
resident_changed (Some r) = r.changed

abbrev pub resident_used : Option Resident → Bool
resident_used None = false
resident_used (Some r) = r.used

-- the words of a resident page
abbrev pub words_at : FrameTable → ℕ → List ℕ
words_at t page = resident_words (page_at t page)

-- the changed mark of a resident page
abbrev pub changed_at : FrameTable → ℕ → Bool
changed_at t page = resident_changed (page_at t page)

-- the mark of use of a resident page
abbrev pub used_at : FrameTable → ℕ → Bool
used_at t page = resident_used (page_at t page)

-- one word of a resident page
abbrev pub word_at : FrameTable → ℕ → ℕ → ℕ
word_at t page place = slice_index (words_at t page) place

-- the words and the changed mark, if the page is resident
abbrev pub page_taken : Option Resident → Option (List ℕ × Bool)
page_taken None = None
page_taken (Some r) = Some (r.words, r.changed)

-- how many pages are resident
abbrev pub resident_count : FrameTable → ℕ
resident_count t = count_by is_some t.pages

abbrev pub HasEmptyFrame : FrameTable → Type 0
HasEmptyFrame t = resident_count t < t.frames

-- the table with this at one page, and all else as it was
abbrev pub with_page : FrameTable → ℕ → Option Resident → FrameTable
with_page t page slot = record t { pages = slice_set t.pages page slot }

-- the page is resident with these words and marks, and all else is as it was
abbrev pub with_resident : FrameTable → ℕ → List ℕ → Bool → Bool → FrameTable
with_resident t page words changed used = with_page t page (Some (record { words = words; changed = changed; used = used }))

-- the page in a frame, if there is one
abbrev pub page_in : FrameTable → ℕ → Option ℕ
page_in t frame = slice_index_or t.order frame None

-- this is in one frame, and the others have what they had
pub record Fills (frame : ℕ) (slot : Option ℕ) (old new : FrameTable) : Type 0 where
  pub filled : page_in new frame ≡ slot
  pub others : (other : ℕ) → other ≢ frame → page_in new other ≡ page_in old other

-- the page came into an empty frame with these words, marked as used and not as changed
pub record Places (page : ℕ) (words : List ℕ) (old new : FrameTable) : Type 0 where
  pub frame : ℕ
  pub was_empty : page_in old frame ≡ None
  pub fills : Fills frame (Some page) old new
  pub is : record new { order = old.order } ≡ with_resident old page words false true

-- the page left its frame, and the frame is empty
pub record Removes (page : ℕ) (old new : FrameTable) : Type 0 where
  pub frame : ℕ
  pub was_there : page_in old frame ≡ Some page
  pub fills : Fills frame None old new
  pub is : record new { order = old.order } ≡ with_page old page None

-- THE CLOCK

-- the first frame comes before the second on a hand's way round from where it stands: the last frame is followed by the first
abbrev pub comes_before : ℕ → ℕ → ℕ → Bool
comes_before hand a b = if nat_le hand a then (nat_lt b hand || nat_lt a b) else (nat_lt b hand && nat_lt a b)

-- each resident page that the hand passes before it comes to this frame was used, and has lost the mark; the others keep theirs
pub record Passes (frame page : ℕ) (old new : FrameTable) : Type 0 where
  pub unused : used_at old page ≡ false
  pub passed : (f p : ℕ) → page_in old f ≡ Some p → comes_before old.hand f frame ≡ true → (used_at old p ≡ true) × (used_at new p ≡ false)
  pub others : (f p : ℕ) → page_in old f ≡ Some p → comes_before old.hand f frame ≡ false → used_at new p ≡ used_at old p

-- every page was used and has lost the mark, and no page's frame comes before this one
pub record GoesRound (frame : ℕ) (old new : FrameTable) : Type 0 where
  pub first : (f p : ℕ) → page_in old f ≡ Some p → comes_before old.hand f frame ≡ false
  pub all_used : (f p : ℕ) → page_in old f ≡ Some p → (used_at old p ≡ true) × (used_at new p ≡ false)

-- the words and the changed mark
abbrev pub unmarked : Option Resident → Option (List ℕ × Bool)
unmarked None = None
unmarked (Some r) = Some (r.words, r.changed)

-- The page is the next victim of the clock: the first unused one from the hand on, or the first where all were used. The
-- hand stands behind it, and nothing but marks of use has changed.
pub record IsVictim (page : ℕ) (old new : FrameTable) : Type 0 where
  pub frame : ℕ
  pub at : page_in old frame ≡ Some page
  pub chosen : Passes frame page old new ⊎ GoesRound frame old new
  pub hand : new.hand ≡ frame + 1
  pub same_frames : new.frames ≡ old.frames
  pub same_order : (f : ℕ) → page_in new f ≡ page_in old f
  pub same_pages : (p : ℕ) → unmarked (page_at new p) ≡ unmarked (page_at old p)

-- what holds of every table
pub record IsBounded (t : FrameTable) : Type 0 where
  pub some_frames : 0 < t.frames
  pub few_frames : t.frames ≤ 256
  pub all_pages : length t.pages ≡ 256
  pub fits : resident_count t ≤ t.frames
  pub whole_pages : (page : ℕ) → IsResident t page → length (words_at t page) ≡ 128
