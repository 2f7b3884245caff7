-- The cells against the books of their store: what is true of both whatever the disk tells.
use Rattle.std.specs.Prelude.{◌≡◌, ℕ, ◌+◌, ◌<◌, ◌≤◌, ◌==◌, if◌then◌else◌, true, false, List, slice_get, slice_index, Option, Some, None}
use Rattle.kernel_views.specs.cell_blobs.Blobs.{is_recorded}
use Rattle.kernel_views.specs.table_laws.Tables.{IsOrderly}
use Rattle.kernel_views.specs.cell_states.declared.cells.Cell.{Cell}
use Rattle.kernel_views.specs.kernel_records.Keeping.{HasNewest}
use Rattle.kernel_views.specs.Views.{newest_at}
use Rattle.kernel_views.specs.store_facts.Shelves.{records_of}
use Rattle.kernel_views.specs.store_books.Books.{Books, kept_in, recs_in}

abbrev pub version_at : Option Cell → ℕ
version_at (Some c) = c.clock.version
version_at None = 0

-- the version of each entity's newest record, and that of each entity, as the cells have them
abbrev pub newest_of : List Cell → ℕ → ℕ
newest_of cs x = newest_at (slice_get cs x)

abbrev pub version_of : List Cell → ℕ → ℕ
version_of cs x = version_at (slice_get cs x)

-- THE CELLS MATCH THE BOOKS of a store: they are in order, the newest record of each is the newest in the log, rests on versions that are
-- reached, and no entity has more kept records than this.
pub record MatchesBooks (most : ℕ → ℕ) (b : Books) (cs : List Cell) : Type 0 where
  pub orderly : IsOrderly b.held cs
  pub read : b.found ≡ false
  pub stamps : ℕ → List ℕ
  pub newest : HasNewest (newest_of cs) stamps (recs_in b)
  pub below : (x y : ℕ) → 0 < newest_of cs x → slice_index (stamps x) y ≤ version_of cs y
  pub few : (y : ℕ) → records_of y (kept_in b) ≤ most y

-- where a record of an entity comes, so many records are room for its entity's
abbrev pub HasRoomFor : (ℕ → ℕ) → ℕ → Books → Type 0
HasRoomFor most x b = (y : ℕ) → records_of y (kept_in b) + (if y == x then 1 else 0) ≤ most y

-- the same log, the same records kept
pub record SameLog (old new : Books) : Type 0 where
  pub same_logged : new.logged ≡ old.logged
  pub same_found : new.found ≡ old.found

-- no version falls, and the newest records are the same
pub record Rises (cs cs' : List Cell) : Type 0 where
  pub versions : (x : ℕ) → version_of cs x ≤ version_of cs' x
  pub newest : (x : ℕ) → newest_of cs' x ≡ newest_of cs x

-- each cell has its newest record
abbrev pub AreRecorded : List Cell → Type 0
AreRecorded cs = (x : ℕ) (c : Cell) → slice_get cs x ≡ Some c → is_recorded c ≡ true
