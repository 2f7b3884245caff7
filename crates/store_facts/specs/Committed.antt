-- What a commit leaves of a store, and what a stop leaves of it.
use Rattle.std.specs.Prelude.{◌≡◌, ◌⊎◌, ◌+◌, ◌≤◌, ℕ, true, false, Contains, List, [], ◌∷◌, ◌++◌}
use Rattle.edge_disk.specs.declared.disk.Disk.{Ghosts}
use Rattle.edge_disk.specs.Image.{Image, block_at}
use Rattle.base_types.specs.declared.records.Rec.{Rec}
use Rattle.log_reading.specs.image_facts.Bodies.{blob_blocks}
use Rattle.log_reading.specs.image_facts.Layout.{pool_at}
use Rattle.page_words.specs.image_meaning.Stores.{Stores}
use Rattle.store_facts.specs.State.{HoldsPoolBlocks}
use Rattle.page_words.specs.store_books.Between.{OnlyPages}
use Rattle.page_words.specs.store_books.Books.{Books, Commits, StoresMore, is_used, kept_in, kept_of}

-- the blocks of the record's blob weren't in use, and those that were held are of the pool
pub record IsInFreeBlocks (b : Books) (r : Rec) : Type 0 where
  pub fresh : (n : ℕ) → Contains (blob_blocks r) n → is_used b n ≡ false
  pub pool : HoldsPoolBlocks b

-- WHAT A COMMIT LEAVES, in blocks that weren't in use, after one turn at most
pub record CommitsInFreeBlocks (entity version : ℕ) (stamp blob table : List ℕ) (reading : Image) (old new : Books) : Type 0 where
  pub commits : Commits entity version stamp blob table reading old new
  pub free : IsInFreeBlocks old commits.rec
  pub epoch : (old.place.epoch ≤ new.place.epoch) × (new.place.epoch ≤ old.place.epoch + 1)

-- WHAT IT LEAVES IN MEMORY, whatever the disk tells: the log has one record more, of this length and with these pages
pub record HasNewRecord (entity version length : ℕ) (stamp table : List ℕ) (old new : Books) : Type 0 where
  pub rec : Rec
  pub entity_is : rec.entity ≡ entity
  pub version_is : rec.version ≡ version
  pub stamp_is : rec.stamp ≡ stamp
  pub length_is : rec.length ≡ length
  pub log : (new.logged ≡ old.logged ++ record { rec = rec; table = table } ∷ []) ⊎ (new.logged ≡ kept_in old ++ record { rec = rec; table = table } ∷ [])
  pub same_held : new.held ≡ old.held
  pub same_found : new.found ≡ old.found
  pub same_count : new.count ≡ old.count
  pub working : new.shut ≡ false
  pub free : IsInFreeBlocks old rec
  pub epoch : (old.place.epoch ≤ new.place.epoch) × (new.place.epoch ≤ old.place.epoch + 1)

-- the image stores what was kept, and a new record in blocks that weren't in use
pub record StoresMoreInFreeBlocks (reading : Image) (b : Books) (entity version : ℕ) (stamp blob table : List ℕ) (c : Image) : Type 0 where
  pub more : StoresMore b.count (kept_of reading b) entity version stamp blob table reading c
  pub free : IsInFreeBlocks b more.new.rec

-- the image stores what these books keep of what was read, or that and a new record with this blob and these pages, in blocks that
-- weren't in use
abbrev pub StoresKeptOrMore : Image → Books → ℕ → ℕ → List ℕ → List ℕ → List ℕ → Image → Type 0
StoresKeptOrMore reading b entity version stamp blob table c =
    Stores b.count (kept_of reading b) c ⊎ StoresMoreInFreeBlocks reading b entity version stamp blob table c

-- after a write or a sync failed: no record came in memory, the same blocks are held, and the store is shut
pub record HasFailedShut (old new : Books) : Type 0 where
  pub same_logged : new.logged ≡ old.logged
  pub same_held : new.held ≡ old.held
  pub same_found : new.found ≡ old.found
  pub same_count : new.count ≡ old.count
  pub same_small : new.small ≡ old.small
  pub shut : new.shut ≡ true

-- each block of the pool that a kept record or a working page table names reads the same
abbrev pub SameUsed : Books → Image → Image → Type 0
SameUsed b old new = (n : ℕ) → pool_at ≤ n → is_used b n ≡ true → block_at new n ≡ block_at old n

-- THE LAW: where nothing was committed the same records are kept
abbrev pub SameKeptLaw : {D : Type 0} → Ghosts D → Type 0
SameKeptLaw {D = D} disks = (a b : D) → (old new : Books) → (m n : ℕ) → OnlyPages disks a b old new m n → kept_in new ≡ kept_in old
