-- What a store keeps in memory of its image, and what that says of the image.
use Rattle.std.specs.Prelude.{◌≡◌, ◌≢◌, ◌⊎◌, ℕ, ◌*◌, ◌-◌, ◌<◌, Bool, true, false, not, ◌&&◌, ◌||◌, ◌==◌, nat_le, if◌then◌else◌, List, [], ◌∷◌, ◌++◌, filter, count_by, length, map, slice_index}
use Rattle.std.specs.List.{AllByRecursion, flat_map, list_all, list_any, range_with_len}
use Rattle.edge_disk.specs.declared.disk.Disk.{Ghosts}
use Rattle.edge_disk.specs.Image.{Image, block_at}
use Rattle.image_meaning.specs.model_cut_laws.Records.{AgreeInRecs}
use Rattle.image_blocks.specs.base_types.Edges.{upto}
use Rattle.image_blocks.specs.base_types.declared.records.Rec.{Rec}
use Rattle.image_blocks.specs.image_facts.Bodies.{blob_blocks, blob_in, number_at}
use Rattle.image_blocks.specs.image_facts.Layout.{last_number, pool_at}
use Rattle.image_blocks.specs.image_facts.Logs.{AreFitting}
use Rattle.image_blocks.specs.Logs.{HasFront, HasLog, Place}
use Rattle.image_meaning.specs.Parts.{cut_of}
use Rattle.image_meaning.specs.Stores.{IsHeld, Kept, Page, Stores, recs_of}
use Rattle.log_turn.specs.log_facts.Areas.{SameAreas}

-- a record of the log, with the block of each page that its blob names, 0 for none
pub record Logged : Type 0 where
  pub rec : Rec
  pub table : List ℕ

-- THE BOOKS OF A STORE: how many blocks the image has, the records of its log in order, where the log stands, the blocks that are held,
-- whether records were found whose blobs aren't read yet, whether no record that was ever in the log has a number too large, whether
-- the disk failed, and how many writes and syncs were begun
pub record Books : Type 0 where
  pub count : ℕ
  pub logged : List Logged
  pub place : Place
  pub held : ℕ → Bool
  pub found : Bool
  pub small : Bool
  pub shut : Bool
  pub begun : ℕ

abbrev pub logged_recs : List Logged → List Rec
logged_recs ls = map (λ (l : Logged). l.rec) ls

abbrev pub recs_in : Books → List Rec
recs_in b = logged_recs b.logged

-- each record has as many components as there are entities, as a `Rec` of the code has
abbrev pub HaveComponents : List Rec → Type 0
HaveComponents recs = AllByRecursion (λ (r : Rec). length r.stamp ≡ 64) recs

-- the greatest closed choice over all records of the log
abbrev pub cut_in : Books → ℕ → ℕ
cut_in b = cut_of (recs_in b)

-- the kept records: those at or above it
abbrev pub kept_in : Books → List Logged
kept_in b = filter (λ (l : Logged). nat_le (cut_in b l.rec.entity) l.rec.version) b.logged

-- a record names the block, by its blob or by a page
abbrev pub names : ℕ → Logged → Bool
names n l = not (n == 0) && (list_any (λ m. m == n) (blob_blocks l.rec) || list_any (λ m. m == n) l.table)

-- a kept record names the block; until the blobs of found records are read each block counts as named
abbrev pub kept_names : Books → ℕ → Bool
kept_names b n = b.found || list_any (names n) (kept_in b)

-- IN USE: a kept record or a working page table names it
abbrev pub is_used : Books → ℕ → Bool
is_used b n = b.held n || kept_names b n

abbrev pub free_in : Books → ℕ
free_in b = count_by (λ n. not (is_used b n)) (range_with_len pool_at (b.count - pool_at))

-- WHAT THE BLOCKS HOLD

abbrev pub words_of_bytes : List ℕ → List ℕ
words_of_bytes bytes = map (λ i. number_at (8 * i) 8 bytes) (upto 128)

abbrev pub page_for : Image → ℕ → List Page
page_for image n = if n == 0 then [] else record { block = n; bytes = block_at image n } ∷ []

-- a record with its blob and pages as they stand in an image
abbrev pub kept_for : Image → Logged → Kept
kept_for image l = record { rec = l.rec; blob = blob_in image l.rec; pages = flat_map (page_for image) l.table }

-- THE KEPT RECORDS of the books, as the image holds them
abbrev pub kept_of : Image → Books → List Kept
kept_of image b = map (kept_for image) (kept_in b)

-- no block of the record's blob and of its pages is one of these
pub record IsApart (these : ℕ → Type 0) (k : Kept) : Type 0 where
  pub blob : AllByRecursion (λ n. these n → ⊥) (blob_blocks k.rec)
  pub pages : AllByRecursion (λ (p : Page). these p.block → ⊥) k.pages

abbrev pub AreApartFrom : (ℕ → Type 0) → List Kept → Type 0
AreApartFrom these ks = AllByRecursion (IsApart these) ks

-- a block before the pool
abbrev pub IsBeforePool : ℕ → Type 0
IsBeforePool n = n < pool_at

-- no number of the record is too large for an image that is accepted
abbrev pub is_small : Rec → Bool
is_small r = nat_le r.version last_number && list_all (λ n. nat_le n last_number) r.stamp

-- No number is too large for an image that is accepted, and one more turn makes none. The flag is to tell of records that a turn
-- dropped too, so that books that are small were small before.
pub record AreSmall (b : Books) : Type 0 where
  pub recs : b.small ≡ true
  pub epoch : b.place.epoch < last_number

-- WHAT A STOP NOW LEAVES: in each image the front is good, the log at this place is these records, which fit, headers and gates of
-- both areas are as they read, and the kept records stand, in the pool. The records agree with the kept ones from the greatest closed
-- choice on. This is what goes on from one write to the next; that each image stores the kept records follows from it.
pub record AreStored {D : Type 0} (disks : Ghosts D) (count : ℕ) (p : Place) (recs : List Rec) (ks : List Kept) (disk : D) : Type 0 where
  pub fit : AreFitting count recs
  pub agree : AgreeInRecs recs (recs_of ks)
  pub pool : AreApartFrom IsBeforePool ks
  pub left : (c : Image) → disks.may_leave disk c → HasLog p recs c × SameAreas (disks.reading disk) c
  pub front : (c : Image) → disks.may_leave disk c → HasFront count p c
  pub held : (c : Image) → disks.may_leave disk c → AllByRecursion (IsHeld c) ks

-- THE BOOKS ARE TRUE of the disk: until it has failed, what reads is the log, and so it is in each image that a stop now may leave;
-- and while no number is too large either, the kept records are stored in each of them
pub record AreTrue {D : Type 0} (disks : Ghosts D) (b : Books) (disk : D) : Type 0 where
  pub log : b.shut ≡ false → HasLog b.place (recs_in b) (disks.reading disk)
  pub left : b.shut ≡ false → (c : Image) → disks.may_leave disk c → HasLog b.place (recs_in b) c × SameAreas (disks.reading disk) c
  pub stored : AreSmall b → b.shut ≡ false → AreStored disks b.count b.place (recs_in b) (kept_of (disks.reading disk) b) disk

-- each page that has a block has one that is held
abbrev pub AreHeldPages : (ℕ → Bool) → List ℕ → Type 0
AreHeldPages held table = (page : ℕ) → slice_index table page ≢ 0 → held (slice_index table page) ≡ true

-- each nonzero block once
abbrev pub AreApart : List ℕ → Type 0
AreApart table = (p q : ℕ) → slice_index table p ≢ 0 → slice_index table p ≡ slice_index table q → p ≡ q

-- WHAT A COMMIT LEAVES
pub record Commits (entity version : ℕ) (stamp blob table : List ℕ) (reading : Image) (old new : Books) : Type 0 where
  pub rec : Rec
  pub entity_is : rec.entity ≡ entity
  pub version_is : rec.version ≡ version
  pub stamp_is : rec.stamp ≡ stamp
  pub length_is : rec.length ≡ length blob
  pub blob_is : blob_in reading rec ≡ blob
  -- the log has the new record behind the kept ones, whether it was turned or not
  pub log : (new.logged ≡ old.logged ++ record { rec = rec; table = table } ∷ []) ⊎ (new.logged ≡ kept_in old ++ record { rec = rec; table = table } ∷ [])
  pub same_held : new.held ≡ old.held
  pub same_found : new.found ≡ old.found
  pub same_count : new.count ≡ old.count

-- the record that a commit makes, for some blocks of its blob
pub record IsNewKept (entity version : ℕ) (stamp blob table : List ℕ) (reading : Image) (k : Kept) : Type 0 where
  pub entity_is : k.rec.entity ≡ entity
  pub version_is : k.rec.version ≡ version
  pub stamp_is : k.rec.stamp ≡ stamp
  pub blob_is : k.blob ≡ blob
  pub pages_are : k.pages ≡ flat_map (page_for reading) table

-- THE STAGES OF A COMMIT: the image stores what was kept, or that and the new record
pub record StoresMore (count : ℕ) (ks : List Kept) (entity version : ℕ) (stamp blob table : List ℕ) (reading c : Image) : Type 0 where
  pub new : Kept
  pub is : IsNewKept entity version stamp blob table reading new
  pub stores : Stores count (ks ++ new ∷ []) c
