-- A log that stores kept records on a disk, and the record that comes next.
use Rattle.std.specs.Prelude.{◌≡◌, ◌⊎◌, ℕ, ◌<◌, ◌≤◌, if◌then◌else◌, nat_lt, List, [], ◌∷◌, ◌++◌, length, drop, take, All, slice_index}
use Rattle.std.specs.List.{AllByRecursion, concat}
use Rattle.edge_disk.specs.declared.disk.Disk.{Ghosts}
use Rattle.edge_disk.specs.Image.{Image, block_at}
use Rattle.base_types.specs.declared.records.Rec.{Rec}
use Rattle.store_books.specs.model_cut_laws.Records.{AgreeInRecs}
use Rattle.store_books.specs.image_facts.Bodies.{blocks_for}
use Rattle.store_books.specs.image_facts.Layout.{last_number, pool_at, slot_count}
use Rattle.store_books.specs.image_facts.Logs.{AreFitting}
use Rattle.store_books.specs.image_meaning.Stores.{IsFound, Kept, Page, Stores, recs_of}
use Rattle.store_books.specs.log_turn.Standing.{epoch_of, place_of, used_of}
use Rattle.store_books.specs.log_turn.declared.areas.Areas.{Areas}
use Rattle.store_books.specs.Books.{AreApartFrom, AreStored, IsBeforePool}

-- THE BLOCKS OF A COMMIT

-- a block of the blob of a record, of so many blocks
abbrev pub IsBlobBlock : Rec → ℕ → ℕ → Type 0
IsBlobBlock r many n = (i : ℕ) × (i < many) × (n ≡ slice_index r.blocks i)

-- the blocks that a commit of the record may write: those of the blob, and those before the pool
abbrev pub IsCommitBlock : Rec → ℕ → ℕ → Type 0
IsCommitBlock r many n = IsBeforePool n ⊎ IsBlobBlock r many n

-- the record names so many different blocks of the pool, on a disk of so many
pub record HasPlaces (r : Rec) (many count : ℕ) : Type 0 where
  pub pool : (i : ℕ) → i < many → pool_at ≤ slice_index r.blocks i
  pub within : (i : ℕ) → i < many → slice_index r.blocks i < count
  pub different : (i j : ℕ) → i < many → j < many → slice_index r.blocks i ≡ slice_index r.blocks j → i ≡ j

-- these blocks stand where the record names them
abbrev pub HasBlob : Rec → List (List ℕ) → Image → Type 0
HasBlob r blob image = (i : ℕ) → i < length blob → block_at image (slice_index r.blocks i) ≡ block_at blob i

-- the log that a commit appends to: the kept records where all slots are used, and otherwise the log as it is
abbrev pub roomy_log : ℕ → List Rec → List Rec → List Rec
roomy_log used recs kept = if nat_lt used slot_count then recs else kept

-- how many of its slots are used
abbrev pub roomy_used : ℕ → ℕ → ℕ
roomy_used used kept = if nat_lt used slot_count then used else kept

-- WHAT IS STORED

-- the areas stand for a log of these records on a disk that stores the kept ones
pub record HasLogged {D : Type 0} (disks : Ghosts D) (count : ℕ) (areas : Areas) (recs : List Rec) (ks : List Kept) (disk : D) : Type 0 where
  pub used : length recs ≡ used_of areas
  pub stored : AreStored disks count (place_of areas) recs ks disk

-- these blocks are the record's blob, its last one filled up with zeros
pub record IsBlobOf (new : Kept) (blocks : List (List ℕ)) : Type 0 where
  pub many : length blocks ≡ blocks_for new.rec.length
  pub listed : blocks_for new.rec.length ≤ length new.rec.blocks
  pub spelled : take new.rec.length (concat blocks) ≡ new.blob
  pub rest : All (λ b. b ≡ 0) (drop new.rec.length (concat blocks))
  pub components : length new.rec.stamp ≡ 64

-- the record goes behind these ones
pub record IsBehind (count : ℕ) (recs : List Rec) (ks : List Kept) (new : Kept) : Type 0 where
  pub fit : AreFitting count (recs ++ new.rec ∷ [])
  pub agree : AgreeInRecs (recs ++ new.rec ∷ []) (recs_of (ks ++ new ∷ []))

-- WHAT COMES NEXT: the new record with this blob goes behind the log, and behind the kept records where the log is turned to them;
-- no kept record names its blocks, and its pages stand in the image, apart from what the commit writes
pub record IsNext (count : ℕ) (recs kept : List Rec) (new : Kept) (blob : List (List ℕ)) (ks : List Kept) (reading : Image) : Type 0 where
  pub blob_is : IsBlobOf new blob
  pub free : AreApartFrom (IsBlobBlock new.rec (length blob)) ks
  pub pages_apart : AllByRecursion (λ (p : Page). IsCommitBlock new.rec (length blob) p.block → ⊥) new.pages
  pub pages : AllByRecursion (IsFound reading) new.pages
  pub behind : IsBehind count recs ks new
  pub kept_fit : AreFitting count kept
  pub kept_agree : AgreeInRecs kept (recs_of ks)
  pub kept_behind : IsBehind count kept ks new

-- what a commit is about: the number of blocks, the log, the kept records, and the new one's blob and pages
pub record Next : Type 0 where
  pub count : ℕ
  pub recs : List Rec
  pub ks : List Kept
  pub bytes : List ℕ
  pub pages : List Page

abbrev pub new_of : Next → Rec → Kept
new_of n r = record { rec = r; blob = n.bytes; pages = n.pages }

-- ALL IS READY for a commit that any stop survives: the kept records are stored, one more turn makes no epoch too large, and the new
-- record can come next
pub record IsReady {D : Type 0} (disks : Ghosts D) (n : Next) (areas : Areas) (kept : List Rec) (rec : Rec) (blob : List (List ℕ)) (disk : D) : Type 0 where
  pub logged : HasLogged disks n.count areas n.recs n.ks disk
  pub epoch : epoch_of areas < last_number
  pub next : IsNext n.count n.recs kept (new_of n rec) blob n.ks (disks.reading disk)

-- THE STAGES OF A COMMIT: the image stores what was kept, or that and the new record
abbrev pub StoresOneMore : ℕ → List Kept → Kept → Image → Type 0
StoresOneMore count ks new c = Stores count ks c ⊎ Stores count (ks ++ new ∷ []) c
