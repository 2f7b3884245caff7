-- The two commits of a copy, as a store's commit leaves them.
use Rattle.std.specs.Prelude.{◌≡◌, ℕ, ◌+◌, ◌<◌, ◌&&◌, true, false, List, slice_index}
use Rattle.edge_disk.specs.declared.disk.Disk.{Ghosts}
use Rattle.edge_disk.specs.Image.{Image}
use Rattle.edge_disk.specs.Moments.{LeavesOnly}
use Rattle.kernel_invariant.specs.model_kernel.State.{KernelState, Supply, Text}
use Rattle.kernel_invariant.specs.image_facts.Layout.{last_number}
use Rattle.kernel_invariant.specs.image_meaning.Meaning.{Means}
use Rattle.kernel_invariant.specs.image_meaning.Stores.{Kept, Stores}
use Rattle.kernel_invariant.specs.store_books.Books.{AreSmall, AreTrue, Books, IsNewKept, kept_in, kept_of}
use Rattle.kernel_invariant.specs.store_books.Owning.{AreOwned}
use Rattle.store_facts.specs.Committed.{CommitsInFreeBlocks, SameUsed, StoresKeptOrMore}
use Rattle.store_facts.specs.Putting.{are_small}
use Rattle.store_facts.specs.State.{HoldsPoolBlocks}
use Rattle.store_copies.specs.model_copies.Copies.{IsCopied}
use Rattle.store_copies.specs.Images.{AreRecordsOf, IsAtlasRecord, IsCopyRecord, IsMeantState}
use Rattle.store_copies.specs.Moments.{MeansEither}

-- THE TWO MAY BE COMMITTED: the store keeps the records of the state, all of its log; the pages of the two are those of their entities' working tables;
-- and whichever blocks their blobs get, while blocks in use read the same, the first tells the new atlas and the second the copy. No number is too large.
pub record MayCopy (s : Supply) (name fresh : Text) (v w : KernelState) (image : Image) (bk : Books) (tables : ℕ → List ℕ) (entity version : ℕ) (stamp blob table : List ℕ) (entity2 version2 : ℕ) (stamp2 blob2 table2 : List ℕ) : Type 0 where
  pub meant : IsMeantState s v
  pub copied : IsCopied name fresh v w
  pub records : AreRecordsOf s v (kept_of image bk)
  pub all_kept : kept_in bk ≡ bk.logged
  pub owned : AreOwned bk tables
  pub pool : HoldsPoolBlocks bk
  pub first_table : (p : ℕ) → slice_index table p ≡ slice_index (tables entity) p
  pub second_table : (p : ℕ) → slice_index table2 p ≡ slice_index (tables entity2) p
  pub first : (at : Image) (k : Kept) → SameUsed bk image at → IsNewKept entity version stamp blob table at k → IsAtlasRecord s w k
  pub second : (at : Image) (k : Kept) → SameUsed bk image at → IsNewKept entity2 version2 stamp2 blob2 table2 at k → IsCopyRecord s name fresh v w k
  pub small : AreSmall bk
  pub fits : are_small version stamp ≡ true
  pub epoch : bk.place.epoch + 1 < last_number

-- WHAT THE FIRST COMMIT LEFT
pub record CommitsFirst {D : Type 0} (disks : Ghosts D) (old mid : D) (bk between : Books) (entity version : ℕ) (stamp blob table : List ℕ) : Type 0 where
  pub committed : CommitsInFreeBlocks entity version stamp blob table (disks.reading mid) bk between
  pub same_used : SameUsed bk (disks.reading old) (disks.reading mid)
  pub small : between.small ≡ (bk.small && are_small version stamp)
  pub true_books : AreTrue disks between mid
  pub working : between.shut ≡ false

-- THE FIRST OF THEM MAY BE
pub record MayCopyAtlas (s : Supply) (name fresh : Text) (v w : KernelState) (image : Image) (bk : Books) (tables : ℕ → List ℕ) (entity version : ℕ) (stamp blob table : List ℕ) : Type 0 where
  pub meant : IsMeantState s v
  pub copied : IsCopied name fresh v w
  pub records : AreRecordsOf s v (kept_of image bk)
  pub owned : AreOwned bk tables
  pub pool : HoldsPoolBlocks bk
  pub table_is : (p : ℕ) → slice_index table p ≡ slice_index (tables entity) p
  pub first : (at : Image) (k : Kept) → SameUsed bk image at → IsNewKept entity version stamp blob table at k → IsAtlasRecord s w k

-- THE LAW of the moments of the first commit, made or failed
abbrev pub FirstMomentsLaw : {D : Type 0} → Ghosts D → Type 0
FirstMomentsLaw {D = D} disks = (s : Supply) (name fresh : Text) (v w : KernelState) (old mid : D) (bk : Books) (tables : ℕ → List ℕ)
    (entity version : ℕ) (stamp blob table : List ℕ)
    → MayCopyAtlas s name fresh v w (disks.reading old) bk tables entity version stamp blob table
    → LeavesOnly disks old mid (StoresKeptOrMore (disks.reading old) bk entity version stamp blob table)
    → LeavesOnly disks old mid (λ c. Means s c v)

-- where the store keeps the records of a state, each image that stores them means it
abbrev pub KeptMeansLaw : Type 0
KeptMeansLaw = (s : Supply) (v : KernelState) (image c : Image) (bk : Books) (tables : ℕ → List ℕ) → IsMeantState s v → AreRecordsOf s v (kept_of image bk) → AreOwned bk tables
    → Stores bk.count (kept_of image bk) c → Means s c v

-- THE LAW of moments
abbrev pub PairMomentsLaw : {D : Type 0} → Ghosts D → Type 0
PairMomentsLaw {D = D} disks = (s : Supply) (name fresh : Text) (v w : KernelState) (old mid new : D) (bk between : Books) (tables : ℕ → List ℕ)
    (entity version : ℕ) (stamp blob table : List ℕ) (entity2 version2 : ℕ) (stamp2 blob2 table2 : List ℕ)
    → disks.tells → AreTrue disks bk old → bk.shut ≡ false
    → MayCopy s name fresh v w (disks.reading old) bk tables entity version stamp blob table entity2 version2 stamp2 blob2 table2
    → CommitsFirst disks old mid bk between entity version stamp blob table
    → LeavesOnly disks old mid (StoresKeptOrMore (disks.reading old) bk entity version stamp blob table)
    → LeavesOnly disks mid new (StoresKeptOrMore (disks.reading mid) between entity2 version2 stamp2 blob2 table2)
    → LeavesOnly disks old new (MeansEither s v w)

-- WHAT THE SECOND COMMIT LEFT
pub record CommitsSecond {D : Type 0} (disks : Ghosts D) (mid new : D) (between third : Books) (entity version : ℕ) (stamp blob table : List ℕ) : Type 0 where
  pub committed : CommitsInFreeBlocks entity version stamp blob table (disks.reading new) between third
  pub same_used : SameUsed between (disks.reading mid) (disks.reading new)
  pub small : third.small ≡ (between.small && are_small version stamp)
  pub fits : are_small version stamp ≡ true
  pub epoch : between.place.epoch + 1 < last_number
  pub true_books : AreTrue disks third new
  pub working : third.shut ≡ false

-- THE LAW behind both: each image that a stop may leave then means the state with the copy
abbrev pub PairDoneLaw : {D : Type 0} → Ghosts D → Type 0
PairDoneLaw {D = D} disks = (s : Supply) (name fresh : Text) (v w : KernelState) (old mid new : D) (bk between third : Books) (tables : ℕ → List ℕ)
    (entity version : ℕ) (stamp blob table : List ℕ) (entity2 version2 : ℕ) (stamp2 blob2 table2 : List ℕ)
    → disks.tells → AreTrue disks bk old → bk.shut ≡ false
    → MayCopy s name fresh v w (disks.reading old) bk tables entity version stamp blob table entity2 version2 stamp2 blob2 table2
    → CommitsFirst disks old mid bk between entity version stamp blob table
    → CommitsSecond disks mid new between third entity2 version2 stamp2 blob2 table2
    → LeavesOnly disks mid new (StoresKeptOrMore (disks.reading mid) between entity2 version2 stamp2 blob2 table2)
    → (c : Image) → disks.may_leave new c → Means s c w
