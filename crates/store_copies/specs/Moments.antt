-- What a store keeps behind the first of the two commits of a copy, and what a stop leaves at each moment of both.
use Rattle.std.specs.Prelude.{◌≡◌, ◌⊎◌, ℕ, ◌≤◌, false, List, [], ◌∷◌, ◌++◌, Contains}
use Rattle.edge_disk.specs.declared.disk.Disk.{Ghosts}
use Rattle.edge_disk.specs.Image.{Image}
use Rattle.edge_disk.specs.Moments.{LeavesOnly}
use Rattle.store_told.specs.model_kernel.Choices.{IsGreatest, IsNarrow}
use Rattle.store_told.specs.model_kernel.State.{KernelState, Supply, Text}
use Rattle.store_told.specs.model_cut_laws.Agreeing.{nothing}
use Rattle.store_told.specs.model_cut_laws.Records.{commits_of}
use Rattle.store_told.specs.image_meaning.image_facts.Bodies.{blob_blocks}
use Rattle.store_told.specs.image_meaning.Meaning.{Means}
use Rattle.store_told.specs.image_meaning.Stores.{Kept, Stores, recs_of}
use Rattle.store_told.specs.store_books.Between.{OnlyPages}
use Rattle.store_told.specs.store_books.Books.{AreSmall, AreTrue, Books, IsNewKept, Logged, StoresMore, is_used, kept_for, kept_in, kept_of, recs_in}
use Rattle.store_told.specs.Told.{ArePagesApart}
use Rattle.model_copies.specs.Copies.{IsCopied}
use Rattle.store_copies.specs.Images.{AreRecordsOf, IsAtlasRecord, IsCopyRecord, IsMeantState}

-- THE LAW: where all records of the log are kept, and one more that stands behind them leaves the greatest choice as it was, all of them are kept, and
-- that one behind them
abbrev pub KeptAgainLaw : Type 0
KeptAgainLaw = (old new : Books) (l : Logged) (image : Image) (p : ℕ → ℕ) → (new.logged ≡ old.logged ++ l ∷ []) ⊎ (new.logged ≡ kept_in old ++ l ∷ [])
    → kept_in old ≡ old.logged → IsNarrow (commits_of (recs_in old)) → IsNarrow (commits_of (recs_in new))
    → IsGreatest nothing (commits_of (recs_in old)) p → IsGreatest nothing (commits_of (recs_of (kept_of image old ++ kept_for image l ∷ []))) p → p l.rec.entity ≤ l.rec.version
    → kept_in new ≡ kept_in old ++ l ∷ []

-- the image means the state of before, or the one with the copy
abbrev pub MeansEither : Supply → KernelState → KernelState → Image → Type 0
MeansEither s v w c = Means s c v ⊎ Means s c w

-- the blocks of its blob weren't in use
abbrev pub IsFreshIn : Books → Kept → Type 0
IsFreshIn b k = (n : ℕ) → Contains (blob_blocks k.rec) n → is_used b n ≡ false

-- WHAT IS KNOWN OF THE TWO COMMITS: with the pages written the store keeps the records of the state; whichever blocks its blob gets, the first record is the
-- atlas's; behind it the store keeps it too; and the second is the copy's
pub record AreTwoCommits (s : Supply) (name fresh : Text) (v w : KernelState) (fl mid : Image) (before between : Books) (entity : ℕ) (version : ℕ) (stamp blob table : List ℕ) (entity2 version2 : ℕ) (stamp2 blob2 table2 : List ℕ) : Type 0 where
  pub meant : IsMeantState s v
  pub copied : IsCopied name fresh v w
  pub records : AreRecordsOf s v (kept_of fl before)
  pub first : (a : Kept) → IsNewKept entity version stamp blob table fl a → IsFreshIn before a → IsAtlasRecord s w a × ArePagesApart before.count (kept_of fl before ++ a ∷ [])
  pub made : Kept
  pub made_is : IsAtlasRecord s w made × ArePagesApart before.count (kept_of fl before ++ made ∷ [])
  pub kept_then : kept_of mid between ≡ kept_of fl before ++ made ∷ []
  pub same_count : between.count ≡ before.count
  pub second : (b : Kept) → IsNewKept entity2 version2 stamp2 blob2 table2 mid b → IsFreshIn between b → IsCopyRecord s name fresh v w b × ArePagesApart before.count (kept_of fl before ++ made ∷ b ∷ [])

-- the image stores what the books keep, or that and a new record in blocks that weren't in use
abbrev pub StoresKeptOr : Books → ℕ → ℕ → List ℕ → List ℕ → List ℕ → Image → Image → Type 0
StoresKeptOr b entity version stamp blob table reading c = Stores b.count (kept_of reading b) c ⊎ ((m : StoresMore b.count (kept_of reading b) entity version stamp blob table reading c) × IsFreshIn b m.new)

-- THE LAW of moments: pages, first commit, second commit
abbrev pub CopyMomentsLaw : {D : Type 0} → Ghosts D → Type 0
CopyMomentsLaw {D = D} disks = (s : Supply) (name fresh : Text) (v w : KernelState) (old fl mid new : D) (bk before between : Books) (m n : ℕ)
    (entity version : ℕ) (stamp blob table : List ℕ) (entity2 version2 : ℕ) (stamp2 blob2 table2 : List ℕ)
    → disks.tells → AreTrue disks bk old → AreSmall bk → bk.shut ≡ false → OnlyPages disks old fl bk before m n
    → AreTwoCommits s name fresh v w (disks.reading fl) (disks.reading mid) before between entity version stamp blob table entity2 version2 stamp2 blob2 table2
    → LeavesOnly disks fl mid (StoresKeptOr before entity version stamp blob table (disks.reading fl))
    → LeavesOnly disks mid new (StoresKeptOr between entity2 version2 stamp2 blob2 table2 (disks.reading mid))
    → LeavesOnly disks old new (MeansEither s v w)
