-- What a standby's store keeps of another kernel's run, and what a stop leaves while one commit more is delivered.
use Rattle.std.specs.Prelude.{◌≡◌, ◌⊎◌, ℕ, ◌≤◌, ◌==◌, if◌then◌else◌, Bool, false, List, [], ◌∷◌, ◌++◌, length, slice_index}
use Rattle.edge_disk.specs.Image.{Image}
use Rattle.edge_disk.specs.Moments.{LeavesOnly}
use Rattle.base_types.specs.declared.histories.Entry.{Entry}
use Rattle.base_types.specs.declared.records.Rec.{Rec}
use Rattle.kernel_block_laws.specs.kernel_invariant.model_kernel.Choices.{Commit, IsGreatest}
use Rattle.kernel_block_laws.specs.kernel_invariant.model_kernel.State.{KernelState}
use Rattle.kernel_block_laws.specs.kernel_invariant.model_cut_laws.Agreeing.{nothing}
use Rattle.kernel_block_laws.specs.kernel_invariant.model_cut_laws.Records.{commit_of, commits_of}
use Rattle.kernel_block_laws.specs.kernel_invariant.image_blocks.Logs.{HasRecords}
use Rattle.kernel_block_laws.specs.kernel_invariant.image_facts.Logs.{AreFitting}
use Rattle.kernel_block_laws.specs.kernel_invariant.image_meaning.Meaning.{Means}
use Rattle.kernel_block_laws.specs.kernel_invariant.Left.{IsCutState}
use Rattle.kernel_block_laws.specs.kernel_invariant.image_meaning.Describing.{HasPage}
use Rattle.kernel_block_laws.specs.kernel_invariant.image_meaning.Stores.{Kept}
use Rattle.kernel_block_laws.specs.kernel_invariant.store_books.Between.{OnlyPages}
use Rattle.kernel_block_laws.specs.kernel_invariant.store_books.Books.{AreSmall, AreTrue, Books, IsNewKept, Logged, kept_for, kept_in, kept_of, recs_in}
use Rattle.kernel_block_laws.specs.kernel_invariant.store_books.Owning.{AreOwned, NamesPage}
use Rattle.kernel_block_laws.specs.kernel_invariant.Beginnings.{Beginning, BeginsRight, IsLegal, completed, first_commits}
use Rattle.kernel_block_laws.specs.kernel_invariant.Records.{AreKeptRecords, IsKeptRecord, StoresCommits}
use Rattle.kernel_block_laws.specs.Owning.{PutsRecord}
use Rattle.store_facts.specs.Committed.{StoresKeptOrMore}
use Rattle.store_facts.specs.State.{HoldsPoolBlocks}

-- one entity has this page table, and no other has any
abbrev pub one_table : ℕ → List ℕ → ℕ → List ℕ
one_table entity table x = if x == entity then table else []

-- THE STORE KEEPS THESE COMMITS of the run: records of them from their cut on, each block with one owner, where these working tables hold blocks
pub record KeepsCommits (b : Beginning) (es : List Entry) (cs : List Commit) (image : Image) (bk : Books) (tables : ℕ → List ℕ) : Type 0 where
  pub records : AreKeptRecords b es cs (kept_of image bk)
  pub owned : AreOwned bk tables
  pub pool : HoldsPoolBlocks bk

-- what is delivered is a record of the run: whichever blocks its blob gets, the record tells what its entity was, its pages are those of the table,
-- and this is its commit
pub record IsShipped (b : Beginning) (es : List Entry) (entity version : ℕ) (stamp blob table : List ℕ) (image : Image) (c : Commit) : Type 0 where
  pub told : (k : Kept) → IsNewKept entity version stamp blob table image k → IsKeptRecord b es k
  pub pages : (k : Kept) (n : ℕ) → IsNewKept entity version stamp blob table image k → HasPage k.pages n → NamesPage table n
  pub commit : (k : Kept) → IsNewKept entity version stamp blob table image k → commit_of k.rec ≡ c

-- the image stores these commits of the run, or these and one more
abbrev pub StoresOneMore : Beginning → List Entry → ℕ → List Commit → Commit → Image → Type 0
StoresOneMore b es count cs c image = StoresCommits b es count cs image ⊎ StoresCommits b es count (cs ++ c ∷ []) image

-- BEHIND A COMMIT: the books have the record, nobody holds a block any more, and what was in use reads the same
pub record HasDelivered (b : Beginning) (es : List Entry) (c : Commit) (count : ℕ) (image : Image) (fl new given : Books) (table : List ℕ) (l : Logged) : Type 0 where
  pub puts : PutsRecord fl new (one_table l.rec.entity table) l
  pub told : IsKeptRecord b es (kept_for image l)
  pub commit : commit_of l.rec ≡ c
  pub fit_before : AreFitting count (recs_in fl)
  pub fit_after : AreFitting count (recs_in new)
  pub given_logged : given.logged ≡ new.logged
  pub given_count : given.count ≡ new.count
  pub none_held : (n : ℕ) → given.held n ≡ false

-- WHAT AN IMAGE OF A STANDBY MEANS: its log is good, and has the greatest closed choice of the first k commits; and where these hold those of the
-- opened image, it means the state after the part that they make
pub record IsStandbyImage (b : Beginning) (es : List Entry) (k : ℕ) (at : Image) : Type 0 where
  pub recs : List Rec
  pub has : HasRecords recs at
  pub cut : ℕ → ℕ
  pub of_log : IsGreatest nothing (commits_of recs) cut
  pub of_commits : IsGreatest nothing (first_commits b es k) cut
  pub means : BeginsRight b → IsLegal b es → length (completed b []) ≤ k → (v : KernelState) × Means b.supply at v × IsCutState b.supply b.script b.state es (first_commits b es k) v
