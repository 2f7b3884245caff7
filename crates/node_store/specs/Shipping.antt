-- What is shipped, for a standby's store.
use Rattle.std.specs.Prelude.{◌≡◌, ◌≢◌, ◌⊎◌, ℕ, ◌+◌, ◌^◌, ◌<◌, ◌≤◌, ◌&&◌, All, true, false, List, [], ◌∷◌, ◌++◌, length, Some, slice_get, slice_index}
use Rattle.edge_disk.specs.Image.{Image, block_at}
use Rattle.edge_disk.specs.declared.disk.NoBlocks.{NoBlocks}
use Rattle.base_types.specs.declared.histories.Entry.{Entry}
use Rattle.node_commits.specs.kernel_invariant.model_kernel.Choices.{Commit}
use Rattle.node_commits.specs.kernel_invariant.Beginnings.{Beginning}
use Rattle.store_snapshots.specs.store_facts.image_facts.Layout.{last_number}
use Rattle.store_snapshots.specs.store_facts.Putting.{are_small}
use Rattle.store_snapshots.specs.store_books.Books.{AreSmall, Books, Logged, free_in, kept_in, words_of_bytes}
use Rattle.page_placing.specs.declared.writing.PageWords.{PageWords}
use Rattle.node_commits.specs.Deliveries.{IsShipped, KeepsCommits}

-- the pages stand in blocks of this table, each in one of its own
pub record HaveBlocks (pages : List PageWords) (table : List ℕ) (image : Image) : Type 0 where
  pub each : (k : ℕ) (q : PageWords) → slice_get pages k ≡ Some q → slice_index table q.page ≢ 0
  pub none : (p : ℕ) → slice_index table p ≢ 0 → (k : ℕ) × (q : PageWords) × (slice_get pages k ≡ Some q) × (q.page ≡ p)
  pub apart : (p q : ℕ) → slice_index table p ≢ 0 → slice_index table p ≡ slice_index table q → p ≡ q
  pub words : (k : ℕ) (q : PageWords) → slice_get pages k ≡ Some q → words_of_bytes (block_at image (slice_index table q.page)) ≡ q.words

-- IT IS A RECORD OF THE RUN, with this commit, whichever blocks its pages get
abbrev pub IsShipment : Beginning → List Entry → ℕ → ℕ → List ℕ → (List ℕ → List ℕ) → List PageWords → Commit → Type 0
IsShipment b es entity version stamp bytes pages c = (image : Image) (table : List ℕ) → length table ≡ 256 → All (λ n. n < 2 ^ 32) table
    → HaveBlocks pages table image → IsShipped b es entity version stamp (bytes table) table image c

-- the store keeps these commits of the run, holds no block, and this is a record of it; no number is too large, also behind a turn
pub record MayDeliver (b : Beginning) (es : List Entry) (cs : List Commit) (c : Commit) (image : Image) (bk : Books) (entity version : ℕ) (stamp : List ℕ) (bytes : List ℕ → List ℕ) (pages : List PageWords) : Type 0 where
  pub keeps : KeepsCommits b es cs image bk (λ x. [])
  pub ships : IsShipment b es entity version stamp bytes pages c
  pub small : AreSmall bk
  pub fits : are_small version stamp ≡ true
  pub epoch : bk.place.epoch + 1 < last_number

-- fewer blocks are free in a store that works; both numbers
pub record IsShort (b : Books) (need : ℕ) (n : NoBlocks) : Type 0 where
  pub working : b.shut ≡ false
  pub fewer : free_in b < need
  pub numbers : n ≡ record { need = need; free = free_in b }

-- WHAT IS IN MEMORY BEHIND A DELIVERY, whatever the disk tells: the log has one record more, and no block is held that wasn't before
pub record TakesRecord (entity version : ℕ) (stamp : List ℕ) (old new : Books) : Type 0 where
  pub logged : Logged
  pub entity_is : logged.rec.entity ≡ entity
  pub version_is : logged.rec.version ≡ version
  pub stamp_is : logged.rec.stamp ≡ stamp
  pub log : (new.logged ≡ old.logged ++ logged ∷ []) ⊎ (new.logged ≡ kept_in old ++ logged ∷ [])
  pub working : new.shut ≡ false
  pub read : new.found ≡ false
  pub none_held : ((n : ℕ) → old.held n ≡ false) → (n : ℕ) → new.held n ≡ false
  pub small : new.small ≡ (old.small && are_small version stamp)
  pub epoch : new.place.epoch ≤ old.place.epoch + 1
