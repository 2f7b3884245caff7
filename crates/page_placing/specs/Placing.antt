-- Blocks that were free have a table's pages.
use Rattle.std.specs.Prelude.{◌≡◌, ◌≢◌, ◌⊎◌, ℕ, ◌+◌, ◌<◌, ◌≤◌, false, true, List, Result, OnErr, OnOk, length, slice_index, slice_set}
use Rattle.edge_disk.specs.Counts.{Rose}
use Rattle.page_store.specs.declared.faults.PageFault.{PageFault}
use Rattle.page_store.specs.declared.store.PageStore.{Ghosts}
use Rattle.page_store.specs.Pages.{SameWords}
use Rattle.page_store.specs.model_kernel.Words.{put}

-- One page is put into a block that was free. All other blocks that are held or named stay, with their words.
pub record PlacesOne {B : Type 0} (stores : Ghosts B) (page : ℕ) (words table table' : List ℕ) (old new : B) : Type 0 where
  pub block : ℕ
  pub some : block ≢ 0
  pub within : page < length table
  pub is_set : table' ≡ slice_set table page block
  pub was_free : stores.held old block ≡ false
  pub not_kept : stores.kept_names old block ≡ false
  pub is_held : stores.held new ≡ put (stores.held old) block true
  pub same_kept : stores.kept_names new ≡ stores.kept_names old
  pub words_are : stores.tells → stores.words new block ≡ words
  pub same_words : stores.tells → SameWords stores.held stores.kept_names stores.words (λ n. ⊥) old new
  pub free_is : stores.free new + 1 ≡ stores.free old

-- So many blocks that were free are the table's, which had none. All other blocks that are held or named stay, with their words.
pub record TakesBlocks {B : Type 0} (stores : Ghosts B) (many : ℕ) (table : List ℕ) (old new : B) : Type 0 where
  pub fresh : (p : ℕ) → slice_index table p ≢ 0 → (stores.held old (slice_index table p) ≡ false) × (stores.kept_names old (slice_index table p) ≡ false)
  pub now_held : (p : ℕ) → slice_index table p ≢ 0 → stores.held new (slice_index table p) ≡ true
  pub apart : (p q : ℕ) → slice_index table p ≢ 0 → slice_index table p ≡ slice_index table q → p ≡ q
  pub others : (n : ℕ) → stores.held new n ≡ true → (stores.held old n ≡ true) ⊎ ((p : ℕ) × (n ≢ 0) × (slice_index table p ≡ n))
  pub stays : (n : ℕ) → stores.held old n ≡ true → stores.held new n ≡ true
  pub same_kept : stores.kept_names new ≡ stores.kept_names old
  pub same_words : stores.tells → SameWords stores.held stores.kept_names stores.words (λ n. ⊥) old new
  pub free_is : stores.free new + many ≡ stores.free old

-- Only calls of the store were made. The count of faults doesn't fall, and kept records name the same blocks; a call that succeeds doesn't
-- shut the store, and one that fails over an open store does, where the count rose.
pub record GoesOn {B T : Type 0} (stores : Ghosts B) (old new : B) (result : Result T PageFault) : Type 0 where
  pub between : stores.Pages old new
  pub later : stores.faults old ≤ stores.faults new
  pub kept : stores.kept_names new ≡ stores.kept_names old
  pub same_shut : OnOk result (stores.is_shut new ≡ stores.is_shut old)
  pub failed : OnErr result (stores.is_shut old ≡ false → Rose (stores.faults old) (stores.faults new) × (stores.is_shut new ≡ true))
