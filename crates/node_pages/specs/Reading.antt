-- What is read of a record: its pages in their order, and what the reads do to the store.
use Rattle.std.specs.Prelude.{◌≡◌, ◌≤◌, ℕ, zero, suc, ◌==◌, true, false, if◌then◌else◌, List, [], ◌∷◌, ◌++◌, Option, Some, None, Result, IsErrOf, OnOk, slice_index}
use Rattle.edge_disk.specs.Counts.{Rose}
use Rattle.edge_disk.specs.declared.disk.Disk.{Ghosts as Disks}
use Rattle.base_types.specs.declared.records.Rec.{Rec}
use Rattle.page_store.specs.Pages.{SameBlocks, SameWords}
use Rattle.page_store.specs.declared.store.PageStore.{Ghosts}
use Rattle.kernel_record_facts.specs.Cells.{words_on}
use Rattle.page_placing.specs.declared.writing.PageWords.{PageWords}
use Rattle.node_pages.specs.declared.faults.ShipFault.{ShipFault}
use Rattle.node_pages.specs.declared.faults.ShipFault.TheVariants as ship
use Rattle.store_snapshots.specs.Paging.{GoesByPages}
use Rattle.store_snapshots.specs.store_facts.State.{State, books}

-- THE LAST RECORD of an entity in a log, o where there is none
abbrev pub last_from : Option Rec → List Rec → ℕ → Option Rec
last_from o [] x = o
last_from o (r ∷ rs) x = last_from (if r.entity == x then Some r else o) rs x

abbrev pub last_rec : List Rec → ℕ → Option Rec
last_rec rs x = last_from None rs x

-- a page that has a block, with its words
abbrev pub page_in : (ℕ → List ℕ) → ℕ → ℕ → List PageWords
page_in words page block = if block == 0 then [] else record { page = page; words = words block } ∷ []

-- THE PAGES of a table that have a block, ascending, of its first so many places
unfoldable pub pages_to : (ℕ → List ℕ) → List ℕ → ℕ → List PageWords
pages_to words table zero = []
pages_to words table (suc n) = pages_to words table n ++ page_in words n (slice_index table n)

-- READS of pages that kept records name, of a store that worked: nothing else is done. A read that fails shuts the store.
pub record HasReadPages {B T : Type 0} (stores : Ghosts B) (old new : B) (result : Result T ShipFault) : Type 0 where
  pub between : stores.Pages old new
  pub same_blocks : SameBlocks stores.held stores.free old new
  pub same_kept : stores.kept_names new ≡ stores.kept_names old
  pub same_written : stores.written new ≡ stores.written old
  pub same_words : stores.tells → SameWords stores.held stores.kept_names stores.words (λ n. ⊥) old new
  pub later : stores.faults old ≤ stores.faults new
  pub ok : OnOk result (stores.is_shut new ≡ false)
  pub failed : IsErrOf result ship.ReadFault → Rose (stores.faults old) (stores.faults new) × (stores.is_shut new ≡ true)
  pub memory : IsErrOf result ship.Memory → stores.is_shut new ≡ false
  pub not_shut : IsErrOf result ship.Shut → ⊥

module _ {D : Type 0} (disks : Disks D) where
  -- ONLY READS were made of a store: its books are the same but for a failure, and the blocks that are held have the same words
  pub record GoesByReads (old new : State D) : Type 0 where
    pub pages : GoesByPages disks old new
    pub same_held : (books new).held ≡ (books old).held
    pub same_begun : (books new).begun ≡ (books old).begun
    pub same_words : disks.tells → (n : ℕ) → (books old).held n ≡ true → words_on (disks.reading new.disk) n ≡ words_on (disks.reading old.disk) n

  -- and what they answer: a read that fails shuts the store
  pub record AnswersReads {T : Type 0} (old new : State D) (result : Result T ShipFault) : Type 0 where
    pub goes : GoesByReads old new
    pub ok : OnOk result ((books new).shut ≡ false)
    pub failed : IsErrOf result ship.ReadFault → Rose (disks.faults old.disk) (disks.faults new.disk) × ((books new).shut ≡ true)
    pub memory : IsErrOf result ship.Memory → (books new).shut ≡ false
    pub not_shut : IsErrOf result ship.Shut → ⊥
