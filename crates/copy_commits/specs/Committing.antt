-- The records of a copy's two cells.
use Rattle.std.specs.Prelude.{◌≡◌, ◌≢◌, ℕ, ◌+◌, ◌<◌, ◌^◌, true, List, length, slice_index}
use Rattle.edge_disk.specs.Image.{Image}
use Rattle.kernel_invariant.specs.model_kernel.State.{KernelState, Supply, Text}
use Rattle.store_copies.specs.Images.{AreRecordsOf, IsMeantState}
use Rattle.store_copies.specs.model_copies.Copies.{IsCopied}
use Rattle.store_copies.specs.model_copies.Needing.{LeavesCopy}
use Rattle.kernel_records.specs.cell_states.declared.cells.Cell.{Cell}
use Rattle.kernel_records.specs.cell_states.Cells.{HasCell}
use Rattle.kernel_records.specs.kernel_block_laws.image_facts.Layout.{last_number, slot_count}
use Rattle.kernel_records.specs.kernel_record_facts.Cells.{IsCleanIn, IsSettled, table_of, words_on}
use Rattle.kernel_records.specs.store_books.Books.{AreSmall, Books, kept_in, kept_of}
use Rattle.kernel_records.specs.store_books.Owning.{AreOwned}
use Rattle.kernel_records.specs.store_facts.Putting.{are_small}
use Rattle.kernel_records.specs.store_facts.State.{HoldsPoolBlocks}
use Rattle.kernel_records.specs.Committing.{MayCommit}

-- A RECORD OF EACH MAY BE MADE, the one behind the other: they are of two entities, the log has all of its records kept, and room for both
pub record MayCommitPair (b : Books) (a n : Cell) : Type 0 where
  pub first : MayCommit b a
  pub second : MayCommit b n
  pub apart : a.clock.entity ≢ n.clock.entity
  pub all_kept : kept_in b ≡ b.logged
  pub room : length (kept_in b) + 1 < slot_count
  pub epoch : b.place.epoch + 1 < 2 ^ 63

-- the state has the cell, none of whose pages is changed; its working table is that of its entity, and no number is too large
pub record StandsReady (s : Supply) (w : KernelState) (image : Image) (tables : ℕ → List ℕ) (c : Cell) : Type 0 where
  pub has : HasCell s (words_on image) w c
  pub clean : IsCleanIn s (words_on image) c.part
  pub settled : IsSettled c.part
  pub table : (p : ℕ) → slice_index (table_of c.part) p ≡ slice_index (tables c.clock.entity) p
  pub fits : are_small c.clock.version c.clock.stamp.0 ≡ true

-- THEY ARE THE ATLAS'S AND THE COPY'S: the store keeps the records of the one state, all of its log, and the state with the copy has both cells. No
-- number is too large, also behind two turns.
pub record AreCopyCells (s : Supply) (name fresh : Text) (v w : KernelState) (image : Image) (b : Books) (tables : ℕ → List ℕ) (a n : Cell) : Type 0 where
  pub meant : IsMeantState s v
  pub copied : IsCopied name fresh v w
  pub records : AreRecordsOf s v (kept_of image b)
  pub owned : AreOwned b tables
  pub pool : HoldsPoolBlocks b
  pub small : AreSmall b
  pub epoch : b.place.epoch + 2 < last_number
  pub is_atlas : a.clock.entity ≡ 0
  pub leaves : LeavesCopy name fresh v w
  pub is_copy : n.clock.entity ≡ leaves.number
  pub atlas : StandsReady s w image tables a
  pub copy : StandsReady s w image tables n
