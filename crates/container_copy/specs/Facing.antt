-- The three cells of a copy, and the store that they are in.
use Rattle.std.specs.Prelude.{◌≡◌, ℕ, ◌+◌, ◌<◌, ◌≤◌, ◌^◌, false, All, List, length, Some, slice_index}
use Rattle.edge_disk.specs.Image.{Image}
use Rattle.base_types.specs.declared.records.Rec.{Rec}
use Rattle.data_atlas.specs.data_atlas_facts.Directory.{Directory}
use Rattle.cell_copies.specs.Copying.{MayCopyCells}
use Rattle.cell_copies.specs.cell_births.act_alone.declared.loci.Head.{Head}
use Rattle.cell_copies.specs.cell_births.act_calls.Calls.{atlas_state}
use Rattle.cell_copies.specs.cell_births.cell_newborns.Bearing.{IsUnbornContainer}
use Rattle.cell_copies.specs.cell_births.cell_states.declared.cells.Cell.{Cell}
use Rattle.cell_copies.specs.cell_births.cell_states.declared.cells.Part.TheVariants as part
use Rattle.cell_copies.specs.cell_births.cell_states.Cells.{HasCell}
use Rattle.cell_copies.specs.model_copies.model_kernel.Scripts.{container_named}
use Rattle.cell_copies.specs.model_copies.model_kernel.State.{KernelState, Supply, Text}
use Rattle.cell_copies.specs.model_copies.model_sound_states.States.{IsSoundState}
use Rattle.store_copies.specs.Images.{AreRecordsOf, IsMeantState}
use Rattle.kernel_record_facts.specs.Cells.{IsSoundIn, words_on}
use Rattle.copy_commits.specs.kernel_records.kernel_block_laws.image_facts.Layout.{slot_count}
use Rattle.copy_commits.specs.kernel_records.store_books.Books.{AreSmall, Books, kept_in, kept_of, recs_in}
use Rattle.copy_commits.specs.kernel_records.store_books.Owning.{AreOwned}

-- THE CELLS OF A COPY, whatever the disk tells: the atlas's, a born container's, and the newborn's, of a sound state whatever the blocks hold. The
-- container's blocks are held. The log keeps all of its records, of which none is above the atlas's version and none the newborn's, and has room for two.
pub record FacesCopy (b : Books) (fresh : Text) (a src n : Cell) : Type 0 where
  pub directory : Directory
  pub head : Head
  pub from : List ℕ
  pub is_atlas : a.part ≡ part.Atlas directory
  pub may : MayCopyCells directory head from src n.clock.entity fresh
  pub name : Text
  pub named : container_named (atlas_state directory) name ≡ Some src.clock.entity
  pub unborn : IsUnbornContainer n.part
  pub zero_at : a.clock.entity ≡ 0
  pub low : n.clock.entity ≤ 40
  pub few : (a.clock.version < 2 ^ 63) × (n.clock.version < 2 ^ 63)
  pub held : IsSoundIn b.held src.part
  pub own_pages : may.source_is.memory.pages ≡ head.pages
  pub sound : (s : Supply) (words : ℕ → List ℕ) → (v : KernelState) × IsSoundState s v × HasCell s words v a × HasCell s words v src × HasCell s words v n
  pub older : All (λ (r : Rec). r.entity ≡ 0 → r.version ≤ a.clock.version) (recs_in b)
  pub none : All (λ (r : Rec). r.entity ≡ n.clock.entity → r.version ≤ 0) (recs_in b)
  pub all_kept : kept_in b ≡ b.logged
  pub read : b.found ≡ false
  pub room : length (kept_in b) + 1 < slot_count
  pub epoch : b.place.epoch + 1 < 2 ^ 63

-- THE STATE OF BEFORE: the store keeps its records, and it has the three cells; no number is too large. The atlas and the newborn have no working table.
pub record StandsBefore (s : Supply) (v : KernelState) (image : Image) (b : Books) (tables : ℕ → List ℕ) (a src n : Cell) : Type 0 where
  pub meant : IsMeantState s v
  pub records : AreRecordsOf s v (kept_of image b)
  pub owned : AreOwned b tables
  pub small : AreSmall b
  pub epoch : b.place.epoch ≤ 2 ^ 61 + 65
  pub versions : (x : ℕ) → (v x).version ≤ 2 ^ 61
  pub no_atlas : (p : ℕ) → slice_index (tables 0) p ≡ 0
  pub unset : (p : ℕ) → slice_index (tables n.clock.entity) p ≡ 0
  pub has_atlas : HasCell s (words_on image) v a
  pub has_source : HasCell s (words_on image) v src
  pub has_newborn : HasCell s (words_on image) v n
