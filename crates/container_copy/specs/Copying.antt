-- What copying a container in an image leaves.
use Rattle.std.specs.Prelude.{◌≡◌, ℕ, ◌+◌, ◌≤◌, ◌^◌, List, Some, None, codes, length, string_bytes}
use Rattle.edge_disk.specs.Image.{Image}
use Rattle.data_atlas.specs.data_atlas_facts.Directory.{Directory}
use Rattle.cell_copies.specs.Refusals.{copy_refusal}
use Rattle.cell_copies.specs.cell_births.act_calls.Calls.{atlas_state}
use Rattle.cell_copies.specs.model_copies.model_kernel.Scripts.{container_named}
use Rattle.open_image.specs.table_laws.Steps.{HasDirectory}
use Rattle.cell_copies.specs.cell_births.cell_states.declared.cells.Cell.{Cell}
use Rattle.cell_copies.specs.model_copies.model_kernel.State.{AtlasState, KernelState, Supply, Text}
use Rattle.script_types.specs.declared.refusals.Refusal.{Refusal}
use Rattle.script_types.specs.declared.refusals.Why.{Why}
use Rattle.script_types.specs.declared.refusals.Why.TheVariants as script
use Rattle.store_copies.specs.Images.{AreRecordsOf, IsMeantState}
use Rattle.kernel_record_facts.specs.Cells.{words_on}
use Rattle.open_image.specs.open_facts.Images.{HasLowEpoch}
use Rattle.open_image.specs.store_books.Books.{AreSmall, Books, kept_of}
use Rattle.open_image.specs.store_books.Owning.{AreOwned}
use Rattle.open_image.specs.table_laws.Tables.{state_in, tables_in}

-- no number of the image is too large for a copy: its epoch, and each version that it means
pub record AreLowNumbers (image : Image) (v : KernelState) : Type 0 where
  pub epoch : HasLowEpoch image
  pub versions : (x : ℕ) → (v x).version ≤ 2 ^ 61

-- THE CELLS AND THE STORE ARE THE STATE: the store keeps its records, each block with one owner, and no number is too large
pub record StandsTable (s : Supply) (v : KernelState) (image : Image) (b : Books) (cs : List Cell) : Type 0 where
  pub state : state_in s (words_on image) cs ≡ v
  pub meant : IsMeantState s v
  pub records : AreRecordsOf s v (kept_of image b)
  pub owned : AreOwned b (tables_in cs)
  pub small : AreSmall b
  pub epoch : b.place.epoch ≤ 2 ^ 61 + 65
  pub versions : (x : ℕ) → (v x).version ≤ 2 ^ 61

-- in the directory the one name is a container's with this number, none of the three refusals holds, and the other number is the lowest free one
pub record IsChosenPair (d : Directory) (name fresh : Text) (source newborn : ℕ) : Type 0 where
  pub none : copy_refusal (atlas_state d) name fresh ≡ None
  pub named : container_named (atlas_state d) name ≡ Some source
  pub number : newborn ≡ length d.containers + 1

-- and it is that of the cells
pub record MayCopyAt (cs : List Cell) (d : Directory) (name fresh : Text) (source newborn : ℕ) : Type 0 where
  pub directory : HasDirectory cs d
  pub chosen : IsChosenPair d name fresh source newborn

-- REFUSALS: the key is the name of which none is a container's, the new name, or `container`
abbrev pub copy_key : Why → Text → Text → Text
copy_key script.Unknown name fresh = name
copy_key script.Name name fresh = fresh
copy_key script.NoRoom name fresh = codes "container"
copy_key script.NotToml name fresh = codes "container"
copy_key script.Missing name fresh = codes "container"
copy_key script.Kind name fresh = codes "container"
copy_key script.Range name fresh = codes "container"
copy_key script.TooMany name fresh = codes "container"
copy_key script.BadCode name fresh = codes "container"
copy_key script.Long name fresh = codes "container"
copy_key script.Clash name fresh = codes "container"

-- the first of the three that holds in this atlas
pub record IsCopyRefusal (a : AtlasState) (name fresh : Text) (r : Refusal) : Type 0 where
  pub why_is : copy_refusal a name fresh ≡ Some r.why
  pub key_is : string_bytes r.key ≡ copy_key r.why name fresh
