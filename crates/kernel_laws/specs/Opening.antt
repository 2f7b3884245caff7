-- A kernel as an opened image makes it.
use Rattle.std.specs.Prelude.{◌≡◌, ℕ, ◌+◌, ◌-◌, ◌<◌, ◌≤◌, ◌^◌, false, List, [], ◌∷◌, Contains, Option, Some, None, slice_index}
use Rattle.std.specs.List.{flat_map}
use Rattle.edge_disk.specs.declared.disk.Disk.{Ghosts}
use Rattle.edge_disk.specs.Image.{Image}
use Rattle.base_types.specs.Edges.{upto}
use Rattle.base_types.specs.declared.records.Rec.{Rec}
use Rattle.image_state_laws.specs.model_kernel.Histories.{births_owed, start_run}
use Rattle.image_state_laws.specs.model_kernel.Scripts.{Script}
use Rattle.image_state_laws.specs.image_meaning.Meaning.{Accepted, Means}
use Rattle.image_state_laws.specs.image_meaning.Parts.{Part, chosen, table_in}
use Rattle.kernel_invariant.specs.store_books.Books.{Books, Logged, kept_in, logged_recs}
use Rattle.kernel_invariant.specs.Beginnings.{Beginning}
use Rattle.kernel_invariant.specs.Live.{HoldsCommits, KernelView}

abbrev pub rec_list : Option Rec → List Rec
rec_list None = []
rec_list (Some r) = r ∷ []

-- the chosen records, ascending by entity
abbrev pub chosen_recs : List Rec → List Rec
chosen_recs recs = flat_map (λ x. rec_list (chosen recs x)) (upto 64)

-- the kept records of a store are the chosen ones of an accepted image, each with the page table that its blob spells
pub record KeepsChosen (image : Image) (a : Accepted image) (b : Books) : Type 0 where
  pub recs : logged_recs (kept_in b) ≡ chosen_recs a.recs
  pub tables : (l : Logged) (part : Part) → Contains (kept_in b) l → a.parts l.rec.entity ≡ Some part → (page : ℕ) → slice_index l.table page ≡ slice_index (table_in part) page

-- THE START: nothing was done yet. The cells are the opened state, each newest record is the chosen one, and no wish is open; the store
-- holds the chosen records, and each image since the first moment means the opened state.
pub record StandsAtStart {D : Type 0} (b : Beginning) (disks : Ghosts D) (k : KernelView) (disk : D) : Type 0 where
  pub history : k.history ≡ []
  pub marks : k.marks ≡ []
  pub stop : k.stop ≡ None
  pub state : k.state ≡ b.state
  pub newest : (x : ℕ) → k.newest x ≡ (b.state x).version
  pub by_step : (x : ℕ) → k.by_step x ≡ false
  pub asked : (x : ℕ) → k.asked x ≡ false
  pub left : (x : ℕ) → k.left x ≡ b.script.steps
  pub stored : disks.tells → HoldsCommits b disks k disk
  pub few : k.books.begun ≤ 1600
  pub time : disks.clock disk < 2 ^ 64 - 1 → disks.clock disk ≡ b.since + k.books.begun
  pub later : b.first ≤ disks.clock disk
  pub moments : disks.tells → (t : ℕ) (c : Image) → b.first ≤ t → disks.left_since disk t c → Means b.supply c b.state

-- the script names nobody who is to be born
abbrev pub HasNoBirths : Beginning → Type 0
HasNoBirths b = births_owed b.script (start_run b.state) ≡ false

abbrev pub with_script : Beginning → Script → Beginning
with_script b script = record b { script = script }

-- the script until births are made: nobody to be born, and so many steps of each locus
abbrev pub empty_script : ℕ → Script
empty_script steps = record { steps = steps; order = []; containers = []; loci = [] }
