-- When an image has too few blocks for its kernel, what was due then, and that they were too few for it.
use Rattle.std.specs.Prelude.{◌≡◌, ◌<◌, ℕ, List, ◌∷◌, ◌++◌}
use Rattle.edge_disk.specs.declared.disk.Disk.{Ghosts}
use Rattle.edge_disk.specs.declared.disk.NoBlocks.{NoBlocks}
use Rattle.base_types.specs.declared.histories.Entry.{Entry}
use Rattle.base_types.specs.declared.histories.Event.{Event}
use Rattle.base_types.specs.declared.histories.Event.TheVariants.{Snap, Stable, Step}
use Rattle.table_steps.specs.cell_looks.Looking.{IsWordStep}
use Rattle.model_serial_turns.specs.model_serial.Serial.{serial_history}
use Rattle.kernel_book_laws.specs.store_facts.State.{books}
use Rattle.kernel_book_laws.specs.kernel_invariant.Beginnings.{Beginning, state_after}
use Rattle.kernel_book_laws.specs.kernel_block_laws.Room.{enough_blocks}
use Rattle.kernel_commit_facts.specs.Parts.{Parts}
use Rattle.kernel_commit_facts.specs.Short.{AreWithin, IsShortFor}

-- THE IMAGE LACKS BLOCKS: it has fewer than the pages and the born entities of the state may need
abbrev pub LacksBlocks : {D : Type 0} → Beginning → Parts D → Type 0
LacksBlocks b p = (books p.store).count < enough_blocks (state_after b p.noted.entries)

-- an entry behind this history that may want blocks: a record, or a step that reads or writes a word, for which a page may have to come in
abbrev pub MayWant : Beginning → List Entry → Entry → Event → Type 0
MayWant b es e Snap = Unit {0}
MayWant b es e Stable = Unit {0}
MayWant b es e Step = IsWordStep (state_after b es) e
MayWant b es e event = ⊥

-- WHAT WAS DUE in a piece: behind the old history `all` was to come in the run, a front of it came, and the next entry may want blocks
pub record IsDueIn (b : Beginning) (all old new : List Entry) : Type 0 where
  pub made : List Entry
  pub entries : new ≡ old ++ made
  pub next : Entry
  pub rest : List Entry
  pub is : made ++ next ∷ rest ≡ all
  pub wants : MayWant b new next next.event

-- WHAT WAS DUE in the run: the history is a front of the serial one, and the next entry may want blocks
pub record IsDue (b : Beginning) (es : List Entry) : Type 0 where
  pub rounds_made : ℕ
  pub next : Entry
  pub rest : List Entry
  pub is : es ++ next ∷ rest ≡ serial_history b.supply b.policy b.script b.state rounds_made
  pub wants : MayWant b es next next.event

module _ {D : Type 0} (disks : Ghosts D) (b : Beginning) (n : NoBlocks) where
  -- A PIECE LACKS BLOCKS: the image does, behind the front of it that came, and the next entry may want some and is short of them. Both numbers
  pub record LacksIn (all old : List Entry) (new : Parts D) : Type 0 where
    pub lacks : LacksBlocks b new
    pub due : IsDueIn b all old new.noted.entries
    pub short : IsShortFor disks new n due.next due.next.event
    pub within : AreWithin (state_after b new.noted.entries) (books new.store).count n

  -- THE RUN IS SHORT of blocks, for the next entry of the serial history. Both numbers
  pub record IsShortAt (p : Parts D) : Type 0 where
    pub lacks : LacksBlocks b p
    pub due : IsDue b p.noted.entries
    pub short : IsShortFor disks p n due.next due.next.event
    pub within : AreWithin (state_after b p.noted.entries) (books p.store).count n
