-- What wishes rest on.
use Rattle.std.specs.Prelude.{◌≡◌, ℕ, ◌<◌, ◌≤◌, Bool, true, false, not, ◌&&◌, ◌||◌}
use Rattle.cell_states.specs.base_types.declared.histories.Event.{Event}
use Rattle.cell_states.specs.base_types.declared.histories.Event.TheVariants.{Birth, Step, Snap, Stable, Tried}
use Rattle.model_run_laws.specs.model_kernel.Histories.{Run, version_of}
use Rattle.cell_states.specs.declared.cells.Cell.{Cell}

-- the newest record is no newer than the entity, and older where a step wrote the entity or a snap named it since that record
pub record IsFounded (newest version : ℕ) (noted : Bool) : Type 0 where
  pub past : newest ≤ version
  pub changed : noted ≡ true → newest < version

-- of an entity in a run
abbrev pub IsFoundedIn : Run → ℕ → Type 0
IsFoundedIn r x = IsFounded (r.newest x) (version_of r x) (r.by_step x || r.asked x)

-- of a cell
abbrev pub IsFoundedCell : Cell → Type 0
IsFoundedCell c = IsFounded c.wish.newest c.clock.version (c.wish.by_step || c.wish.asked)

-- the entries that follow records
abbrev pub IsRecordMark : Event → Type 0
IsRecordMark Birth = ⊥
IsRecordMark Step = ⊥
IsRecordMark Snap = Unit {0}
IsRecordMark Stable = Unit {0}
IsRecordMark Tried = ⊥

-- THE CELL HAS A RECORD: its newest is that of its present version, nothing was written or named since, and all else that the rules look at is as it was
pub record IsRecordedNow (c d : Cell) : Type 0 where
  pub same_clock : d.clock ≡ c.clock
  pub same_left : d.left ≡ c.left
  pub wish : d.wish ≡ record { by_step = false; asked = false; newest = c.clock.version }

-- THE CELL TAKES IN A BIRTH, which wrote it or not: a birth that writes it is its last writer
pub record TakesBirth (wrote : Bool) (c d : Cell) : Type 0 where
  pub same_entity : d.clock.entity ≡ c.clock.entity
  pub same_left : d.left ≡ c.left
  pub wish : d.wish ≡ record c.wish { by_step = not wrote && c.wish.by_step }
