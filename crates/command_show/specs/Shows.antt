-- What the command `show` leaves.
use Rattle.std.specs.Prelude.{◌≡◌, ℕ}
use Rattle.image_reading.specs.model_kernel.Soundness.{IsSound}
use Rattle.image_reading.specs.model_kernel.State.{Cell, KernelState, Supply, Text}
use Rattle.image_reading.specs.image_meaning.Meaning.{Means}
use Rattle.image_reading.specs.plain_show.Show.{shown}
use Rattle.command_outcomes.specs.Ends.{IsEmpty}
use Rattle.command_outcomes.specs.Seen.{Gave, SeenDisk, SeenSink}
use Rattle.command_outcomes.specs.Statuses.{Ending}
use Rattle.command_show.specs.Readings.{ReadingLeaves}

-- the image means a state with these cells
pub record MeansCells (s : Supply) (disk : SeenDisk) (cells : ℕ → Cell) : Type 0 where
  pub state : KernelState
  pub means : Means s disk.before.reading state
  pub same : (x : ℕ) → (state x).cell ≡ cells x

-- WHOLE: nothing was run, and the text of a sound state was put, which is the one that the image means
pub record IsShown (s : Supply) (disk : SeenDisk) (gave : Gave) (Puts : Text → Type 0) : Type 0 where
  pub empty : IsEmpty gave
  pub cells : ℕ → Cell
  pub sound : IsSound cells
  pub meant : disk.tells → MeansCells s disk cells
  pub output : Puts (shown s cells)

-- WHAT `show` LEAVES, by how it ended
abbrev pub ShowLeaves : Supply → SeenDisk → SeenSink → Gave → Ending → Type 0
ShowLeaves s disk sink gave = ReadingLeaves disk sink gave (IsShown s disk gave)
