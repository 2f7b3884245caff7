-- A run that stops for want of blocks.
use Rattle.std.specs.Prelude.{◌<◌, ℕ, List}
use Rattle.edge_disk.specs.declared.disk.NoBlocks.{NoBlocks}
use Rattle.base_types.specs.declared.histories.Entry.{Entry}
use Rattle.image_facts.specs.Checks.{count_in}
use Rattle.kernel_runs.specs.kernel_commit_facts.Short.{AreWithin}
use Rattle.open_kernel.specs.kernel_invariant.Beginnings.{Beginning, state_after}
use Rattle.open_kernel.specs.kernel_block_laws.Room.{enough_blocks}
use Rattle.command_source.specs.command_outcomes.Seen.{Gave, SeenDisk, SeenSink}
use Rattle.command_source.specs.command_outcomes.declared.faults.Fault.TheVariants as fault
use Rattle.command_promises.specs.Manners.{Manner}
use Rattle.command_promises.specs.Runs.{IsCutShort}

-- TOO FEW BLOCKS: the image has fewer than the pages and the born entities of the state at the stop may need; fewer were free than were needed;
-- what was due is a record, or a step that reads or writes a word; and both numbers are within their bounds
pub record IsShortOfBlocks (due_in : Beginning → List Entry → Type 0) (b : Beginning) (count : ℕ) (es : List Entry) (n : NoBlocks) : Type 0 where
  pub few : count < enough_blocks (state_after b es)
  pub fewer : n.free < n.need
  pub due : due_in b es
  pub within : AreWithin (state_after b es) count n

-- CUT SHORT for want of blocks in the image that was handed in
pub record IsCutForBlocks (manner : Manner) (b : Beginning) (disk : SeenDisk) (sink : SeenSink) (gave : Gave) (n : NoBlocks) : Type 0 where
  pub cut : IsCutShort manner b disk sink gave (fault.NoBlocks n)
  pub short : IsShortOfBlocks manner.due b (count_in disk.before.reading) gave.history n
