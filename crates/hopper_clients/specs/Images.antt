-- A disk on which an image was made.
use Rattle.edge_disk.specs.Image.{Image}
use Rattle.edge_disk.specs.MemoryDisk.{may_leave_of, reading_of}
use Rattle.edge_disk.specs.declared.memory.MemoryDisk.{MemoryDisk}
use Rattle.command_outcomes.specs.model_kernel.State.{Supply, empty_state}
use Rattle.hopper_top.specs.image_meaning.Empty.{IsFormatted}
use Rattle.hopper_top.specs.image_meaning.Meaning.{Means}

-- it reads as an empty image, and a stop leaves what means the state in which nothing is born
pub record HasNewImage (d : MemoryDisk) : Type 0 where
  pub formatted : IsFormatted 4096 (reading_of d)
  pub means : (supply : Supply) (c : Image) → may_leave_of d c → Means supply c empty_state
