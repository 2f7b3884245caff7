-- Why an image was not opened.
use Rattle.std.specs.Prelude.{◌≡◌, ℕ, Some}
use Rattle.edge_disk.specs.declared.disk.Disk.{Ghosts}
use Rattle.edge_disk.specs.Counts.{Rose}
use Rattle.edge_disk.specs.Image.{Image}
use Rattle.store_facts.specs.image_blocks.Checks.{records_fault}
use Rattle.store_facts.specs.log_reading.declared.faults.ReadingFault.{ReadingFault}
use Rattle.store_facts.specs.log_reading.declared.faults.ReadingFault.TheVariants as reading
use Rattle.store_snapshots.specs.declared.opening.OpenWhy.{OpenWhy}
use Rattle.store_snapshots.specs.declared.opening.OpenWhy.TheVariants.{Foreign, Memory, ReadFault, WriteFault}

-- a bad place is the first one of the image, and a read or the sync failed only where the count of faults rose
abbrev pub HasOpenCause : Type 0 → Image → ℕ → ℕ → OpenWhy → Type 0
HasOpenCause tells image before now (Foreign bad) = tells → records_fault image ≡ Some bad
HasOpenCause tells image before now ReadFault = Rose before now
HasOpenCause tells image before now WriteFault = Rose before now
HasOpenCause tells image before now Memory = Unit {0}

-- why, where the log could not be read
abbrev pub why : ReadingFault → OpenWhy
why (reading.Foreign bad) = Foreign bad
why reading.ReadFault = ReadFault
why reading.Memory = Memory

-- the same, of a disk before the reads and behind them
abbrev pub HasOpenCauseIn : {D : Type 0} → Ghosts D → D → D → OpenWhy → Type 0
HasOpenCauseIn disks old new = HasOpenCause disks.tells (disks.reading old) (disks.faults old) (disks.faults new)
