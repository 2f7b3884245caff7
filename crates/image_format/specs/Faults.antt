-- Why an empty image was not made.
use Rattle.std.specs.Prelude.{◌≡◌, ℕ}
use Rattle.edge_disk.specs.Counts.{Rose}
use Rattle.image_format.specs.declared.formatting.FormatFault.{FormatFault}
use Rattle.image_format.specs.declared.formatting.FormatWhy.TheVariants.{Small, WriteFault}

-- the disk has so many blocks, and more were asked for; it is as it was
pub record IsSmall {D : Type 0} (need free : ℕ) (disk : D) (fault : FormatFault D) : Type 0 where
  pub why : fault.why ≡ Small (record { need = need; free = free })
  pub untouched : fault.disk ≡ disk

-- a write or a sync failed
pub record IsWriteFault {D : Type 0} (faults : D → ℕ) (disk : D) (fault : FormatFault D) : Type 0 where
  pub why : fault.why ≡ WriteFault
  pub cause : Rose (faults disk) (faults fault.disk)
