-- What is read of an image's log.
use Rattle.std.specs.Prelude.{◌≡◌, ◌≤◌, ℕ, AllPairs, length}
use Rattle.edge_disk.specs.Image.{Image}
use Rattle.image_blocks.specs.image_facts.Checks.{count_in}
use Rattle.image_blocks.specs.Layout.{epoch_in}
use Rattle.image_blocks.specs.image_facts.Layout.{last_number, most_blocks, pool_at, slot_count}
use Rattle.image_blocks.specs.Logs.{HasRecords}
use Rattle.log_reading.specs.declared.log.ImageLog.{ImageLog}
use Rattle.log_facts.specs.Logs.{AreInRange, IsOlder}

-- the image has these records in this area, with this epoch, and so many blocks
pub record IsLogOf (image : Image) (log : ImageLog) : Type 0 where
  pub has : HasRecords log.recs.items image
  pub area : has.area ≡ log.area
  pub epoch : log.epoch ≡ epoch_in image log.area
  pub blocks : log.blocks ≡ count_in image

-- what is known of it whether or not the disk tells its content
pub record IsKnown (count : ℕ) (log : ImageLog) : Type 0 where
  pub enough : pool_at ≤ log.blocks
  pub most : log.blocks ≤ most_blocks
  pub within : log.blocks ≤ count
  pub few : length log.recs.items ≤ slot_count
  pub epoch : log.epoch ≤ last_number
  pub in_range : AreInRange log.blocks log.recs.items
  pub ascending : AllPairs IsOlder log.recs.items
