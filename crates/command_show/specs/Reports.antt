-- What the command `report` leaves.
use Rattle.std.specs.Prelude.{◌≡◌, ℕ, List, length, slice_index}
use Rattle.image_reading.specs.model_kernel.State.{Text}
use Rattle.image_reading.specs.image_meaning.Meaning.{Accepted}
use Rattle.image_reading.specs.image_meaning.Parts.{cut_of}
use Rattle.image_reading.specs.log_reading.Logs.{IsLogOf}
use Rattle.image_reading.specs.log_reading.declared.log.ImageLog.{ImageLog}
use Rattle.image_reading.specs.line_report.Reports.{report_text}
use Rattle.command_outcomes.specs.Ends.{IsEmpty}
use Rattle.command_outcomes.specs.Seen.{Gave, SeenDisk, SeenSink}
use Rattle.command_outcomes.specs.Statuses.{Ending}
use Rattle.command_show.specs.Readings.{ReadingLeaves}

-- the image is accepted, and has this log
pub record HasLog (disk : SeenDisk) (log : ImageLog) : Type 0 where
  pub accepted : Accepted disk.before.reading
  pub is : IsLogOf disk.before.reading log

-- WHOLE: nothing was run, and the report of the image's log was put, with the greatest closed choice over its records
pub record IsReported (disk : SeenDisk) (gave : Gave) (Puts : Text → Type 0) : Type 0 where
  pub empty : IsEmpty gave
  pub log : ImageLog
  pub cut : List ℕ
  pub has : disk.tells → HasLog disk log
  pub whole : length cut ≡ 64
  pub is_cut : slice_index cut ≡ cut_of log.recs.items
  pub output : Puts (report_text log.area log.epoch log.recs.items cut)

-- WHAT `report` LEAVES, by how it ended
abbrev pub ReportLeaves : SeenDisk → SeenSink → Gave → Ending → Type 0
ReportLeaves disk sink gave = ReadingLeaves disk sink gave (IsReported disk gave)
