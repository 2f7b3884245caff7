-- The number of each status, the status of each fault, and how a call ended.
use Rattle.std.specs.Prelude.{◌≡◌, ◌⊎◌, ℕ, Option}
use Rattle.base_types.specs.declared.histories.Entry.{Entry}
use Rattle.command_outcomes.specs.declared.faults.Fault.{Fault}
use Rattle.command_outcomes.specs.declared.faults.Fault.TheVariants as fault
use Rattle.command_outcomes.specs.declared.statuses.Status.{Status}
use Rattle.command_outcomes.specs.declared.statuses.Status.TheVariants.{Done, Usage, Script, Foreign, DiskFault, SourceFault, SinkFault, Memory, BlocksFull, TraceWrong}

abbrev pub status_number : Status → ℕ
status_number Done = 0
status_number Usage = 2
status_number (Script refusal) = 3
status_number (Foreign block place) = 4
status_number DiskFault = 5
status_number SourceFault = 6
status_number SinkFault = 7
status_number Memory = 8
status_number (BlocksFull n) = 9
status_number (TraceWrong line want) = 10

abbrev pub status_by : Fault → Status
status_by fault.Usage = Usage
status_by (fault.Script refusal) = Script refusal
status_by (fault.Foreign block place) = Foreign block place
status_by fault.DiskFault = DiskFault
status_by fault.Source = SourceFault
status_by fault.Memory = Memory
status_by (fault.NoBlocks n) = BlocksFull n

-- HOW A CALL ENDED: whole, with all its lines put; whole, but its lines went out in part, since the sink failed; stopped by a fault; or with
-- a trace that goes wrong in this line, which wants this entry, or none
pub data Ending : Type 0 where
  Whole : Ending
  Unput : Ending
  Stopped : Fault → Ending
  Wrong : ℕ → Option Entry → Ending

abbrev pub ending : Status → Ending
ending Done = Whole
ending Usage = Stopped fault.Usage
ending (Script refusal) = Stopped (fault.Script refusal)
ending (Foreign block place) = Stopped (fault.Foreign block place)
ending DiskFault = Stopped fault.DiskFault
ending SourceFault = Stopped fault.Source
ending SinkFault = Unput
ending Memory = Stopped fault.Memory
ending (BlocksFull n) = Stopped (fault.NoBlocks n)
ending (TraceWrong line want) = Wrong line want

-- the call came to its end, or memory ran out
abbrev pub IsComplete : Status → Type 0
IsComplete status = (status ≡ Done) ⊎ (status ≡ Memory)
