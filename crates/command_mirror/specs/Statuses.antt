-- The number of each status, and the status of each fault.
use Rattle.std.specs.Prelude.{ℕ, ◌+◌}
use Rattle.command_outcomes.specs.declared.faults.Fault.{Fault}
use Rattle.command_outcomes.specs.declared.faults.Fault.TheVariants as fault
use Rattle.command_mirror.specs.declared.faults.MirrorFault.{MirrorFault}
use Rattle.command_mirror.specs.declared.faults.MirrorFault.TheVariants as mirror
use Rattle.command_mirror.specs.declared.faults.SecondFault.{SecondFault}
use Rattle.command_mirror.specs.declared.faults.SecondFault.TheVariants as second
use Rattle.command_mirror.specs.declared.statuses.MirrorStatus.{MirrorStatus}
use Rattle.command_mirror.specs.declared.statuses.MirrorStatus.TheVariants.{Done, First, NotEmpty, Second}
use Rattle.command_mirror.specs.declared.statuses.MirrorWhy.{MirrorWhy}
use Rattle.command_mirror.specs.declared.statuses.MirrorWhy.TheVariants.{BlocksFull, DiskFault, Foreign, Memory, Script, SinkFault, SourceFault}

abbrev pub why_number : MirrorWhy → ℕ
why_number (Script refusal) = 3
why_number (Foreign block place) = 4
why_number DiskFault = 5
why_number SourceFault = 6
why_number SinkFault = 7
why_number Memory = 8
why_number (BlocksFull n) = 9

abbrev pub mirror_number : MirrorStatus → ℕ
mirror_number Done = 0
mirror_number (First why) = why_number why
mirror_number (Second why) = why_number why + 20
mirror_number (NotEmpty used) = 11

-- no word is read here
abbrev pub first_why : Fault → MirrorWhy
first_why fault.Usage = Memory
first_why (fault.Script refusal) = Script refusal
first_why (fault.Foreign block place) = Foreign block place
first_why fault.DiskFault = DiskFault
first_why fault.Source = SourceFault
first_why fault.Memory = Memory
first_why (fault.NoBlocks n) = BlocksFull n

abbrev pub second_why : SecondFault → MirrorWhy
second_why (second.Foreign block place) = Foreign block place
second_why second.DiskFault = DiskFault
second_why second.Memory = Memory
second_why (second.NoBlocks n) = BlocksFull n

abbrev pub mirror_status : MirrorFault → MirrorStatus
mirror_status (mirror.First fault) = First (first_why fault)
mirror_status (mirror.Second fault) = Second (second_why fault)
mirror_status (mirror.NotEmpty used) = NotEmpty used
