-- The last lines of a mirrored run.
use Rattle.std.specs.Prelude.{ℕ, ◌++◌, codes, decimal}
use Rattle.script_types.specs.model_kernel.State.{Text}
use Rattle.command_outcomes.specs.Faults.{fault_line, line, numbers_line}
use Rattle.command_open.specs.command_promises.Manners.{Telling}
use Rattle.script_types.specs.model_kernel.Output.{output_of}
use Rattle.command_mirror.specs.declared.faults.MirrorFault.{MirrorFault}
use Rattle.command_mirror.specs.declared.faults.MirrorFault.TheVariants.{First, NotEmpty, Second}
use Rattle.command_mirror.specs.declared.faults.SecondFault.{SecondFault}
use Rattle.command_mirror.specs.declared.faults.SecondFault.TheVariants as second

-- how many of the commits the standby took
abbrev pub counts_line : ℕ → ℕ → Text
counts_line kept made = line (codes "mirror " ++ decimal kept ++ codes " of " ++ decimal made)

-- the numbers of the second node's faults are 20 more
abbrev pub second_line : SecondFault → Text
second_line (second.Foreign block place) = numbers_line (codes "fault 24 ") block place
second_line second.DiskFault = line (codes "fault 25 disk")
second_line second.Memory = line (codes "fault 28 memory")
second_line (second.NoBlocks n) = numbers_line (codes "fault 29 ") n.need n.free

-- of a log that has so many records
abbrev pub used_line : ℕ → Text
used_line used = line (codes "fault 11 " ++ decimal used)

-- `fault`, the number, and what is to be told
abbrev pub mirror_fault_line : MirrorFault → Text
mirror_fault_line (First fault) = fault_line fault
mirror_fault_line (Second fault) = second_line fault
mirror_fault_line (NotEmpty used) = used_line used

-- the printed lines, and behind them that of the counts
abbrev pub with_counts : ℕ → ℕ → Telling
with_counts kept made a es = output_of a es ++ counts_line kept made
