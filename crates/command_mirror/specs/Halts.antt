-- What a run that was halted tells, and a standby that was not opened.
use Rattle.std.specs.Prelude.{None, Ok, Err, Option, Result, Some, ⊤}
use Rattle.command_open.specs.command_promises.kernel_commits.declared.stopping.Stop.TheVariants as stop
use Rattle.command_outcomes.specs.declared.faults.Fault.TheVariants as fault
use Rattle.node_mirror.specs.declared.stops.MirrorHalt.{MirrorHalt}
use Rattle.node_mirror.specs.declared.stops.MirrorHalt.TheVariants as halt
use Rattle.node_rounds.specs.declared.rounds.RoundStop.TheVariants as round
use Rattle.node_standby.specs.declared.faults.StandbyWhy.{StandbyWhy}
use Rattle.node_standby.specs.declared.faults.StandbyWhy.TheVariants as why
use Rattle.node_standby.specs.store_snapshots.declared.faults.StoreFault.TheVariants as store
use Rattle.command_mirror.specs.declared.faults.MirrorFault.{MirrorFault}
use Rattle.command_mirror.specs.declared.faults.MirrorFault.TheVariants.{First, NotEmpty, Second}
use Rattle.command_mirror.specs.declared.faults.SecondFault.TheVariants as second

-- a shipment that may not be taken is told as want of memory
abbrev pub fault_by : MirrorHalt → MirrorFault
fault_by (halt.Kernel (stop.NoBlocks n)) = First (fault.NoBlocks n)
fault_by (halt.Kernel (stop.Idle why)) = First fault.DiskFault
fault_by (halt.Kernel stop.ReadFault) = First fault.DiskFault
fault_by (halt.Kernel stop.WriteFault) = First fault.DiskFault
fault_by (halt.Kernel stop.Shut) = First fault.DiskFault
fault_by halt.Memory = First fault.Memory
fault_by (halt.Round (round.Store (store.NoBlocks n))) = Second (second.NoBlocks n)
fault_by (halt.Round (round.Store store.ReadFault)) = Second second.DiskFault
fault_by (halt.Round (round.Store store.WriteFault)) = Second second.DiskFault
fault_by (halt.Round (round.Store store.Shut)) = Second second.DiskFault
fault_by (halt.Round round.Refused) = Second second.Memory

abbrev pub halted_by : Result ⊤ MirrorHalt → Option MirrorFault
halted_by (Ok y) = None
halted_by (Err why) = Some (fault_by why)

abbrev pub opening_fault : StandbyWhy → MirrorFault
opening_fault (why.Foreign bad) = Second (second.Foreign bad.block bad.place)
opening_fault (why.NotEmpty used) = NotEmpty used
opening_fault why.ReadFault = Second second.DiskFault
opening_fault why.WriteFault = Second second.DiskFault
opening_fault why.Memory = Second second.Memory
