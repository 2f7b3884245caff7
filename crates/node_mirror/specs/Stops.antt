-- Why a mirrored run was halted.
use Rattle.std.specs.Prelude.{◌≡◌, Option, Some, None, Ok, Err, Result, ⊤}
use Rattle.edge_disk.specs.declared.disk.Disk.{Ghosts}
use Rattle.node_looks.specs.kernel_core.kernel_invariant.declared.stopping.Stopped.{Stopped}
use Rattle.node_looks.specs.kernel_core.kernel_invariant.declared.stopping.Stopped.TheVariants as reason
use Rattle.kernel_run_facts.specs.kernel_commits.declared.stopping.Stop.{Stop}
use Rattle.kernel_run_facts.specs.kernel_commits.declared.stopping.Stop.TheVariants as answer
use Rattle.node_mirror.specs.declared.stops.MirrorHalt.{MirrorHalt}
use Rattle.node_mirror.specs.declared.stops.MirrorHalt.TheVariants as halt
use Rattle.node_mirror.specs.declared.stops.MirrorStop.{MirrorStop}
use Rattle.node_mirror.specs.declared.stops.MirrorStop.TheVariants as stop
use Rattle.node_pages.specs.declared.faults.ShipFault.{ShipFault}
use Rattle.node_pages.specs.declared.faults.ShipFault.TheVariants as ship
use Rattle.node_rounds.specs.Going.{StopsRound}
use Rattle.node_rounds.specs.node_standby.Standing.{Standing}
use Rattle.node_rounds.specs.node_standby.node_shipments.Parts.{Shipment}
use Rattle.node_world.specs.Worlds.{Sending}

-- why commits were not offered
abbrev pub stop_of : ShipFault → MirrorStop
stop_of ship.ReadFault = stop.Reading
stop_of ship.Shut = stop.Memory
stop_of ship.Memory = stop.Memory

-- and why a run never began
abbrev pub halt_by : ShipFault → MirrorHalt
halt_by ship.ReadFault = halt.Kernel answer.ReadFault
halt_by ship.Shut = halt.Memory
halt_by ship.Memory = halt.Memory

-- why the kernel has stopped then
abbrev pub stop_behind : Result ⊤ MirrorStop → Option Stopped
stop_behind (Ok y) = None
stop_behind (Err stop.Reading) = Some reason.ReadFault
stop_behind (Err stop.Memory) = None
stop_behind (Err (stop.Round why)) = None

-- what the calls of the first node's kernel answered: that the run was halted for the second is no fault of theirs
abbrev pub kernel_part : Result ⊤ MirrorHalt → Result ⊤ Stop
kernel_part (Ok y) = Ok y
kernel_part (Err (halt.Kernel why)) = Err why
kernel_part (Err halt.Memory) = Ok tt
kernel_part (Err (halt.Round why)) = Ok tt

-- WHAT STOPPED THE LINE: want of memory or a read, by which the standby is as before; or a round, which was broken off at a packet that was sent
abbrev pub StopsLine : {E : Type 0} → Ghosts E → Standing E → Standing E → MirrorStop → Type 0
StopsLine disks old new stop.Reading = new ≡ old
StopsLine disks old new stop.Memory = new ≡ old
StopsLine disks old new (stop.Round why) = (s : Sending Shipment) × StopsRound disks s old new why
