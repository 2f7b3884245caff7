-- Why commits were not offered, and what it stops.
use Rattle.std.proofs.Common.{◌≡◌, None, Err, refl, sym, ap, subst, ◌∙◌}
use Rattle.std.specs.Prelude.{Option, ⊤}
use Rattle.edge_disk.specs.declared.disk.Disk.{Ghosts}
use Rattle.node_looks.specs.kernel_core.kernel_invariant.declared.stopping.Stopped.{Stopped}
use Rattle.node_mirror.specs.Leaving.{BeginsBy}
use Rattle.node_mirror.specs.Stops.{StopsLine, halt_by, stop_behind, stop_of}
use Rattle.node_mirror.specs.declared.stops.MirrorHalt.{MirrorHalt}
use Rattle.node_mirror.specs.declared.stops.MirrorStop.{MirrorStop}
use Rattle.node_offers.specs.node_newest.Newest.{stop_behind as stop_by}
use Rattle.node_pages.specs.declared.faults.ShipFault.{ShipFault}
use Rattle.node_pages.specs.declared.faults.ShipFault.TheVariants as ship
use Rattle.node_rounds.specs.node_standby.Standing.{Standing}

same_by : (f : ShipFault) → stop_by {T = ⊤} (Err f) None ≡ stop_behind (Err (stop_of f))
same_by ship.ReadFault = refl
same_by ship.Shut = refl
same_by ship.Memory = refl

pub stop_same : (f : ShipFault) (s : MirrorStop) → s ≡ stop_of f → stop_by {T = ⊤} (Err f) None ≡ stop_behind (Err s)
stop_same f s is = same_by f ∙ ap (λ (t : MirrorStop). stop_behind (Err t)) (sym is)

-- the standby is as before
line_by : {E : Type 0} (disks : Ghosts E) (st : Standing E) (f : ShipFault) → StopsLine disks st st (stop_of f)
line_by disks st ship.ReadFault = refl
line_by disks st ship.Shut = refl
line_by disks st ship.Memory = refl

pub line_stopped : {E : Type 0} (disks : Ghosts E) (st : Standing E) (f : ShipFault) (s : MirrorStop) → s ≡ stop_of f → StopsLine disks st st s
line_stopped disks st f s is = subst (StopsLine disks st st) (sym is) (line_by disks st f)

-- A RUN THAT NEVER BEGAN
begins_as : (f : ShipFault) (o : Option Stopped) → o ≡ stop_by {T = ⊤} (Err f) None → BeginsBy o (Err (halt_by f))
begins_as ship.ReadFault o is = (refl, is)
begins_as ship.Shut o is = is
begins_as ship.Memory o is = is

pub begins_by : (f : ShipFault) (h : MirrorHalt) (o : Option Stopped) → h ≡ halt_by f → o ≡ stop_by {T = ⊤} (Err f) None → BeginsBy o (Err h)
begins_by f h o is stop = subst (λ (x : MirrorHalt). BeginsBy o (Err x)) (sym is) (begins_as f o stop)
