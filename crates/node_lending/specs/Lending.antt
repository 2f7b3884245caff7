-- A kernel from whose store only was read.
use Rattle.std.specs.Prelude.{◌≡◌, false, List, Option, None, Some}
use Rattle.edge_disk.specs.Counts.{Rose}
use Rattle.edge_disk.specs.declared.disk.Disk.{Ghosts}
use Rattle.kernel_core.specs.kernel_commit_facts.Parts.{Noted, parts_of}
use Rattle.kernel_core.specs.kernel_commit_facts.Steady.{IsSteady}
use Rattle.kernel_core.specs.Parts.{held_of}
use Rattle.kernel_core.specs.kernel_core_facts.Kernels.{IsKept}
use Rattle.kernel_invariant.specs.declared.stopping.Stopped.{Stopped}
use Rattle.kernel_invariant.specs.declared.stopping.Stopped.TheVariants as reason
use Rattle.kernel_views.specs.kernel_records.cell_states.declared.cells.Cell.{Cell}
use Rattle.kernel_run_facts.specs.Watching.{IsAsLent}
use Rattle.node_pages.specs.Reading.{GoesByReads}
use Rattle.node_pages.specs.store_snapshots.store_facts.State.{State, books}

module _ {D : Type 0} (disks : Ghosts D) where
  -- why it has stopped behind the reads: for one that failed, if its store doesn't work
  abbrev pub StopsForReads : State D → State D → Option Stopped → Type 0
  StopsForReads old new None = (books new).shut ≡ false
  StopsForReads old new (Some why) = (why ≡ reason.ReadFault) × Rose (disks.faults old.disk) (disks.faults new.disk)

  -- THE LAW: a kernel that goes on is given back as a watcher has to give it back
  abbrev pub LentLaw : Type 0
  LentLaw = (cs : List Cell) (noted : Noted) (old new : State D) (stop : Option Stopped) → GoesByReads disks old new → IsSteady disks (parts_of old cs noted)
      → StopsForReads old new stop → IsAsLent disks (held_of old cs noted None) (held_of new cs noted stop)

  -- THE LAW: whatever it had stopped for, its parts are lawful, where its store works if it goes on
  abbrev pub KeptLaw : Type 0
  KeptLaw = (cs : List Cell) (noted : Noted) (old new : State D) (before stop : Option Stopped) → GoesByReads disks old new → IsKept disks (held_of old cs noted before)
      → (stop ≡ None → (before ≡ None) × ((books new).shut ≡ false)) → IsKept disks (held_of new cs noted stop)
