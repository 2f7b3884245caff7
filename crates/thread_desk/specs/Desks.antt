-- What the side beside the history knows, and what is true of it.
use Rattle.std.specs.Prelude.{◌≡◌, ◌⊎◌, ◌++◌, ◌<◌, ◌≤◌, ℕ, List, Option, Some, slice_get}
use Rattle.edge_disk.specs.Counts.{Rose}
use Rattle.edge_disk.specs.declared.disk.Disk.{Ghosts}
use Rattle.edge_disk.specs.declared.disk.NoBlocks.{NoBlocks}
use Rattle.base_types.specs.declared.histories.Entry.{Entry}
use Rattle.kernel_core.specs.kernel_core_facts.cell_states.declared.cells.Cell.{Cell}
use Rattle.kernel_core.specs.kernel_core_facts.kernel_commit_facts.Parts.{Noted}
use Rattle.kernel_core.specs.kernel_core_facts.kernel_invariant.Beginnings.{Beginning}
use Rattle.kernel_core.specs.kernel_core_facts.kernel_invariant.declared.stopping.Stopped.{Stopped}
use Rattle.kernel_core.specs.kernel_core_facts.kernel_invariant.declared.stopping.Stopped.TheVariants as reason
use Rattle.kernel_core.specs.kernel_core_facts.kernel_laws.Opening.{empty_script}
use Rattle.kernel_core.specs.kernel_core_facts.store_facts.State.{State, books}
use Rattle.kernel_core.specs.kernel_core_facts.table_births.model_kernel.Histories.{never}
use Rattle.kernel_core.specs.kernel_core_facts.table_births.model_kernel.State.{empty_state}
use Rattle.kernel_core.specs.kernel_core_facts.Kernels.{Held, IsKept, Lives, StaysClean}
use Rattle.kernel_core.specs.Parts.{held_of}
use Rattle.kernel_run_facts.specs.Alongs.{IsAlong}

-- the store that it knows, the only one of its list; the cells that it knows; the history with its marks; the entries after the kept ones that the
-- shares are told of; and why the kernel has stopped, if it has
pub record Knowing (D : Type 0) : Type 0 where
  pub stores : List (State D)
  pub cells : List Cell
  pub noted : Noted
  pub told : List Entry
  pub stop : Option Stopped

abbrev pub knowing : {D : Type 0} → List (State D) → List Cell → Noted → List Entry → Option Stopped → Knowing D
knowing stores cells noted told stop = record { stores = stores; cells = cells; noted = noted; told = told; stop = stop }

-- the kernel that they make with this store
abbrev pub held_with : {D : Type 0} → State D → Knowing D → Held D
held_with st k = held_of st k.cells k.noted k.stop

-- what was counted as the run began: the faults of the disk, and the blocks of the image
pub record FirstCounts : Type 0 where
  pub faults : ℕ
  pub blocks : ℕ

-- THE TERMS of a board: what was counted as the run began; and what has to be so where the run is spoken of, as that the disk tells its content
pub record Terms : Type 1 where
  pub counts : FirstCounts
  pub told : Type 0

-- WHAT IS COUNTED since, and WHY A KERNEL HAS STOPPED, whatever the disk tells: the count of faults doesn't fall, and the image has as many blocks; it
-- was for want of blocks only where fewer were free than were needed, and at a read or a write only where the count of faults rose
pub record IsCountedFrom {D : Type 0} (disks : Ghosts D) (counts : FirstCounts) (k : Held D) : Type 0 where
  pub later : counts.faults ≤ disks.faults k.parts.store.disk
  pub same_count : (books k.parts.store).count ≡ counts.blocks
  pub fewer : (n : NoBlocks) → k.stop ≡ Some (reason.NoBlocks n) → n.free < n.need
  pub rose : (k.stop ≡ Some reason.ReadFault) ⊎ (k.stop ≡ Some reason.WriteFault) → Rose counts.faults (disks.faults k.parts.store.disk)

-- THEY ARE A KERNEL as the serial one is, with its counts and its cause to stop, and clean pages where the disk tells its content. Where the run is
-- spoken of, which asks that the disk tells it, it is live in the run, behind looks at some loci; and the shares are told of its whole history
pub record IsKernel {D : Type 0} (disks : Ghosts D) (b : Beginning) (terms : Terms) (kept : List Entry) (k : Knowing D) (st : State D) : Type 0 where
  pub is_kept : IsKept disks (held_with st k)
  pub counted : IsCountedFrom disks terms.counts (held_with st k)
  pub clean : StaysClean disks b.supply (held_with st k)
  pub tells : terms.told → disks.tells
  pub lives : terms.told → Lives disks b (held_with st k)
  pub along : terms.told → IsAlong disks b (held_with st k)
  pub entries : k.noted.entries ≡ kept ++ k.told

-- THE INVARIANT: so it is with the store that is known
abbrev pub IsDesk : {D : Type 0} → Ghosts D → Beginning → Terms → List Entry → Knowing D → Type 0
IsDesk {D} disks b terms kept k = (st : State D) → slice_get k.stores 0 ≡ Some st → IsKernel disks b terms kept k st

-- a beginning of nothing
abbrev pub no_beginning : Beginning
no_beginning = record { supply = λ t p a. 0; policy = never; script = empty_script 1; state = empty_state; since = 0; first = 0 }

-- nothing is counted, and nothing told
abbrev pub no_terms : Terms
no_terms = record { counts = record { faults = 0; blocks = 0 }; told = ⊥ }
