-- That a kernel has stopped for a cause, if it has, whatever its disk tells.
use Rattle.std.specs.Prelude.{◌≡◌, ◌⊎◌, ◌-◌, ◌<◌, ℕ, Some}
use Rattle.edge_disk.specs.declared.disk.NoBlocks.{NoBlocks}
use Rattle.kernel_core.specs.kernel_core_facts.Kernels.{Held}
use Rattle.kernel_core.specs.kernel_core_facts.kernel_invariant.declared.stopping.Stopped.TheVariants as reason
use Rattle.kernel_core.specs.kernel_core_facts.store_facts.State.{books}
use Rattle.thread_workers.specs.thread_desk.Desks.{FirstCounts}

-- for want of blocks where fewer were free than were needed, and at a read or a write where the disk has counted a fault
pub record HasCause {D : Type 0} (k : Held D) (faults : D → ℕ) : Type 0 where
  pub fewer : (n : NoBlocks) → k.stop ≡ Some (reason.NoBlocks n) → n.free < n.need
  pub faulty : (k.stop ≡ Some reason.ReadFault) ⊎ (k.stop ≡ Some reason.WriteFault) → 0 < faults k.parts.store.disk

-- what was counted before the last fault, if there was one
abbrev pub counts_before : {D : Type 0} → Held D → (D → ℕ) → FirstCounts
counts_before k faults = record { faults = faults k.parts.store.disk - 1; blocks = (books k.parts.store).count }
