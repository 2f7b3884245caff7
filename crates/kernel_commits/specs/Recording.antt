-- What comes of one record in a run.
use Rattle.std.specs.Prelude.{◌≡◌, ℕ, Some, IfErr, IsErrOf, OnOk, Result, ⊤}
use Rattle.edge_disk.specs.declared.disk.Disk.{Ghosts}
use Rattle.edge_disk.specs.declared.disk.NoBlocks.{NoBlocks}
use Rattle.kernel_commit_facts.specs.kernel_invariant.Beginnings.{Beginning}
use Rattle.kernel_commit_facts.specs.store_snapshots.declared.faults.StoreFault.{StoreFault}
use Rattle.kernel_commit_facts.specs.store_snapshots.declared.faults.StoreFault.TheVariants as fault
use Rattle.kernel_commit_facts.specs.Parts.{LivesAs, Parts, StandsAs}
use Rattle.kernel_commit_facts.specs.Recording.{HasTried}
use Rattle.kernel_commit_facts.specs.kernel_invariant.declared.stopping.Stopped.{Stopped}
use Rattle.kernel_commit_facts.specs.kernel_invariant.declared.stopping.Stopped.TheVariants as reason

-- the faults that a commit to a working store may meet
abbrev pub IsOfCommit : StoreFault → Type 0
IsOfCommit (fault.NoBlocks n) = Unit {0}
IsOfCommit fault.WriteFault = Unit {0}
IsOfCommit fault.ReadFault = ⊥
IsOfCommit fault.Shut = ⊥

-- why such a fault stops the kernel
abbrev pub why_of : StoreFault → Stopped
why_of (fault.NoBlocks n) = reason.NoBlocks n
why_of fault.WriteFault = reason.WriteFault
why_of fault.ReadFault = reason.ReadFault
why_of fault.Shut = reason.WriteFault

module _ {D : Type 0} (disks : Ghosts D) where
  -- WHAT COMES OF IT IN A RUN: the kernel goes on, or is live where it stopped
  pub record GoesOnBy (b : Beginning) (result : Result ⊤ Stopped) (new : Parts D) : Type 0 where
    pub stands : OnOk result (StandsAs disks b new)
    pub lives : IfErr result (λ why. LivesAs disks b new (Some why))

  -- HOW A RECORD of the entity FAILS: want of blocks changes nothing, a write that failed leaves its Tried, and nothing is read
  pub record Fails (x : ℕ) {T : Type 0} (result : Result T Stopped) (old new : Parts D) : Type 0 where
    pub untouched : (n : NoBlocks) → IsErrOf result (reason.NoBlocks n) → new ≡ old
    pub tried : IsErrOf result reason.WriteFault → HasTried disks x old new
    pub no_read : IsErrOf result reason.ReadFault → ⊥
