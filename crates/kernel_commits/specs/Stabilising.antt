-- What comes of a Stable in a run.
use Rattle.std.specs.Prelude.{Some, IfErr, OnOk, Result, ⊤}
use Rattle.edge_disk.specs.declared.disk.Disk.{Ghosts}
use Rattle.kernel_commit_facts.specs.kernel_invariant.Beginnings.{Beginning, run_of}
use Rattle.kernel_commit_facts.specs.model_serial.Serial.{IsCalm}
use Rattle.kernel_commit_facts.specs.Parts.{LivesAs, Parts, StandsAs}
use Rattle.kernel_commit_facts.specs.kernel_invariant.declared.stopping.Stopped.{Stopped}

module _ {D : Type 0} (disks : Ghosts D) where
  -- WHAT COMES OF IT IN THE RUN: the kernel goes on, at rest, or is live where it stopped
  pub record Stabilises (b : Beginning) (result : Result ⊤ Stopped) (new : Parts D) : Type 0 where
    pub stands : OnOk result (StandsAs disks b new)
    pub calm : OnOk result (IsCalm b.policy (run_of b new.noted.entries))
    pub lives : IfErr result (λ why. LivesAs disks b new (Some why))
