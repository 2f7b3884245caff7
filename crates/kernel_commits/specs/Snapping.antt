-- What comes of Snaps by wishes in a run.
use Rattle.std.specs.Prelude.{◌≡◌, ℕ, List, [], ◌++◌, Some, IfErr, OnOk, Result}
use Rattle.edge_disk.specs.declared.disk.Disk.{Ghosts}
use Rattle.kernel_commit_facts.specs.model_kernel.Histories.{Policy}
use Rattle.kernel_commit_facts.specs.kernel_invariant.Beginnings.{Beginning, run_of}
use Rattle.kernel_commit_facts.specs.model_serial.Serial.{IsBehind, wished_snap, wished_snaps}
use Rattle.kernel_commit_facts.specs.Parts.{LivesAs, Parts}
use Rattle.kernel_commit_facts.specs.kernel_invariant.declared.stopping.Stopped.{Stopped}
use Rattle.kernel_commit_facts.specs.Snapping.{RunsFree}

module _ {D : Type 0} (disks : Ghosts D) where
  -- THE SNAP OF ONE ENTITY that is wished: the kernel goes on with it, or is live where it stopped
  pub record SnapsOne (b : Beginning) (policy : Policy) (x : ℕ) {T : Type 0} (result : Result T Stopped) (old new : Parts D) : Type 0 where
    pub runs : OnOk result (RunsFree disks b policy new)
    pub entries : OnOk result (new.noted.entries ≡ old.noted.entries ++ wished_snap policy (run_of b old.noted.entries) x)
    pub lives : IfErr result (λ why. LivesAs disks b new (Some why))

  -- THE SNAPS of several, in their order
  pub record SnapsAll (b : Beginning) (policy : Policy) (xs : List ℕ) {T : Type 0} (result : Result T Stopped) (old new : Parts D) : Type 0 where
    pub runs : OnOk result (RunsFree disks b policy new)
    pub entries : OnOk result (new.noted.entries ≡ old.noted.entries ++ wished_snaps b.supply policy b.script (run_of b old.noted.entries) xs)
    pub calm : IsBehind policy (run_of b old.noted.entries) xs → OnOk result (IsBehind policy (run_of b new.noted.entries) [])
    pub lives : IfErr result (λ why. LivesAs disks b new (Some why))
