-- A Stable is what comes behind a step that owes one.
use Rattle.std.proofs.Common.{true, refl}
use Rattle.std.specs.Prelude.{Result, ⊤}
use Rattle.edge_disk.specs.declared.disk.Disk.{Ghosts}
use Rattle.base_types.specs.declared.histories.Entry.{Entry}
use Rattle.kernel_core_facts.specs.table_births.model_kernel.Histories.{Policy}
use Rattle.kernel_core_facts.specs.kernel_commit_facts.Parts.{Parts}
use Rattle.kernel_core_facts.specs.kernel_invariant.declared.stopping.Stopped.{Stopped}
use Rattle.thread_looks.specs.Behind.{KeepsBehind}
use Rattle.thread_settling.specs.Settling.{Settles}

pub stable_behind : {D : Type 0} (disks : Ghosts D) (policy : Policy) (e : Entry) (r : Result ⊤ Stopped) (mid new : Parts D)
    → Settles disks e.actor r mid new → KeepsBehind disks policy true e r mid new
stable_behind disks policy e r mid new s = record {
  steady = s.steady;
  stopped = s.stopped;
  notes = s.notes;
  stabilised = λ yes. s.stabilised;
  stable = λ yes. s.run;
  snaps = λ no. absurd (cc no);
  stable_part = λ yes. s.part;
  snaps_part = λ no. absurd (cc no);
  enough = λ told b owes free n is. s.enough told b (owes refl) n is;
  clean = s.clean;
  counts = s.counts;
}
