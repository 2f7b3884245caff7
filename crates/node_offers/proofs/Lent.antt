-- A kernel that is lent twice, one time behind the other.
use Rattle.std.proofs.Common.{◌∙◌}
use Rattle.edge_disk.proofs.Ticks.{Rose-before}
use Rattle.edge_disk.specs.declared.disk.Disk.{Ghosts}
use Rattle.node_newest.specs.kernel_core.kernel_core_facts.Kernels.{Held}
use Rattle.node_newest.proofs.kernel_run_facts_lemmas.kernel_commit_facts_lemmas.Counting.{CountsWithin-then}
use Rattle.node_newest.specs.kernel_run_facts.Watching.{IsAsLent}

pub lent_then : {D : Type 0} (disks : Ghosts D) (old mid new : Held D) → IsAsLent disks old mid → IsAsLent disks mid new → IsAsLent disks old new
lent_then disks old mid new p q = record {
  notes = q.notes ∙ p.notes;
  cells = q.cells ∙ p.cells;
  counts = CountsWithin-then disks 0 0 old.parts.store mid.parts.store new.parts.store p.counts q.counts;
  lives = λ told b lives. q.lives told b (p.lives told b lives);
  clean = λ s clean. q.clean s (p.clean s clean);
  stop = λ why is. (let s = q.stop why is in (s.0, Rose-before (disks.faults old.parts.store.disk) (disks.faults mid.parts.store.disk) (disks.faults new.parts.store.disk) p.counts.later q.counts.later s.1));
}
