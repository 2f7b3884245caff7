use Rattle.std.proofs.Common.{sym, subst}
use Rattle.edge_disk.specs.MemoryDisk.{memory_disks}
use Rattle.edge_managers.specs.Managers.{counted_word}
use Rattle.thread_looks.specs.kernel_core.kernel_core_facts.Kernels.{StaysClean}
use Rattle.test_threads.proofs.runs.rounds_under_locks.Goals as goal

pub looked_at_under_locks-requires : goal.looked_at_under_locks-requires
looked_at_under_locks-requires g c = record { clean = subst (StaysClean memory_disks counted_word) (sym c.in-Ok.ensures) c.requires.clean }
