use Rattle.std.proofs.Common.{sym, subst}
use Rattle.edge_disk.specs.MemoryDisk.{memory_disks}
use Rattle.edge_managers.specs.Managers.{counted_word}
use Rattle.thread_looks.specs.kernel_core.kernel_core_facts.Kernels.{StaysClean}
use Rattle.test_threads.proofs.runs.turns_under_locks.Goals as goal

pub look_at_each-made-requires-clause-clean : goal.look_at_each-made-requires-clause-clean
look_at_each-made-requires-clause-clean g c = subst (StaysClean memory_disks counted_word) (sym c.in-Ok.ensures) c.requires.clean
