use Rattle.edge_disk.specs.MemoryDisk.{memory_disks}
use Rattle.edge_managers.specs.Managers.{counted_word}
use Rattle.thread_looks.specs.kernel_core.kernel_core_facts.Kernels.{StaysClean}
use Rattle.test_threads.proofs.runs.looked_at_under_locks.Given as goal

abbrev pub invariant-loop-look : goal.invariant-loop-look
invariant-loop-look g l = StaysClean memory_disks counted_word l.kernel
