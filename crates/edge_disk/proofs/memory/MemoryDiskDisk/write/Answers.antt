use Rattle.std.proofs.Common.{refl}
use Rattle.edge_disk.proofs.TapeMoments.{Elapses-begins, tears}
use Rattle.edge_disk.proofs.memory.MemoryDiskDisk.write.Goals as goal

pub returns-then-count_call-clause-stop : goal.returns-then-count_call-clause-stop
returns-then-count_call-clause-stop c = tears _ _ _ c.begin.ensures.begins c.args.at (λ s. refl) c.requires

pub returns-then-count_call-clause-time : goal.returns-then-count_call-clause-time
returns-then-count_call-clause-time c = Elapses-begins _ _ _ c.begin.ensures.begins

pub returns-clause-stop : goal.returns-clause-stop
returns-clause-stop c = tears _ _ _ c.begin-2.ensures.begins c.args.at (λ s. refl) c.requires

pub returns-clause-time : goal.returns-clause-time
returns-clause-time c = Elapses-begins _ _ _ c.begin-2.ensures.begins
