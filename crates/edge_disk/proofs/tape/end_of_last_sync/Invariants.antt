use Rattle.std.proofs.Common.{take}
use Rattle.edge_disk.specs.Kept.{EndsWithSync}
use Rattle.edge_disk.proofs.tape.end_of_last_sync.Given as goal

abbrev pub invariant-loop-i : goal.invariant-loop-i
invariant-loop-i l = EndsWithSync (take l.i l.calls) l.end
