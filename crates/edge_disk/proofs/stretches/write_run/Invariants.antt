use Rattle.edge_disk.proofs.RunSoFar.{RunSoFar}
use Rattle.edge_disk.proofs.stretches.write_run.Given as goal

abbrev pub invariant-loop-i : goal.invariant-loop-i
invariant-loop-i g l =
    let disk = g.D.Disk in
    RunSoFar disk l.at l.run l.i l.fn.disk l.disk
