use Rattle.edge_tally.proofs.RunSoFar.{RunSoFar}
use Rattle.edge_tally.proofs.Tally.write_run.Given as goal

abbrev pub invariant-loop-i : goal.invariant-loop-i
invariant-loop-i g l =
    let disk = g.D.Disk in
    RunSoFar disk l.at l.run l.i l.fn.self.0 l.self.0 l.fn.disk l.disk
