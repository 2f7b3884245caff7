use Rattle.log_facts.proofs.ReadSoFar.{ReadSoFar}
use Rattle.log_reading.proofs.slots.records_of.Given as goal

abbrev pub invariant-loop-slot : goal.invariant-loop-slot
invariant-loop-slot g l =
    let disk = g.D.Disk in
    ReadSoFar disk l.count l.area l.slot l.recs.items l.fn.disk l.disk
