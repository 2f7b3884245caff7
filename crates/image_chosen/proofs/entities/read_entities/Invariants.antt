use Rattle.std.proofs.Common.{◌≡◌, ◌≤◌, length}
use Rattle.image_chosen_facts.specs.log_facts.Reads.{ReadsOnly}
use Rattle.image_chosen_facts.proofs.Reading.{ChosenTo, FormedTo, SpeltTo}
use Rattle.image_chosen.proofs.entities.read_entities.Given as goal

abbrev pub invariant-loop-number : goal.invariant-loop-number
invariant-loop-number g l =
    let disk = g.D.Disk in
    record {
      long : length l.entities.items ≡ l.number;
      chosen : ChosenTo l.log.recs.items l.entities.items l.number;
      formed : FormedTo l.entities.items l.number;
      spelt : disk.tells → SpeltTo (disk.reading l.fn.disk) l.entities.items l.number;
      later : disk.faults l.fn.disk ≤ disk.faults l.disk;
      same : ReadsOnly disk l.fn.disk l.disk;
    }
