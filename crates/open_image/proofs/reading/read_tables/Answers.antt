use Rattle.open_facts.specs.store_snapshots.OpenFaults.{why}
use Rattle.open_facts.proofs.store_snapshots_lemmas.Opened.{why_not}
use Rattle.open_facts.specs.Images.{HasPartsCause}
use Rattle.open_facts.proofs.Clauses.{parts_cause}
use Rattle.open_image.proofs.reading.read_tables.Goals as goal

pub returns-in_err-parts-clause-cause : goal.returns-in_err-parts-clause-cause
returns-in_err-parts-clause-cause g c =
    let fault = c.in_err-parts.field-0.0 in
    why_not _ (HasPartsCause g.D.Disk.tells (g.D.Disk.reading c.args.disk.now) c.args.log.now (g.D.Disk.faults c.args.disk.now) (g.D.Disk.faults c.read_parts.new.disk)) (why fault) c.from_residual.ensures.1
    (parts_cause g.D.Disk.tells (g.D.Disk.reading c.args.disk.now) c.args.log.now (g.D.Disk.faults c.args.disk.now) (g.D.Disk.faults c.read_parts.new.disk) fault c.in_err-parts.ensures.foreign c.in_err-parts.ensures.cause)
